-- The arrays of a graph and of its plan give a cluster's steps, which are few. Assumes nothing.
use Rattle.std.specs.Prelude.{◌+◌, ◌-◌, ◌*◌, ◌≤◌, ◌<◌, ◌≡◌, ◌≢◌, ◌∷◌, ◌++◌}
use Rattle.theory.specs.Prelude.{ℕ, zero, suc, arith, refl, sym, ap, ◌∙◌, List, [], map, ones, ℤ, pos}
use Rattle.theory.specs.Prelude.{length, get_or, take, length-append, get_or-take}
use Rattle.theory.specs.Constraints.{Pairs, NotOver}
use Rattle.theory.specs.Merge.{Merge, slot, Valid, final, joints}
use Rattle.theory.specs.Merge.Count.{steps-left}
use Rattle.theory.specs.Plan.{ascending, plan_of}
use Rattle.theory.specs.Plan.Laws.{plan-of-maximal}
use Rattle.theory.specs.Graph.{SizedGraph, steps_of}
use Rattle.theory.specs.Graph.Laws.{length-steps}
use Rattle.theory.specs.declared.Step.{Step}
use Rattle.sheet.specs.Field.{refused}
use Rattle.graph.specs.declared.Head.{Head}
use Rattle.graph.specs.Lent.{graph_in, sized_in, Sound, Drawn}
use Rattle.graph.specs.Lent.Sheets.{counted, fine-few}
use Rattle.merges.specs.Run.{Run, flat, run_of}
use Rattle.merges.specs.Run.Laws.{length-final}
use Rattle.engine.specs.Steps.{step_from, step_at, blank_step}
use Rattle.engine.specs.Steps.Laws.{read-lists, steps-from}
use Rattle.judge.specs.declared.Found.{Found}
use Rattle.judge.specs.Found.{FoundIn}
use Rattle.judge.specs.Found.Laws.{PlanFound, found-plan}
use Rattle.report.specs.Report.{step_lines}
use Rattle.report.specs.Report.Bound.{Modest, AllModest, steps-short, modest-steps}
use Rattle.part.specs.Part.{part_steps_of, plan_step, cluster_steps, held_field}
use Rattle.part.specs.Part.Laws.{part_same, part-all}
use Rattle.part.specs.Part.Count.{Counted, counted_start, counted-run}
use Rattle.part.specs.declared.Tally.{Tally}
use Rattle.part.specs.Measured.{Is}
use Rattle.part.specs.Tallies.{Lower, Listed, Room, nothing, Tallied}
use Rattle.part.specs.Tallies.Laws.{lines-append, lines_none, listed-as, room_as}
use Rattle.part.specs.Tallies.Answers.{tallied-listed}
use Rattle.part.specs.Tallies.Judged.{number-taken, number-refused}

-- a step line of a list of merges has at most 57 bytes
modest-in : (l : List Step) (t : ℕ) → AllModest l → t < length l → Modest (get_or l t blank_step)
modest-in [] t a b = absurd (omega arith)
modest-in (x ∷ l) zero a b = a.0
modest-in (x ∷ l) (suc t) a b = modest-in l t a.1 (omega arith)

abbrev Short : List Step → Type 0
Short l = length (step_lines l) ≤ 57 * length l

short-both : (xs ys : List Step) → Short xs → Short ys → Short (xs ++ ys)
short-both xs ys a b = omega (arith, ap length (lines-append xs ys), length-append (step_lines xs) (step_lines ys), length-append xs ys)

-- ---- a graph's own plan

module _ (g : SizedGraph) (pairs : Pairs g.graph.clusters) where
  abbrev e : ℕ
  e = length g.graph.clusters

  abbrev p : List Merge
  p = plan_of g.graph.clusters

  valid : Valid g.graph.clusters p
  valid = (plan-of-maximal g.graph.clusters pairs).valid

  pub counted-plan : Counted e (plan_step g) (final g.graph.clusters p)
  counted-plan =
      counted-run e (plan_step g) g p g.graph.clusters valid (counted_start e (plan_step g) g.graph.clusters pairs refl)
      (λ t b.
      let z : e - e + t ≡ t = omega arith in
      ap (plan_step g) z)

  module _ (c : ℕ) (below : c < e + length p) where
    in-final : c < length (final g.graph.clusters p)
    in-final = omega (arith, length-final p g.graph.clusters)

    pub lower-plan : Lower e (plan_step g) c
    lower-plan = counted-plan.lower c in-final

    -- twice the steps are at most e
    few_steps : 2 * length (cluster_steps g c) ≤ e
    unfolding cluster_steps
    few_steps = counted-plan.few c in-final

    few_bytes : length (step_lines (cluster_steps g c)) ≤ 57 * length (cluster_steps g c)
    unfolding cluster_steps
    few_bytes = part-all e (plan_step g) Short (omega (arith, ap length lines_none)) short-both c each lower-plan
      where
        each : (t : ℕ) → e + t ≤ c → Short (plan_step g t ∷ [])
        each t b =
            steps-short (plan_step g t ∷ [])
            (modest-in (steps_of g p) t (modest-steps g g.graph.clusters p valid) (omega (arith, length-steps g g.graph.clusters p)), tt)

    -- of a graph that is not over: 62 steps and 3,534 bytes at most
    pub short-plan : Sound g.graph.n g.graph.clusters → NotOver g.graph.clusters
        → (length (cluster_steps g c) ≤ 62) × (length (step_lines (cluster_steps g c)) ≤ 3534)
    short-plan sound fine = (omega (arith, few_steps, fine-few sound fine), omega (arith, few_bytes, few_steps, fine-few sound fine))

    -- a final cluster of m elements has m - 2 steps
    pub steps_elements : slot (final g.graph.clusters p) c ≢ 0 → length (cluster_steps g c) + 2 ≡ ones (slot (final g.graph.clusters p) c)
    unfolding cluster_steps
    steps_elements z = omega (arith, counted-plan.weighs c z)

-- ---- in arrays

module _ {h : Head} {near start : List ℕ} (sizes : List ℤ) (d : Drawn h near start) {f : Found} {parts knots slots : List ℕ}
    (j : FoundIn (graph_in h start) f parts knots slots) where
  abbrev held_graph : SizedGraph
  held_graph = sized_in h start sizes

  abbrev cs : List ℕ
  cs = take h.e start

  count : length cs ≡ h.e
  count = counted d

  pairs-held : Pairs cs
  pairs-held = d.sound.simple.pairs

  found : PlanFound (graph_in h start) j
  found = found-plan _ d.sound j

  pub steps_are : f.steps ≡ length (plan_of cs)
  unfolding run_of
  steps_are = ap (λ (r : Run). r.steps) found.run_is

  few : h.e ≤ 125
  few = omega (arith, fine-few d.sound found.not_over, count)

  -- a number that no cluster has
  pub no_cluster : (c : ℕ) → h.e + f.steps ≤ c → held_field held_graph c ≡ refused 26
  no_cluster c above = number-refused held_graph found.none c (omega (arith, steps_are, count))

  pub few-run : 2 * f.steps ≤ h.e
  few-run = omega (arith, steps-left cs pairs-held (plan_of cs) (plan-of-maximal cs pairs-held).valid, steps_are, count)

  module _ (c : ℕ) (below : c < h.e + f.steps) where
    in_plan : c < length cs + length (plan_of cs)
    in_plan = omega (arith, steps_are, count)

    abbrev held : ℕ → Step
    held = step_at h.lines h.e sizes start parts knots

    held-is : (t : ℕ) → t < f.steps → held t ≡ plan_step held_graph t
    unfolding run_of
    held-is t b =
        (λ z. step_from h.lines (sym count z) sizes start (sym count z) (found.run_is z).parts (found.run_is z).joints t)
        ∙ read-lists h.lines (length cs) sizes start (flat (map ascending (plan_of cs))) (joints cs (plan_of cs)) t
        ∙ steps-from held_graph start sizes (λ n l. sym (get_or-take h.e sizes n (pos 0) (omega (arith, count)))) (plan_of cs) cs (length cs) t
        (plan-of-maximal cs pairs-held).valid (λ n l z. get_or-take h.e start n 0 (omega (arith, count))) (omega arith) refl
        (omega (arith, steps_are))

    lower-here : Lower (length cs) (plan_step held_graph) c
    lower-here = lower-plan held_graph pairs-held c in_plan

    lower : Lower h.e held c
    lower = record {
      i_lower = λ t b. omega (arith, lower-here.i_lower t (omega (arith, count)), ap (λ (x : Step). x.i) (held-is t (omega arith)), count);
      j_lower = λ t b. omega (arith, lower-here.j_lower t (omega (arith, count)), ap (λ (x : Step). x.j) (held-is t (omega arith)), count);
      k_lower = λ t b. omega (arith, lower-here.k_lower t (omega (arith, count)), ap (λ (x : Step). x.k) (held-is t (omega arith)), count);
    }

    part-is : part_steps_of h.e held c ≡ cluster_steps held_graph c
    unfolding cluster_steps
    part-is =
        part_same h.e held (plan_step held_graph) c (λ t b. held-is t (omega arith)) lower
        ∙ ap (λ (n : ℕ). part_steps_of n (plan_step held_graph) c) (sym count)

    short : (length (cluster_steps held_graph c) ≤ 62) × (length (step_lines (cluster_steps held_graph c)) ≤ 3534)
    short = short-plan held_graph pairs-held c in_plan d.sound found.not_over

    -- what the recursion asks
    pub asks : ((h.e ≤ 125) × (c < h.e + 62) × Lower h.e held c) × Room nothing (part_steps_of h.e held c)
    asks = (
      (few, omega (arith, few-run, few), lower),
      room_as (sym part-is) (record { steps_fit = omega (arith, short.0); bytes_fit = omega (arith, short.1) }),
    )

    -- and what it has listed
    pub all_listed : {space after : List ℕ} {r : Tally} → Listed space nothing (part_steps_of h.e held c) r after
        → Tallied (held_field held_graph c) space (Is r) after
    all_listed l = tallied-listed (number-taken held_graph found.none c in_plan) (listed-as part-is l) short.1
