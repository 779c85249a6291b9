-- A bound on the report's length: 42 + 37 * e - 6 * steps bytes for every list of merges, at most 4,667 on a sheet that is not over. A step line
-- has at most 57 bytes; the line of a cluster of m elements has 27 + 3m at most, and 4 for each of the 2m - 3 constraints it rests on; e is the
-- clusters left and twice the steps, and the sum of 2m - 3. Assumes nothing.
use Rattle.std.specs.Prelude.{◌+◌, ◌*◌, ◌≤◌, ◌<◌, ◌≡◌, ◌≢◌, ◌∷◌, ◌-ℤ◌}
use Rattle.theory.specs.Prelude.{ℕ, zero, suc, arith, Bool, true, false, List, [], ltb, eqb, ones, ℤ, nat_abs}
use Rattle.theory.specs.Prelude.{length, length-append}
use Rattle.theory.specs.Set.{◌∩◌, full}
use Rattle.theory.specs.Set.Laws.{size-full}
use Rattle.theory.specs.Constraints.{NotOver, Below, Pairs}
use Rattle.theory.specs.Constraints.Laws.{carried-full}
use Rattle.theory.specs.Merge.{Merge, slot, three, joint, OpenAt, put, Valid, final, total, living, left, weight, weights}
use Rattle.theory.specs.Merge.Count.{steps-left, weights-kept}
use Rattle.theory.specs.Merge.Numbered.{alive-lt, length-put}
use Rattle.theory.specs.Merge.Threes.{size-joint}
use Rattle.theory.specs.Plan.{ascending}
use Rattle.theory.specs.Plan.Order.{open-ascending}
use Rattle.theory.specs.Placement.{by_order, against, triangle, strip, strip_of, placed, size_at, initial, joint_kind, ways}
use Rattle.theory.specs.Rests.{rests_on}
use Rattle.theory.specs.Rests.Laws.{carrying}
use Rattle.space.specs.Text.{decimal}
use Rattle.space.specs.Text.Laws.{decimal-1}
use Rattle.theory.specs.Graph.{SizedGraph, step_of, steps_from, steps_of}
use Rattle.theory.specs.Graph.Laws.{length-steps}
use Rattle.theory.specs.declared.Verdict.{Verdict}
use Rattle.theory.specs.declared.JointKind.{JointKind}
use Rattle.theory.specs.declared.JointKind.TheVariants.{Ppp, Ppl, Pll, Lll}
use Rattle.theory.specs.declared.Ways.TheVariants.{Unknown}
use Rattle.theory.specs.declared.Step.{Step}
use Rattle.report.specs.Elements.Laws.{elements-size, constraints-size}
use Rattle.report.specs.Report.{ways_name, step_line, slot_line, step_lines, cluster_lines, report}
use Rattle.report.specs.Pieces.{Small, AllSmall}
use Rattle.space.specs.Text.Laws.{decimal-length}
use Rattle.report.specs.Report.Length.{decimal-two, verdict-length, elements-length, step-length, slot-length, report-length}

-- ---- step lines

-- a joint of three elements, and at most nine placements
pub record Modest (s : Step) : Type 0 where
  pub joint_three : ones s.joint ≤ 3
  pub ways_one : length (ways_name s.ways) ≤ 1

abbrev pub AllModest : List Step → Type 0
AllModest [] = Unit {0}
AllModest (s ∷ steps) = Modest s × AllModest steps

pub steps-short : (steps : List Step) → AllModest steps → length (step_lines steps) ≤ 57 * length steps
unfolding step_lines
steps-short [] h = omega arith
steps-short (s ∷ steps) h =
    omega (
      arith,
      length-append (step_line s) (step_lines steps),
      step-length s,
      elements-size s.joint,
      h.0.joint_three,
      h.0.ways_one,
      steps-short steps h.1,
    )

-- ---- cluster lines

-- a living cluster of m elements rests on 2m-3 constraints
abbrev Resting : ℕ → ℕ → Type 0
Resting a r = a ≢ 0 → ones r + 3 ≡ 2 * ones a

slot-short : (c a r : ℕ) → Resting a r → 2 * length (slot_line c a r) ≤ 63 * living a + 11 * weight a
slot-short c zero r h = omega (arith, slot-length c zero r)
slot-short c (suc a) r h =
    omega (arith, slot-length c (suc a) r, elements-size (suc a), constraints-size r, h (λ z. omega arith))

clusters-short : (c : ℕ) (slots rests : List ℕ) → ((n : ℕ) → Resting (slot slots n) (slot rests n))
    → 2 * length (cluster_lines c slots rests) ≤ 63 * left slots + 11 * weights slots
unfolding cluster_lines left weights total
clusters-short c [] rests h = omega arith
clusters-short c (a ∷ slots) [] h = omega arith
clusters-short c (a ∷ slots) (r ∷ rests) h =
    omega (
      arith,
      length-append (slot_line c a r) (cluster_lines (suc c) slots rests),
      slot-short c a r (h 0),
      clusters-short (suc c) slots rests (λ n. h (suc n)),
    )

-- ---- the report

report-short : (n e : ℕ) (v : Verdict) (steps : List Step) (slots rests : List ℕ) → n < 100 → AllModest steps
    → ((k : ℕ) → Resting (slot slots k) (slot rests k))
    → 2 * length (report n e v steps slots rests) ≤ 84 + 114 * length steps + 63 * left slots + 11 * weights slots
report-short n e v steps slots rests small modest resting =
    omega (
      arith,
      report-length n e v steps slots rests,
      verdict-length v,
      elements-length n e,
      decimal-two n small,
      decimal-length e,
      steps-short steps modest,
      clusters-short 0 slots rests resting,
    )

-- ---- the steps of a list of merges are modest

against-two : (x y : ℕ) → against x y ≤ 2
unfolding against
against-two x y = go (ltb y x) (ltb x y)
  where
    go : (a b : Bool) → by_order a b ≤ 2
    go true b = omega arith
    go false false = omega arith
    go false true = omega arith

strip-two : (lines a b : ℕ) (x y z : ℤ) → strip_of lines a b x y z ≤ 2
unfolding strip_of strip
strip-two lines a b x y z = go (eqb (a ∩ lines) 0) (eqb (b ∩ lines) 0)
  where
    go : (p q : Bool)
        → elim p [
          | true ↦ against (nat_abs (z -ℤ y)) (nat_abs x)
          | false ↦ elim q [ true ↦ against (nat_abs (z -ℤ x)) (nat_abs y) | false ↦ against (nat_abs (y -ℤ x)) (nat_abs z) ]
        ]
        ≤ 2
    go true q = against-two _ _
    go false true = against-two _ _
    go false false = against-two _ _

one-digit : (w : ℕ) → w ≤ 2 → length (decimal w) ≤ 1
one-digit w h = rw (decimal-1 w (omega arith)) (omega arith)

placed_one : (lines : ℕ) (k : JointKind) (a b : ℕ) (x y z : ℤ) → length (ways_name (placed lines k a b x y z)) ≤ 1
unfolding placed triangle
placed_one lines Ppp a b x y z = one-digit _ (against-two _ _)
placed_one lines Ppl a b x y z = one-digit _ (strip-two lines a b x y z)
placed_one lines Pll a b x y z = one-digit 1 (omega arith)
placed_one lines Lll a b x y z = omega arith

ways-one-digit : (lines e : ℕ) (sizes : List ℤ) (s : List ℕ) (m : Merge) → length (ways_name (ways lines e sizes s m)) ≤ 1
unfolding ways
ways-one-digit lines e sizes s m = go (initial e m)
  where
    go : (b : Bool)
        → length (ways_name (elim b [
          | true ↦
              placed lines (joint_kind lines (joint (three s m))) (slot s m.i) (slot s m.j) (size_at sizes m.i)
              (size_at sizes m.j) (size_at sizes m.k)
          | false ↦ Unknown
        ]))
        ≤ 1
    go true =
        placed_one lines (joint_kind lines (joint (three s m))) (slot s m.i) (slot s m.j) (size_at sizes m.i)
        (size_at sizes m.j) (size_at sizes m.k)
    go false = omega arith

modest-step : (g : SizedGraph) (s : List ℕ) (m : Merge) → OpenAt s m → Modest (step_of g s m)
unfolding step_of
modest-step g s m o = record {
  joint_three = omega (arith, size-joint (three s (ascending m)) (open-ascending s m o).open3);
  ways_one = ways-one-digit g.graph.lines (length g.graph.clusters) g.sizes s (ascending m);
}

pub modest-steps : (g : SizedGraph) (s : List ℕ) (p : List Merge) → Valid s p → AllModest (steps_from g s p)
unfolding steps_from
modest-steps g s [] v = tt
modest-steps g s (m ∷ p) v = (modest-step g s m v.0, modest-steps g (put s m) p v.1)

-- ---- and their numbers small

small-step : (g : SizedGraph) (s : List ℕ) (m : Merge) → OpenAt s m → length s < 256 → Small (step_of g s m)
unfolding step_of
small-step g s m o h =
    let a = open-ascending s m o in
    record {
      made_small = h;
      i_small = omega (arith, alive-lt s (ascending m).i a.livei);
      j_small = omega (arith, alive-lt s (ascending m).j a.livej);
      k_small = omega (arith, alive-lt s (ascending m).k a.livek);
    }

pub small-steps : (g : SizedGraph) (s : List ℕ) (p : List Merge) → Valid s p → length s + length p ≤ 256 → AllSmall (steps_from g s p)
unfolding steps_from
small-steps g s [] v h = tt
small-steps g s (m ∷ p) v h = (small-step g s m v.0 (omega arith), small-steps g (put s m) p v.1 (omega (arith, length-put s m)))

-- ---- every list of merges

module _ (g : SizedGraph) (pairs : Pairs g.graph.clusters) (p : List Merge) (valid : Valid g.graph.clusters p) (v : Verdict) where
  abbrev bytes : List ℕ
  bytes = report g.graph.n (length g.graph.clusters) v (steps_of g p) (final g.graph.clusters p) (rests_on (length g.graph.clusters) p)

  pub report-bound : g.graph.n < 100 → length bytes + 6 * length p ≤ 42 + 37 * length g.graph.clusters
  report-bound small =
      omega (
        arith,
        report-short g.graph.n (length g.graph.clusters) v (steps_of g p) (final g.graph.clusters p) (rests_on (length g.graph.clusters) p) small
            (modest-steps g g.graph.clusters p valid) (carrying g.graph.clusters pairs p valid).count,
        length-steps g g.graph.clusters p,
        steps-left g.graph.clusters pairs p valid,
        weights-kept g.graph.clusters pairs p valid,
      )

  -- a sheet that is not over
  pub report-most : 2 ≤ g.graph.n → g.graph.n ≤ 64 → Below g.graph.n g.graph.clusters → NotOver g.graph.clusters → length bytes ≤ 4667
  unfolding NotOver
  report-most two most below fine =
      omega (
        arith,
        report-bound (omega arith),
        fine (full g.graph.n) (omega (arith, size-full g.graph.n)),
        size-full g.graph.n,
        carried-full g.graph.n g.graph.clusters below,
      )
