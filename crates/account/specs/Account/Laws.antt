-- The report of a list of merges, from the arrays that hold the graph and the list. Assumes nothing.
use Rattle.std.specs.Prelude.{◌+◌, ◌*◌, ◌^◌, ◌≤◌, ◌<◌, ◌≡◌, ◌≢◌}
use Rattle.theory.specs.Prelude.{ℕ, arith, refl, sym, ap, ap₂, ◌∙◌, subst, List, ℤ, length, get_or, take}
use Rattle.theory.specs.Prelude.{length-take, get_or-take}
use Rattle.theory.specs.Merge.{slot, final}
use Rattle.theory.specs.Merge.Numbered.{alive-lt}
use Rattle.theory.specs.Constraints.{NotOver}
use Rattle.theory.specs.declared.Verdict.{Verdict}
use Rattle.theory.specs.declared.Step.{Step}
use Rattle.theory.specs.Graph.{SizedGraph, steps_of}
use Rattle.graph.specs.declared.Head.{Head}
use Rattle.graph.specs.Lent.{sized_in, Sound}
use Rattle.graph.specs.Lent.Sheets.{fine-few}
use Rattle.merges.specs.Run.{Run, run_of, Merged}
use Rattle.merges.specs.Run.Laws.{length-final}
use Rattle.engine.specs.Steps.{steps_in}
use Rattle.engine.specs.Steps.Laws.{steps-in-are}
use Rattle.theory.specs.Rests.{alone_from, rests_on}
use Rattle.theory.specs.Rests.Laws.{length-alone, rests-below}
use Rattle.rests.specs.Words.{Told}
use Rattle.rests.specs.Words.Laws.{words_are}
use Rattle.judge.specs.Judged.Laws.{steps-few, listed-verdict, finals_are, Settled}
use Rattle.report.specs.Report.{cluster_lines, report}
use Rattle.report.specs.Report.Laws.{clusters-same, length-wide, wide_at}
use Rattle.report.specs.Pieces.{wide, AllSmall}
use Rattle.report.specs.Report.Bound.{report-most, small-steps}
use Rattle.account.specs.Account.{report_with, list_report}

module _ (h : Head) (start : List ℕ) (sound : Sound h.n (take h.e start)) (count : length (take h.e start) ≡ h.e)
    (fine : NotOver (take h.e start)) {run : Run} (m : Merged (take h.e start) run) where
  pub room : (h.n ≤ 64) × (h.e ≤ 125) × (2 * run.steps ≤ h.e) × (run.steps ≤ 62)
  room =
      let few = fine-few sound fine in
      let half = steps-few (take h.e start) sound.simple.pairs m in
      (sound.most, omega (arith, few, count), omega (arith, half, count), omega (arith, few, half))

-- ---- its report

module _ (h : Head) (start : List ℕ) (sizes : List ℤ) (sound : Sound h.n (take h.e start)) (count : length (take h.e start) ≡ h.e)
    (fine : NotOver (take h.e start)) {run : Run} (m : Merged (take h.e start) run) where
  abbrev g : SizedGraph
  g = sized_in h start sizes

  steps_are : run.steps ≡ length m.p
  unfolding run_of
  steps_are = ap (λ (r : Run). r.steps) m.is

  -- its steps, and its report's length
  abbrev steps : List Step
  steps = steps_in h.lines h.e sizes start run.parts run.joints run.steps

  steps-list : steps ≡ steps_of g m.p
  steps-list =
      subst (λ (e : ℕ). steps_in h.lines e sizes start run.parts run.joints run.steps ≡ steps_of g m.p) count
      (steps-in-are g m.p run start sizes m.valid m.is (ap (λ (e : ℕ). take e start) count) (ap (λ (e : ℕ). take e sizes) count))

  pub all_small : AllSmall steps
  all_small =
      subst AllSmall (sym steps-list)
      (small-steps g g.graph.clusters m.p m.valid (omega (arith, count, room h start sound count fine m, steps_are)))

  short : (v : Verdict) → length (report_with g v m.p) ≤ 4667
  short v = report-most g sound.simple.pairs m.p m.valid v sound.two sound.most sound.below fine

  -- its clusters, and what they rest on
  used : length (final g.graph.clusters m.p) ≡ h.e + run.steps
  used = omega (arith, length-final m.p g.graph.clusters, count, steps_are)

  rests-long : length (final g.graph.clusters m.p) ≤ length (rests_on (length g.graph.clusters) m.p)
  unfolding rests_on
  rests-long = omega (
    arith,
    length-final m.p g.graph.clusters,
    length-final m.p (alone_from 0 (length g.graph.clusters)),
    length-alone (length g.graph.clusters) 0,
  )

  few-rests : (n : ℕ) → slot (rests_on (length g.graph.clusters) m.p) n < 2 ^ 128
  few-rests = rests-below 128 g.graph.clusters sound.simple.pairs (omega (arith, room h start sound count fine m, count)) m.p m.valid

  -- what they give is the list's own
  module _ {low high : List ℕ} (lows : Told 0 g.graph.clusters m.p low) (highs : Told 1 g.graph.clusters m.p high) where
    abbrev finals : List ℕ
    finals = take (h.e + run.steps) run.slots

    abbrev rests : List ℕ
    rests = take (h.e + run.steps) (wide low high)

    same-long : length low ≡ length high
    same-long = lows.long ∙ sym highs.long

    -- the words at a living cluster's number are the set that it rests on
    rest_at : (n : ℕ) → get_or (final g.graph.clusters m.p) n 0 ≢ 0 → get_or rests n 0 ≡ get_or (rests_on (length g.graph.clusters) m.p) n 0
    rest_at n live =
        let r = slot (rests_on (length g.graph.clusters) m.p) n in
        let l = alive-lt (final g.graph.clusters m.p) n live in
        get_or-take (h.e + run.steps) (wide low high) n 0 (omega (arith, used))
        ∙ wide_at low high n same-long
        ∙ ap₂ (λ (x y : ℕ). x * 2 ^ 64 + y) (highs.is n live) (lows.is n live)
        ∙ words_are r (few-rests n)

    lines_same : cluster_lines 0 (final g.graph.clusters m.p) rests ≡ cluster_lines 0 (final g.graph.clusters m.p) (rests_on (length g.graph.clusters) m.p)
    lines_same =
        clusters-same 0 (final g.graph.clusters m.p) rests (rests_on (length g.graph.clusters) m.p)
        (omega (arith, used, room h start sound count fine m, length-take (h.e + run.steps) (wide low high), length-wide low high same-long, lows.long))
        rests-long rest_at

    pub reported : (v : Verdict) → report h.n h.e v steps finals rests ≡ report_with g v m.p
    unfolding report
    reported v = rw (steps-list, finals_are g.graph.clusters sound.simple.pairs m count, lines_same, count)

    pub not-long : (v : Verdict) → length (report h.n h.e v steps finals rests) ≤ 4667
    not-long v = rw (reported v) (short v)

  -- with the verdict of the arrays
  pub settled-report : {v : Verdict} → Settled h run v → report_with g v m.p ≡ list_report g m.p
  unfolding list_report
  settled-report is = ap (λ (w : Verdict). report_with g w m.p) (listed-verdict g.graph sound.simple.pairs m {h = h} refl refl count is)
