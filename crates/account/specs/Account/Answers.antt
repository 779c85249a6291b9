-- What a judgement says of the report and of what the final clusters rest on. Assumes nothing.
use Rattle.std.specs.Prelude.{◌<◌, ◌≡◌}
use Rattle.theory.specs.Prelude.{ℕ, refl, sym, ap, ◌∙◌, List, [], ℤ, length}
use Rattle.theory.specs.Constraints.{NotOver}
use Rattle.theory.specs.Merge.{final}
use Rattle.theory.specs.Over.Laws.{over_of-first}
use Rattle.theory.specs.Plan.{plan_of}
use Rattle.theory.specs.Plan.Laws.{plan-of-maximal}
use Rattle.theory.specs.Finding.{First}
use Rattle.theory.specs.declared.Verdict.{Verdict}
use Rattle.theory.specs.Graph.{Graph, SizedGraph, finding_of}
use Rattle.graph.specs.Lent.{Sound}
use Rattle.graph.specs.Lent.Sheets.{found-fine}
use Rattle.merges.specs.Run.{run_in, Merged}
use Rattle.judge.specs.declared.Found.{Found}
use Rattle.judge.specs.Judged.{Judged, listed, judged_by, judged_of}
use Rattle.judge.specs.Found.{judged_with, FoundIn}
use Rattle.report.specs.Report.{over_report}
use Rattle.theory.specs.Rests.{rests_on}
use Rattle.account.specs.Resting.{words_of, rests_by, rest_numbers}
use Rattle.account.specs.Account.{report_with, list_report, report_by, report_of}

module _ (g : Graph) (sound : Sound g.n g.clusters) where
  -- the graph with whatever sizes
  abbrev with : List ℤ → SizedGraph
  with sizes = record { graph = g; sizes = sizes }

  -- an over sheet
  pub record OverFound (first set : ℕ) : Type 0 where
    pub first_below : first < length g.clusters
    pub report_is : (sizes : List ℤ) → over_report g.n (length g.clusters) first set ≡ report_of (with sizes)
    pub rests_none : [] ≡ rest_numbers g

  pub over-found : {first set : ℕ} → finding_of g ≡ First first set → OverFound first set
  unfolding report_of rest_numbers
  over-found q = record {
    first_below = (over_of-first g.n g.clusters sound.simple.pairs sound.below _ _ q).listed;
    report_is = λ sizes. sym (ap (report_by (with sizes)) q);
    rests_none = sym (ap (rests_by g) q);
  }

  -- one that is not
  module _ {f : Found} {parts joints slots : List ℕ} (j : FoundIn g f parts joints slots) where
    pub record PlanFound : Type 0 where
      pub not_over : NotOver g.clusters
      pub merged : Merged g.clusters (run_in f.steps parts joints slots)
      pub plan_is : merged.p ≡ plan_of g.clusters
      pub report_is : (sizes : List ℤ) → report_with (with sizes) f.verdict merged.p ≡ report_of (with sizes)
      pub rests_are : words_of (final g.clusters merged.p) (rests_on (length g.clusters) merged.p) ≡ rest_numbers g

    planned-is : judged_with f (run_in f.steps parts joints slots) ≡ listed g (plan_of g.clusters)
    unfolding judged_of
    planned-is = j.judged ∙ ap (judged_by g) j.fine

    pub plan-found : PlanFound
    unfolding report_of rest_numbers list_report listed
    plan-found =
        let p = plan_of g.clusters in
        record {
          not_over = found-fine sound j.fine;
          merged = record { p = p; valid = (plan-of-maximal g.clusters sound.simple.pairs).valid; is = ap (λ (d : Judged). d.run) planned-is };
          plan_is = refl;
          report_is = λ sizes.
              ap (λ (w : Verdict). report_with (with sizes) w p) (ap (λ (d : Judged). d.verdict) planned-is)
              ∙ sym (ap (report_by (with sizes)) j.fine);
          rests_are = sym (ap (rests_by g) j.fine);
        }
