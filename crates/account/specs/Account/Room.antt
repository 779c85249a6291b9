-- Room for 4,667 bytes takes the report of every accepted sheet, and of every accepted saved plan: rule 17 is not met. Assumes nothing.
use Rattle.std.specs.Prelude.{◌≤◌, ◌≡◌}
use Rattle.theory.specs.Prelude.{ℕ, arith, refl, List, length}
use Rattle.theory.specs.Constraints.{NotOver}
use Rattle.theory.specs.Over.Laws.{over_of-fine}
use Rattle.theory.specs.Merge.{Merge, Valid}
use Rattle.theory.specs.Plan.{plan_of}
use Rattle.theory.specs.Plan.Laws.{plan-of-maximal}
use Rattle.theory.specs.Finding.{Finding}
use Rattle.theory.specs.Finding.{Fine, First}
use Rattle.theory.specs.Graph.{finding_of}
use Rattle.sheet.specs.Facts.{Facts}
use Rattle.sheet.specs.Accepted.{Accepted}
use Rattle.sheet.specs.Accepted.Laws.{accepted-most, accepted-two}
use Rattle.sheet.specs.Graph.{graph_of, sized_of}
use Rattle.plans.specs.Check.{saved_steps_of}
use Rattle.report.specs.Report.Length.{over-long}
use Rattle.report.specs.Report.Bound.{report-most}
use Rattle.account.specs.Account.{list_report, report_by, report_of, saved_fault}
use Rattle.account.specs.Own.Proof.{paired, below, let_through, saved-maximal}

module _ (f : Facts) (a : Accepted f) where
  list-room : NotOver (graph_of f).clusters → (p : List Merge) → Valid (graph_of f).clusters p → length (list_report (sized_of f) p) ≤ 4667
  unfolding list_report
  list-room none p v = report-most (sized_of f) (paired f a) p v _ (accepted-two f a) (accepted-most f a) (below f a) none

  pub report-room : length (report_of (sized_of f)) ≤ 4667
  unfolding report_of
  report-room = go (finding_of (graph_of f)) refl
    where
      go : (o : Finding) → finding_of (graph_of f) ≡ o → length (report_by (sized_of f) o) ≤ 4667
      go Fine q =
          list-room (over_of-fine (graph_of f).n (graph_of f).clusters (paired f a) (below f a) q) (plan_of (graph_of f).clusters)
          (plan-of-maximal (graph_of f).clusters (paired f a)).valid
      go (First c x) q = omega (arith, over-long (graph_of f).n (length (graph_of f).clusters) c x)

  pub saved-room : (l : List ℕ) → saved_fault (graph_of f) l ≡ 0 → length (list_report (sized_of f) (saved_steps_of l)) ≤ 4667
  saved-room l h =
      list-room (over_of-fine (graph_of f).n (graph_of f).clusters (paired f a) (below f a) (let_through f a l h)) (saved_steps_of l)
      (saved-maximal f a l h).2.valid
