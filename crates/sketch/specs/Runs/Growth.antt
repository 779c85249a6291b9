-- A held sketch after any run of asks and placings: the parts of the sheet that was held stay whole (document 02, 2026-13). Assumes nothing.
use Rattle.std.specs.Prelude.{◌≢◌}
use Rattle.theory.specs.Prelude.{sym, subst, List}
use Rattle.theory.specs.Constraints.{Perm, same}
use Rattle.theory.specs.Graph.{verdict_of}
use Rattle.theory.specs.Graph.Laws.{fine-not-over}
use Rattle.theory.specs.declared.Verdict.TheVariants.{Over}
use Rattle.sheet.specs.declared.Sheet.{Sheet}
use Rattle.sheet.specs.Facts.{facts_of}
use Rattle.sheet.specs.Rules.{sheet_fault}
use Rattle.sheet.specs.Rules.Laws.{none-else}
use Rattle.sheet.specs.Graph.{graph_of, over_fault}
use Rattle.sheet.specs.Graph.Laws.{fault-none}
use Rattle.sheet.specs.Growth.{Grown, NeverSmaller}
use Rattle.sheet.specs.Growth.Proof.{never-smaller}
use Rattle.sketch.specs.Runs.{Event, after_all, hold_fault, Held}
use Rattle.sketch.specs.Runs.Proof.{held-accepted, runs}

held-not-over : (s : Sheet) → Held s → verdict_of (graph_of (facts_of s)) ≢ Over
unfolding hold_fault
held-not-over s h =
    let g = graph_of (facts_of s) in fine-not-over g (fault-none g (none-else (sheet_fault s) (over_fault g) h.no_fault).1)

module _ (s : Sheet) (h : Held s) (events : List Event) where
  -- the record after a run is the sheet with the placed ones last
  placed-grown : Grown (facts_of s) (facts_of (after_all s events))
  placed-grown =
      let r = runs.run s h events in
      record {
        same = record { opening = r.opening; elements = r.elements };
        more = record { added = _; order = subst (Perm _) (sym r.constraints) same };
      }

  pub placed-never-smaller : NeverSmaller (facts_of s) (facts_of (after_all s events))
  placed-never-smaller =
      let later = (runs.run s h events).held in
      never-smaller (held-accepted (after_all s events) later) (held-not-over (after_all s events) later) placed-grown
