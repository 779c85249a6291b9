-- Items in a block stand together where they stand one after another; a set's numbers from 0 on are its elements. Assumes nothing.
use Rattle.std.specs.Prelude.{◌+◌, ◌≤◌}
use Rattle.theory.specs.Prelude.{ℕ, arith, refl, ap, List, sets}
use Rattle.report.specs.Elements.{elements}
use Rattle.report.specs.Pieces.{numbers, above}
use Rattle.report.specs.Report.Laws.{above_zero}
use Rattle.report.specs.Report.Length.{set-most}
use Rattle.report.specs.Block.{Stands}
use Rattle.report.specs.Block.Laws.{stands-none, stands-all, stands-as, ◌then◌}
use Rattle.report.specs.Going.{Composes}

pub stands : Composes Stands
stands = record {
  none = stands-none;
  both = λ p q. p then q;
  some = λ space at xs. (sets space at xs, stands-all refl refl);
  next = λ p. p.next_is;
}

-- an element's number has at most two digits
pub from_zero : {space after : List ℕ} {at next : ℕ} (a : ℕ) → Stands space at (numbers (above 0 (elements a))) next after
    → Stands space at (numbers (elements a)) next after × (next ≤ at + 192)
from_zero a p =
    let put = stands-as (ap numbers (above_zero (elements a))) p in
    (put, omega (arith, put.next_is, set-most a))
