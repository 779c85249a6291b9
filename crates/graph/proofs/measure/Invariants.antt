-- `graph::measure` meets its contract: after i turns the first i places hold sizes, the others numbers still. Assumes nothing.
use Rattle.std.specs.Prelude.{◌≤◌, ◌≡◌}
use Rattle.theory.specs.Prelude.{ℕ, List, ℤ, length, take, drop}
use Rattle.sheet.specs.Facts.{Facts}
use Rattle.graph.specs.declared.Front.{Front}
use Rattle.graph.specs.Lent.{SheetIn, sizes_of}
use Rattle.graph.proofs.measure.Given as goal

pub record Turn (h : Front) (start : List ℕ) (codes : List ℤ) (radii : List ℕ) (sizes : List ℤ) (i : ℕ) : Type 0 where
  pub few : h.e ≤ 200
  pub places : length sizes ≡ 200
  pub left : drop i sizes ≡ drop i codes
  pub made : (f : Facts) (near : List ℕ) → SheetIn f h near start codes radii → take i sizes ≡ take i (sizes_of f)

abbrev pub invariant-loop-i : goal.invariant-loop-i
invariant-loop-i l = Turn l.h l.start l.initial.sizes l.radii l.sizes l.i
