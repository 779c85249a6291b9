-- Facts that no rule refuses: what a sheet can say (document 01, "Refused, in checking order": rules 3 and 5 to 9; document 02, 2026-01: 18 to 20).
use Rattle.std.specs.Prelude.{◌≡◌}
use Rattle.theory.specs.Prelude.{true, [], length}
use Rattle.sheet.specs.Facts.{Facts}
use Rattle.sheet.specs.Rules.{elements_in_range, elements_fault, constraints_in_range, constraints_fault}
pub mod Laws

pub record Accepted (f : Facts) : Type 0 where
  pub elements_fit : elements_in_range (length f.elements) ≡ true
  pub elements_allowed : elements_fault f.opening f.elements ≡ 0
  pub constraints_fit : constraints_in_range (length f.constraints) ≡ true
  pub no_fault : constraints_fault f.elements [] f.constraints ≡ 0
