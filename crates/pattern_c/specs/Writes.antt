-- What is promised of `pattern_write`, which takes a sheet's facts in columns. Document 01, "Refused": which rules
-- refuse it, and no other; demand 2: what it writes is read as those facts.
use Rattle.std.specs.Prelude.{◌≡◌, ◌⊎◌, ◌↔◌}
use Rattle.theory.specs.Prelude.{ℕ, false, List, ℤ}
use Rattle.sheet.specs.Field.{value, refused}
use Rattle.sheet.specs.Refusals.{By}
use Rattle.sheet.specs.Refusals.Laws.{OfFacts}
use Rattle.pattern.specs.ReadWrite.{Written}
use Rattle.pattern_c.specs.Columns.{opening_known, sheet_in_columns, columns_field}
pub mod Proof

-- the rules of the writer, and 1
abbrev pub Columned : ℕ → Type 0
Columned k = (k ≡ 1) ⊎ OfFacts k

pub record Writes (opening n e : ℕ) (kinds radii firsts seconds maps : List ℕ) (sizes : List ℤ) : Type 0 where
  pub rules : By Columned (columns_field opening n e kinds radii firsts seconds maps sizes)
  -- 1 if and only if the opening is neither 1 nor 2
  pub first : (opening_known opening ≡ false)
      ↔ (columns_field opening n e kinds radii firsts seconds maps sizes ≡ refused 1)
  pub written : (bytes rest : List ℕ)
      → columns_field opening n e kinds radii firsts seconds maps sizes ≡ value bytes rest
      → Written (sheet_in_columns opening n e kinds radii firsts seconds maps sizes) bytes
