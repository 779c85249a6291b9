-- What the answer of a field's reading says, over the bytes s that it reads: the value with the bytes from the next cursor on, or the refusal
-- (document 01, "Where each form goes": each field read answers a value with the next cursor or a refusal number).
use Rattle.std.specs.Prelude.{ℕ, List, drop, Result, Ok, Err}
use Rattle.sheet.specs.Field.{Field, value, refused}
use Rattle.elements.specs.declared.fields.Cursor.{Cursor}
use Rattle.theory.specs.Rule.{rule_number}
use Rattle.theory.specs.declared.Rule.{Rule}
pub mod Numbers

-- a field's value with the next cursor, or the rule that refuses it
abbrev pub Read : Type 0 → Type 0
Read A = Result (A × Cursor) Rule

abbrev pub as_field : {A : Type 0} → List ℕ → Read A → Field A
as_field s (Ok (v, c)) = value v (drop c.at s)
as_field s (Err r) = refused (rule_number r)
