-- What the reading of a sheet's elements answers, over the bytes s that it reads.
use Rattle.std.specs.Prelude.{◌≡◌, Ok, Err}
use Rattle.theory.specs.Prelude.{ℕ, List, length, drop}
use Rattle.sheet.specs.declared.Opening.{Opening}
use Rattle.sheet.specs.declared.Element.{Element}
use Rattle.sheet.specs.declared.Kinds.{Kinds}
use Rattle.sheet.specs.Facts.Kinds.{KindsIn}
use Rattle.sheet.specs.Field.{Field, value, refused, next}
use Rattle.sheet.specs.Decode.{read_kinds, read_elements}
use Rattle.theory.specs.Rule.{rule_number}
use Rattle.elements.specs.Fields.{Read}
pub mod Laws

-- kinds and radii, one after the other
abbrev pub elements_field : Opening → ℕ → List ℕ → Field (List Element)
elements_field o n s = next (read_kinds o n s) read_elements

-- the elements that are read stand in the sets and in the radii, or the rule that refuses them is answered
abbrev pub ElementsRead : Field (List Element) → List ℕ → ℕ → List ℕ → Read Kinds → Type 0
ElementsRead x s n radii (Ok (k, c)) = (es : List Element) × (x ≡ value es (drop c.at s)) × (length es ≡ n) × KindsIn es k radii
ElementsRead x s n radii (Err r) = x ≡ refused (rule_number r)
