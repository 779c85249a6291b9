-- The elements under PF02 in the bytes s: the kinds at a place, and the radii after them (document 02, 2026-01).
use Rattle.std.specs.Prelude.{◌+◌, ◌*◌, ◌/◌, ◌≡◌, ◌∷◌, Option, Some, None, Result, Ok, Err}
use Rattle.theory.specs.Prelude.{ℕ, true, false, List, [], eqb, length, take, drop, get_or}
use Rattle.sheet.specs.declared.Opening.TheVariants.{Pf02}
use Rattle.sheet.specs.declared.Element.{Element}
use Rattle.sheet.specs.declared.Kinds.{Kinds}
use Rattle.sheet.specs.Facts.{kinds_of, bit_of, is_circle, radius_of, kind_at}
use Rattle.sheet.specs.Field.{Field, value, refused, number}
use Rattle.sheet.specs.Rules.{kinds_known}
use Rattle.sheet.specs.Decode.{read_elements}
use Rattle.theory.specs.Rule.{rule_number}
use Rattle.theory.specs.declared.Rule.{Rule}
use Rattle.elements.specs.declared.fields.Cursor.{Cursor}
pub mod Laws
pub mod Elements

-- the number of the kinds of n elements
abbrev pub round_number : List ℕ → ℕ → ℕ → ℕ
round_number s at n = number (take ((n + 3) / 4) (drop at s))

-- its digits
abbrev pub round_kinds : List ℕ → ℕ → ℕ → List ℕ
round_kinds s at n = kinds_of Pf02 n (round_number s at n)

-- the places of a kind as a set
unfoldable pub places_of : ℕ → List ℕ → ℕ
places_of j [] = 0
places_of j (k ∷ ks) = bit_of (eqb k j) + 2 * places_of j ks

pub record SetsOf (ks : List ℕ) (kinds : Kinds) : Type 0 where
  pub lines_are : kinds.lines ≡ places_of 1 ks
  pub circles_are : kinds.circles ≡ places_of 2 ks
  pub known : kinds_known ks ≡ true

-- kinds as sets, if rule 18 refuses none
abbrev pub KindsOf : List ℕ → Option Kinds → Type 0
KindsOf ks (Some kinds) = SetsOf ks kinds
KindsOf ks None = kinds_known ks ≡ false

-- the radius of each circle stands in the list
abbrev pub RadiiStand : List Element → List ℕ → Type 0
RadiiStand es radii = (i : ℕ) → is_circle (kind_at es i) ≡ true → get_or radii i 0 ≡ radius_of (kind_at es i)

-- the element that stands at place i of the list after, which is otherwise the list before
pub record Stored (x : Element) (i : ℕ) (before after : List ℕ) : Type 0 where
  pub length_is : length after ≡ length before
  pub others : (j : ℕ) → (j ≡ i → ⊥) → get_or after j 0 ≡ get_or before j 0
  pub radius_is : is_circle x.kind ≡ true → get_or after i 0 ≡ radius_of x.kind

-- one element is read, or the rule that refuses it is answered
abbrev pub ElementRead : Field Element → List ℕ → ℕ → List ℕ → List ℕ → Result Cursor Rule → Type 0
ElementRead x s i before after (Ok c) = (e : Element) × (x ≡ value e (drop c.at s)) × Stored e i before after
ElementRead x s i before after (Err r) = x ≡ refused (rule_number r)

-- elements of such kinds are read from a place on, or the rule that refuses them is answered
abbrev pub RadiiRead : List ℕ → List ℕ → ℕ → List ℕ → Result Cursor Rule → Type 0
RadiiRead ks s from radii (Ok c) =
    (es : List Element) × (read_elements ks (drop from s) ≡ value es (drop c.at s)) × RadiiStand es radii
RadiiRead ks s from radii (Err r) = read_elements ks (drop from s) ≡ refused (rule_number r)
