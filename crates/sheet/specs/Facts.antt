-- The facts of a sheet: its opening, its elements in order and its constraints in order. The counts n and e are the lengths. A `Sheet` of the code
-- holds them in blocks of 64 and 200 places, blank beyond the counts.
use Rattle.std.specs.Prelude.{ℕ, zero, suc, ◌+◌, ◌*◌, ◌/◌, ◌%◌, Bool, true, false, List, [], ◌∷◌, length, take, get_or}
use Rattle.theory.specs.Block.{block}
use Rattle.sheet.specs.declared.Opening.{Opening}
use Rattle.sheet.specs.declared.Opening.TheVariants.{Pf01, Pf02}
use Rattle.sheet.specs.declared.Kind.{Kind}
use Rattle.sheet.specs.declared.Kind.TheVariants.{Point, Line, Circle}
use Rattle.sheet.specs.declared.Element.{Element}
use Rattle.sheet.specs.declared.Size.TheVariants.{Missing}
use Rattle.sheet.specs.declared.Constraint.{Constraint}
use Rattle.sheet.specs.declared.Sheet.{Sheet}
pub mod Laws
pub mod Kinds

pub record Facts : Type 0 where
  pub opening : Opening
  pub elements : List Element
  pub constraints : List Constraint

-- ---- kinds

abbrev pub is_point : Kind → Bool
is_point Point = true
is_point Line = false
is_point (Circle r) = false

abbrev pub is_line : Kind → Bool
is_line Point = false
is_line Line = true
is_line (Circle r) = false

abbrev pub is_circle : Kind → Bool
is_circle Point = false
is_circle Line = false
is_circle (Circle r) = true

-- 0 of no circle
abbrev pub radius_of : Kind → ℕ
radius_of Point = 0
radius_of Line = 0
radius_of (Circle r) = r

-- ---- kinds as one number: a bit each under PF01 (document 01, "The sheet in bytes"), two bits each under PF02 (document 02, 2026-01)

abbrev pub kind_base : Opening → ℕ
kind_base Pf01 = 2
kind_base Pf02 = 4

abbrev pub kind_digit : Kind → ℕ
kind_digit Point = 0
kind_digit Line = 1
kind_digit (Circle r) = 2

-- the first n digits of the number
unfoldable pub kinds_of : Opening → ℕ → ℕ → List ℕ
kinds_of o zero m = []
kinds_of o (suc n) m = m % kind_base o ∷ kinds_of o n (m / kind_base o)

-- the number of the elements' kinds
unfoldable pub kinds_number : Opening → List Element → ℕ
kinds_number o [] = 0
kinds_number o (x ∷ xs) = kind_digit x.kind + kind_base o * kinds_number o xs

-- ---- the elements of a kind as one number: element i is bit i

abbrev pub bit_of : Bool → ℕ
bit_of true = 1
bit_of false = 0

unfoldable pub set_of : (Kind → Bool) → List Element → ℕ
set_of is [] = 0
set_of is (x ∷ xs) = bit_of (is x.kind) + 2 * set_of is xs

abbrev pub lines_of : List Element → ℕ
lines_of xs = set_of is_line xs

-- ---- the blocks of a sheet

abbrev pub blank_element : Element
blank_element = record { kind = Point }

abbrev pub kind_at : List Element → ℕ → Kind
kind_at elements i = (get_or elements i blank_element).kind

abbrev pub blank_constraint : Constraint
blank_constraint = record { first = 0; second = 0; size = Missing }

unfoldable pub sheet_of : Facts → Sheet
sheet_of f = record {
  opening = f.opening;
  n = length f.elements;
  e = length f.constraints;
  elements = block 64 blank_element f.elements;
  constraints = block 200 blank_constraint f.constraints;
}

-- the facts in a sheet's blocks: places beyond a count have no influence
abbrev pub facts_of : Sheet → Facts
facts_of s = record { opening = s.opening; elements = take s.n s.elements; constraints = take s.e s.constraints }
