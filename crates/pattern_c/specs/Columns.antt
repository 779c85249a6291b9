-- The facts that the writer takes, in columns: one list for each field of the elements and of the constraints (document 01, "Refused"; document 02,
-- 2026-01).
use Rattle.std.specs.Prelude.{ℕ, zero, suc, ◌%◌, Bool, true, ◌&&◌, ◌||◌, cond, List, [], ◌∷◌, ◌++◌, eqb, ltb, leb, ℤ, pos, length, get_or}
use Rattle.sheet.specs.declared.Opening.{Opening}
use Rattle.sheet.specs.declared.Opening.TheVariants.{Pf01, Pf02}
use Rattle.sheet.specs.declared.Kind.{Kind}
use Rattle.sheet.specs.declared.Kind.TheVariants.{Point, Line, Circle}
use Rattle.sheet.specs.declared.Element.{Element}
use Rattle.sheet.specs.declared.Constraint.{Constraint}
use Rattle.sheet.specs.declared.Sheet.{Sheet}
use Rattle.sheet.specs.Facts.{blank_constraint}
use Rattle.sheet.specs.Field.{Field}
use Rattle.sheet.specs.Answer.{by_rule}
use Rattle.sheet.specs.Rules.{elements_in_range, size_by, fault_unless}
use Rattle.writer.specs.Write.{write_field}
pub mod Laws

-- what stands at the first k places
unfoldable pub places_of : {A : Type 0} → (ℕ → A) → ℕ → List A
places_of what zero = []
places_of what (suc k) = places_of what k ++ what k ∷ []

-- ---- the opening: 1 PF01, 2 PF02

abbrev pub opening_known : ℕ → Bool
opening_known o = leb 1 o && leb o 2

abbrev pub opening_by : ℕ → Opening
opening_by o = cond (eqb o 2) Pf02 Pf01

-- ---- the elements: their kinds, and the radii of the circles among them

-- kind 0 is a point, 1 a line, 2 a circle
abbrev pub kind_from : ℕ → ℕ → Kind
kind_from zero radius = Point
kind_from (suc zero) radius = Line
kind_from (suc (suc k)) radius = Circle radius

-- the first k kinds are such; one beyond the list is 3
unfoldable pub kinds_listed : List ℕ → ℕ → Bool
kinds_listed kinds zero = true
kinds_listed kinds (suc k) = kinds_listed kinds k && ltb (get_or kinds k 3) 3

-- a radius beyond the list is 0, which rule 19 refuses
abbrev pub element_in : List ℕ → List ℕ → ℕ → Element
element_in kinds radii i = record { kind = kind_from (get_or kinds i 3) (get_or radii i 0) }

-- ---- the constraints

-- one constraint from its numbers
abbrev pub constraint_from : ℕ → ℕ → ℕ → ℤ → Constraint
constraint_from first second map size = record { first = first; second = second; size = size_by map size }

-- bit 0 of the map does not stand: no size is given
abbrev pub unsized : List ℕ → ℕ → Bool
unsized maps i = eqb (get_or maps i 0 % 2) 0

-- place i lies within every list that its map needs: the ends and the map, and the sizes where one is given
abbrev pub listed : List ℕ → List ℕ → List ℕ → List ℤ → ℕ → Bool
listed firsts seconds maps sizes i =
    ltb i (length firsts) && (ltb i (length seconds) && (ltb i (length maps) && (unsized maps i || ltb i (length sizes))))

-- the blank constraint, which rule 6 refuses, where the place is not listed
abbrev pub constraint_in : List ℕ → List ℕ → List ℕ → List ℤ → ℕ → Constraint
constraint_in firsts seconds maps sizes i = cond (listed firsts seconds maps sizes i)
    (constraint_from (get_or firsts i 0) (get_or seconds i 0) (get_or maps i 0) (get_or sizes i (pos 0))) blank_constraint

-- ---- the sheet

unfoldable pub sheet_in_columns : ℕ → ℕ → ℕ → List ℕ → List ℕ → List ℕ → List ℕ → List ℕ → List ℤ → Sheet
sheet_in_columns opening n e kinds radii firsts seconds maps sizes = record {
  opening = opening_by opening;
  n = n;
  e = e;
  elements = places_of (element_in kinds radii) 64;
  constraints = places_of (constraint_in firsts seconds maps sizes) 200;
}

-- the rule of 1, 3 and 18 that refuses the columns, 0 where none does; then what the writer answers
abbrev pub columns_fault : ℕ → ℕ → List ℕ → ℕ
columns_fault opening n kinds =
    fault_unless (opening_known opening) 1 (fault_unless (elements_in_range n) 3 (fault_unless (kinds_listed kinds n) 18 0))

unfoldable pub columns_field : ℕ → ℕ → ℕ → List ℕ → List ℕ → List ℕ → List ℕ → List ℕ → List ℤ → Field (List ℕ)
columns_field opening n e kinds radii firsts seconds maps sizes =
    by_rule (columns_fault opening n kinds) (write_field (sheet_in_columns opening n e kinds radii firsts seconds maps sizes))
