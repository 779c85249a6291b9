-- The sheet of document 01 alone ("The sheet in bytes" and "Refused": rules 1 to 10; document 02, 2026-11: tags are dropped): what its bytes say and
-- what bytes its facts have, with no word of circles. `First/Laws` shows that PF01 sheets are read and written so. Assumes nothing.
use Rattle.std.specs.Prelude.{◌+◌, ◌/◌, ◌%◌, ◌^◌, ◌&&◌, ◌||◌, ◌∷◌, ◌++◌}
use Rattle.theory.specs.Prelude.{ℕ, zero, suc, Bool, true, false, not, List, [], eqb, ltb, ℤ, pos, length}
use Rattle.theory.specs.Prelude.{drop}
use Rattle.sheet.specs.declared.Opening.TheVariants.{Pf01}
use Rattle.sheet.specs.declared.Kind.{Kind}
use Rattle.sheet.specs.declared.Kind.TheVariants.{Point, Line}
use Rattle.sheet.specs.declared.Element.{Element}
use Rattle.sheet.specs.declared.PairKind.{PairKind}
use Rattle.sheet.specs.declared.Size.{Size}
use Rattle.sheet.specs.declared.Size.TheVariants.{Given, Missing, Tangent, OtherTangent, Unfit}
use Rattle.sheet.specs.declared.Constraint.{Constraint}
use Rattle.sheet.specs.Facts.{Facts, kind_at, lines_of}
use Rattle.sheet.specs.Field.{Field, value, refused, next, demand, field, byte, byte_by, signed32, unsigned32, digits, begins}
use Rattle.sheet.specs.Rules.{elements_in_range, constraints_in_range, ends_ascend, stands, pair_of, size_optional, size_in_range}
use Rattle.sheet.specs.Decode.{tag}
pub mod Laws
pub mod Fits
pub mod Written

-- the opening: PF01 in ASCII
abbrev pub opening : List ℕ
opening = 0x50 ∷ 0x46 ∷ 0x30 ∷ 0x31 ∷ []

-- ---- the kinds: n/8 bytes rounded up, a bit each; 1 is a line, 0 a point; unused bits are 0 (rule 4)

abbrev pub kind_of : ℕ → Kind
kind_of zero = Point
kind_of (suc bit) = Line

unfoldable pub elements_of : ℕ → ℕ → List Element
elements_of zero m = []
elements_of (suc n) m = record { kind = kind_of (m % 2) } ∷ elements_of n (m / 2)

unfoldable pub elements : ℕ → List ℕ → Field (List Element)
elements n s = next (field ((n + 7) / 8) s) (λ m s1. demand (ltb m (2 ^ n)) 4 (value (elements_of n m) s1))

-- ---- a constraint: its ends, its bit map, then the fields whose bit stands

-- 8: bits 2 to 7 are 0, and a size may be missing only for point and line
abbrev pub map_allowed : PairKind → ℕ → Bool
map_allowed p map = ltb map 4 && (eqb (map % 2) 1 || size_optional p)

-- bit 0: size, a signed 32-bit number
unfoldable pub size : PairKind → Bool → List ℕ → Field Size
size p false s = value Missing s
size p true s = next (field 4 s) (λ u s1. demand (size_in_range p (signed32 u)) 9 (value (Given (signed32 u)) s1))

-- bit 1: tag, read and dropped
unfoldable pub dimension : PairKind → List ℕ → Field Size
dimension p s =
    next (byte_by (map_allowed p) 8 s) (λ map s1.
    next (size p (eqb (map % 2) 1) s1) (λ z s2. next (tag (eqb (map / 2) 1) s2) (λ t s3. value z s3)))

unfoldable pub constraint : List Element → List Constraint → List ℕ → Field Constraint
constraint es done s =
    next (byte s) (λ a s1.
    next (byte s1) (λ b s2.
    demand (ends_ascend (length es) a b) 6 (demand (not (stands done a b)) 7
    (next (dimension (pair_of (kind_at es a) (kind_at es b)) s2) (λ z s3. value (record { first = a; second = b; size = z }) s3)))))

-- so many constraints after those in done, and then the end (rule 10)
unfoldable pub constraints : List Element → ℕ → List Constraint → List ℕ → Field (List Constraint)
constraints es zero done [] = value done []
constraints es zero done (b ∷ s) = refused 10
constraints es (suc k) done s = next (constraint es done s) (λ c s1. constraints es k (done ++ c ∷ []) s1)

-- ---- the sheet

-- what follows the kinds
unfoldable pub read_constraints : List Element → List ℕ → Field Facts
read_constraints es s =
    next (byte_by constraints_in_range 5 s) (λ e s1.
    next (constraints es e [] s1) (λ cs s2. value (record { opening = Pf01; elements = es; constraints = cs }) s2))

unfoldable pub read_first : List ℕ → Field Facts
read_first s =
    demand (begins opening s) 1
    (next (byte_by elements_in_range 3 (drop 4 s)) (λ n s1. next (elements n s1) (λ es s2. read_constraints es s2)))

-- ---- the bytes of facts; no bit stands for a contact, which document 01 has not

abbrev pub size_bit : Size → ℕ
size_bit (Given z) = 1
size_bit Missing = 0
size_bit Tangent = 0
size_bit OtherTangent = 0
size_bit Unfit = 0

-- a missing size means 0
abbrev pub size_given : Size → ℤ
size_given (Given z) = z
size_given Missing = pos 0
size_given Tangent = pos 0
size_given OtherTangent = pos 0
size_given Unfit = pos 0

abbrev pub size_bytes : Size → List ℕ
size_bytes (Given z) = digits 4 (unsigned32 z)
size_bytes Missing = []
size_bytes Tangent = []
size_bytes OtherTangent = []
size_bytes Unfit = []

unfoldable pub constraints_bytes : List Constraint → List ℕ
constraints_bytes [] = []
constraints_bytes (c ∷ cs) = (c.first ∷ c.second ∷ size_bit c.size ∷ size_bytes c.size) ++ constraints_bytes cs

unfoldable pub first_bytes : Facts → List ℕ
first_bytes f =
    opening ++ (length f.elements
    ∷ digits ((length f.elements + 7) / 8) (lines_of f.elements) ++ (length f.constraints ∷ constraints_bytes f.constraints))
