-- Rules 3 to 9 (document 01, "Refused, in checking order") and 18 to 20 (document 02, 2026-01), each as what it takes. The reader tries them field by
-- field; the writer and a held sketch try them on facts.
use Rattle.std.specs.Prelude.{ℕ, zero, suc, ◌*◌, ◌-◌, ◌/◌, ◌%◌, ◌^◌, Bool, true, false, ◌&&◌, ◌||◌, cond, not, List, [], ◌∷◌, ◌++◌, eqb, ltb, leb, ℤ, pos, negsuc, length}
use Rattle.std.specs.Int.Signed.{le_z}
use Rattle.sheet.specs.declared.Opening.{Opening}
use Rattle.sheet.specs.declared.Opening.TheVariants.{Pf01, Pf02}
use Rattle.sheet.specs.declared.Kind.{Kind}
use Rattle.sheet.specs.declared.Element.{Element}
use Rattle.sheet.specs.declared.PairKind.{PairKind}
use Rattle.sheet.specs.declared.PairKind.TheVariants.{Points, PointLine, Lines}
use Rattle.sheet.specs.declared.Size.{Size}
use Rattle.sheet.specs.declared.Size.TheVariants.{Given, Missing, Tangent, OtherTangent, Unfit}
use Rattle.sheet.specs.declared.Constraint.{Constraint}
use Rattle.sheet.specs.declared.Sheet.{Sheet}
use Rattle.sheet.specs.Facts.{facts_of, is_point, is_line, is_circle, radius_of, kind_base, kind_at}
pub mod Laws
pub mod Kinds

-- 3: 2 to 64 elements
abbrev pub elements_in_range : ℕ → Bool
elements_in_range n = leb 2 n && leb n 64

-- 4: unused kind bits are 0
abbrev pub kind_bits_used : Opening → ℕ → ℕ → Bool
kind_bits_used o n m = ltb m (kind_base o ^ n)

-- 18 refuses kind 3 where it is read
unfoldable pub kinds_known : List ℕ → Bool
kinds_known [] = true
kinds_known (k ∷ ks) = ltb k 3 && kinds_known ks

-- and, for the writer, a circle under PF01
abbrev pub kind_allowed : Opening → Kind → Bool
kind_allowed Pf01 k = not (is_circle k)
kind_allowed Pf02 k = true

unfoldable pub kinds_allowed : Opening → List Element → Bool
kinds_allowed o [] = true
kinds_allowed o (x ∷ xs) = kind_allowed o x.kind && kinds_allowed o xs

-- 19: a radius is 1 to 40,000
abbrev pub radius_in_range : ℕ → Bool
radius_in_range r = leb 1 r && leb r 40000

unfoldable pub radii_in_range : List Element → Bool
radii_in_range [] = true
radii_in_range (x ∷ xs) = (not (is_circle x.kind) || radius_in_range (radius_of x.kind)) && radii_in_range xs

-- 5: at most 200 constraints
abbrev pub constraints_in_range : ℕ → Bool
constraints_in_range e = leb e 200

-- 6: first below second below n
abbrev pub ends_ascend : ℕ → ℕ → ℕ → Bool
ends_ascend n a b = ltb a b && ltb b n

-- 7 refuses a pair that stands in an earlier constraint
unfoldable pub stands : List Constraint → ℕ → ℕ → Bool
stands [] a b = false
stands (c ∷ cs) a b = (eqb c.first a && eqb c.second b) || stands cs a b

-- ---- the kinds of a pair: a circle counts as its centre point

abbrev pub pair_by : Bool → Bool → PairKind
pair_by false false = Points
pair_by false true = PointLine
pair_by true false = PointLine
pair_by true true = Lines

abbrev pub pair_of : Kind → Kind → PairKind
pair_of j k = pair_by (is_line j) (is_line k)

-- a size may be missing only for point and line
abbrev pub size_optional : PairKind → Bool
size_optional Points = false
size_optional PointLine = true
size_optional Lines = false

-- ---- the bit map: bit 0 stands before the size, bit 1 before a tag; bit 2 is tangent, bit 3 beside it the other contact

abbrev pub without_bit1 : ℕ → ℕ
without_bit1 map = map - 2 * (map / 2 % 2)

-- what a map says, z being the size where bit 0 stands; bit 2 beside bit 0, bit 3 without bit 2 and bits 4 to 7 are unfit
unfoldable pub size_by : ℕ → ℤ → Size
size_by map z =
    cond (eqb (without_bit1 map) 0) Missing (cond (eqb (without_bit1 map) 1) (Given z)
    (cond (eqb (without_bit1 map) 4) Tangent (cond (eqb (without_bit1 map) 12) OtherTangent Unfit)))

-- 8: a size, or a contact in its place, unless it may be missing; tangent with a circle, and the other contact not for point and circle
abbrev pub size_allowed : Kind → Kind → Size → Bool
size_allowed j k (Given z) = true
size_allowed j k Missing = size_optional (pair_of j k)
size_allowed j k Tangent = is_circle j || is_circle k
size_allowed j k OtherTangent = (is_circle j || is_circle k) && not (is_point j || is_point k)
size_allowed j k Unfit = false

abbrev pub map_allowed : Kind → Kind → ℕ → Bool
map_allowed j k map = size_allowed j k (size_by map (pos 0))

-- 20 refuses the other contact of two circles with equal radii
abbrev pub radii_differ : Kind → Kind → Size → Bool
radii_differ j k (Given z) = true
radii_differ j k Missing = true
radii_differ j k Tangent = true
radii_differ j k OtherTangent = not (is_circle j && is_circle k && eqb (radius_of j) (radius_of k))
radii_differ j k Unfit = true

abbrev pub within : ℤ → ℤ → ℤ → Bool
within low high z = le_z low z && le_z z high

-- 9: two points 1 to 40,000; point and line -40,000 to 40,000, two lines -17,999 to 17,999, both without 0
abbrev pub size_in_range : PairKind → ℤ → Bool
size_in_range Points z = within (pos 1) (pos 40000) z
size_in_range PointLine z = within (negsuc 39999) (negsuc 0) z || within (pos 1) (pos 40000) z
size_in_range Lines z = within (negsuc 17998) (negsuc 0) z || within (pos 1) (pos 17999) z

-- ---- facts: the number of the first rule that refuses them, 0 where none does

-- rule k where its test fails, else what the rest says
abbrev pub fault_unless : Bool → ℕ → ℕ → ℕ
fault_unless met k rest = cond met rest k

-- 9 of a size that is given
abbrev pub range_fault : PairKind → Size → ℕ
range_fault p (Given z) = fault_unless (size_in_range p z) 9 0
range_fault p Missing = 0
range_fault p Tangent = 0
range_fault p OtherTangent = 0
range_fault p Unfit = 0

-- 8, 20 and 9
unfoldable pub size_fault : Kind → Kind → Size → ℕ
size_fault j k z = fault_unless (size_allowed j k z) 8 (fault_unless (radii_differ j k z) 20 (range_fault (pair_of j k) z))

-- one constraint after those in done, by 6 to 9 and 20
unfoldable pub constraint_fault : List Element → List Constraint → Constraint → ℕ
constraint_fault elements done c =
    fault_unless (ends_ascend (length elements) c.first c.second) 6
    (fault_unless (not (stands done c.first c.second)) 7
    (size_fault (kind_at elements c.first) (kind_at elements c.second) c.size))

abbrev pub or_else : ℕ → ℕ → ℕ
or_else zero k = k
or_else (suc j) k = suc j

unfoldable pub constraints_fault : List Element → List Constraint → List Constraint → ℕ
constraints_fault elements done [] = 0
constraints_fault elements done (c ∷ cs) = or_else (constraint_fault elements done c) (constraints_fault elements (done ++ c ∷ []) cs)

-- the elements: 18, then 19
unfoldable pub elements_fault : Opening → List Element → ℕ
elements_fault o elements = fault_unless (kinds_allowed o elements) 18 (fault_unless (radii_in_range elements) 19 0)

-- the blocks given to the writer: 3, 18, 19, 5, then each constraint
unfoldable pub sheet_fault : Sheet → ℕ
sheet_fault s =
    fault_unless (elements_in_range s.n) 3
    (or_else (elements_fault s.opening (facts_of s).elements)
    (fault_unless (constraints_in_range s.e) 5 (constraints_fault (facts_of s).elements [] (facts_of s).constraints)))
