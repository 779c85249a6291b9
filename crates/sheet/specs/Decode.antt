-- What the bytes of a sheet say, field by field in file order (document 01, "The sheet in bytes" and "Refused": rules 1 to 10; document 02, 2026-01:
-- the opening PF02, and rules 18 to 20).
use Rattle.std.specs.Prelude.{ℕ, zero, suc, ◌/◌, ◌%◌, Bool, true, false, cond, not, List, [], ◌∷◌, ◌++◌, eqb, pos, length, drop}
use Rattle.sheet.specs.declared.Opening.{Opening}
use Rattle.sheet.specs.declared.Opening.TheVariants.{Pf01, Pf02}
use Rattle.sheet.specs.declared.Kind.{Kind}
use Rattle.sheet.specs.declared.Kind.TheVariants.{Point, Line, Circle}
use Rattle.sheet.specs.declared.Element.{Element}
use Rattle.sheet.specs.declared.PairKind.{PairKind}
use Rattle.sheet.specs.declared.Size.{Size}
use Rattle.sheet.specs.declared.Size.TheVariants.{Given, Missing, Tangent, OtherTangent, Unfit}
use Rattle.sheet.specs.declared.Constraint.{Constraint}
use Rattle.sheet.specs.Facts.{Facts, kinds_of, kind_at}
use Rattle.sheet.specs.Field.{Field, value, refused, next, demand, field, byte, byte_by, signed32, kind_bytes, opening_bytes, begins}
use Rattle.sheet.specs.Rules.{elements_in_range, kind_bits_used, kinds_known, radius_in_range, constraints_in_range, ends_ascend, stands}
use Rattle.sheet.specs.Rules.{pair_of, size_by, map_allowed, radii_differ, size_in_range}
pub mod Laws

-- rule 1: the opening is short or different
unfoldable pub opening : List ℕ → Field Opening
opening s =
    cond (begins (opening_bytes Pf01) s) (value Pf01 (drop 4 s)) (demand (begins (opening_bytes Pf02) s) 1 (value Pf02 (drop 4 s)))

-- ---- the elements

-- the kinds are one field; rule 4, then 18
unfoldable pub read_kinds : Opening → ℕ → List ℕ → Field (List ℕ)
read_kinds o n s =
    next (field (kind_bytes o n) s) (λ m s1.
    demand (kind_bits_used o n m) 4 (demand (kinds_known (kinds_of o n m)) 18 (value (kinds_of o n m) s1)))

-- an element by its kind, 3 being refused by 18; a circle's radius is a field of its own, by rule 19
unfoldable pub element : ℕ → List ℕ → Field Element
element zero s = value (record { kind = Point }) s
element (suc zero) s = value (record { kind = Line }) s
element (suc (suc k)) s = next (field 4 s) (λ r s1. demand (radius_in_range r) 19 (value (record { kind = Circle r }) s1))

-- the radii follow the kinds in element order
unfoldable pub read_elements : List ℕ → List ℕ → Field (List Element)
read_elements [] s = value [] s
read_elements (k ∷ ks) s = next (element k s) (λ x s1. next (read_elements ks s1) (λ xs s2. value (x ∷ xs) s2))

-- ---- the constraints

-- the size that a map announces: only a given one has bytes, a signed 32-bit number
unfoldable pub size : PairKind → Size → List ℕ → Field Size
size p (Given z) s = next (field 4 s) (λ u s1. demand (size_in_range p (signed32 u)) 9 (value (Given (signed32 u)) s1))
size p Missing s = value Missing s
size p Tangent s = value Tangent s
size p OtherTangent s = value OtherTangent s
size p Unfit s = value Unfit s

-- the tag, where bit 1 stands: two bytes of any value, read and dropped (document 02, 2026-11)
unfoldable pub tag : Bool → List ℕ → Field (Unit {0})
tag false s = value tt s
tag true s = next (field 2 s) (λ u s1. value tt s1)

-- the bit map and the fields whose bit stands
unfoldable pub dimension : Kind → Kind → List ℕ → Field Size
dimension j k s =
    next (byte_by (map_allowed j k) 8 s) (λ map s1.
    demand (radii_differ j k (size_by map (pos 0))) 20
    (next (size (pair_of j k) (size_by map (pos 0)) s1) (λ z s2. next (tag (eqb (map / 2 % 2) 1) s2) (λ t s3. value z s3))))

-- one constraint after those in done
unfoldable pub constraint : List Element → List Constraint → List ℕ → Field Constraint
constraint elements done s =
    next (byte s) (λ a s1.
    next (byte s1) (λ b s2.
    demand (ends_ascend (length elements) a b) 6 (demand (not (stands done a b)) 7
    (next (dimension (kind_at elements a) (kind_at elements b) s2) (λ z s3. value (record { first = a; second = b; size = z }) s3)))))

-- so many constraints after those in done, and then the end (rule 10)
unfoldable pub constraints : List Element → ℕ → List Constraint → List ℕ → Field (List Constraint)
constraints elements zero done [] = value done []
constraints elements zero done (b ∷ s) = refused 10
constraints elements (suc k) done s =
    next (constraint elements done s) (λ c s1. constraints elements k (done ++ c ∷ []) s1)

-- what follows the elements
unfoldable pub read_constraints : Opening → List Element → List ℕ → Field Facts
read_constraints o elements s =
    next (byte_by constraints_in_range 5 s) (λ e s1.
    next (constraints elements e [] s1) (λ cs s2. value (record { opening = o; elements = elements; constraints = cs }) s2))

unfoldable pub read_sheet : List ℕ → Field Facts
read_sheet s =
    next (opening s) (λ o s1.
    next (byte_by elements_in_range 3 s1) (λ n s2.
    next (read_kinds o n s2) (λ kinds s3. next (read_elements kinds s3) (λ elements s4. read_constraints o elements s4))))
