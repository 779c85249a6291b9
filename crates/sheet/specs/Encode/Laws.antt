-- Laws of the bytes of a sheet: how many there are, and those of a list of constraints. Assumes nothing.
use Rattle.std.specs.Prelude.{◌+◌, ◌*◌, ◌/◌, ◌%◌, ◌≤◌, ◌≡◌, ◌∷◌, ◌++◌}
use Rattle.theory.specs.Prelude.{ℕ, add-one, arith, refl, Bool, true, false, List, [], append-nil}
use Rattle.theory.specs.Prelude.{append_assoc, eqb, length, take, get_or, length-append, length-map, take-suc}
use Rattle.sheet.specs.declared.Opening.{Opening}
use Rattle.sheet.specs.declared.Opening.TheVariants.{Pf01, Pf02}
use Rattle.sheet.specs.declared.Kind.{Kind}
use Rattle.sheet.specs.declared.Kind.TheVariants.{Point, Line, Circle}
use Rattle.sheet.specs.declared.Element.{Element}
use Rattle.sheet.specs.declared.Size.{Size}
use Rattle.sheet.specs.declared.Size.TheVariants.{Given, Missing, Tangent, OtherTangent, Unfit}
use Rattle.sheet.specs.declared.Constraint.{Constraint}
use Rattle.sheet.specs.Facts.{Facts, bit_of, kind_digit}
use Rattle.sheet.specs.Facts.Laws.{digits_of}
use Rattle.sheet.specs.Field.{unsigned32, kind_bytes}
use Rattle.sheet.specs.Field.Laws.{length_digits, opening-length}
use Rattle.sheet.specs.WithoutTags.{circles_among}
use Rattle.sheet.specs.Encode.{radius_bytes, radii_bytes, map_of, size_bytes, constraint_bytes, constraints_bytes, sheet_bytes}

-- bit 0 of the map, and bit 1 is clear
pub map-bits : (z : Size) → (map_of z % 2 ≤ 1) × (map_of z / 2 % 2 ≡ 0)
map-bits (Given z) = (omega arith, refl)
map-bits Missing = (omega arith, refl)
map-bits Tangent = (omega arith, refl)
map-bits OtherTangent = (omega arith, refl)
map-bits Unfit = (omega arith, refl)

-- four bytes where its bit stands
pub size-length : (z : Size) → length (size_bytes z) ≡ 4 * (map_of z % 2)
unfolding size_bytes
size-length (Given z) = length_digits 4 (unsigned32 z)
size-length Missing = refl
size-length Tangent = refl
size-length OtherTangent = refl
size-length Unfit = refl

pub constraint-length : (c : Constraint) → length (constraint_bytes c) ≤ 7
unfolding constraint_bytes
constraint-length c = omega (arith, size-length c.size, map-bits c.size)

pub constraints-length : (cs : List Constraint) → length (constraints_bytes cs) ≤ 7 * length cs
unfolding constraints_bytes
constraints-length [] = omega arith
constraints-length (c ∷ cs) = rw length-append (omega (arith, constraint-length c, constraints-length cs))

radius-length : (k : Kind) → length (radius_bytes k) ≡ 4 * bit_of (eqb (kind_digit k) 2)
radius-length Point = refl
radius-length Line = refl
radius-length (Circle r) = length_digits 4 r

-- four bytes for each circle
pub radii-length : (xs : List Element) → length (radii_bytes xs) ≡ 4 * circles_among (digits_of xs)
unfolding radii_bytes circles_among
radii-length [] = refl
radii-length (x ∷ xs) = rw length-append (omega (arith, radius-length x.kind, radii-length xs))

bit_le : (b : Bool) → bit_of b ≤ 1
bit_le true = omega arith
bit_le false = omega arith

circles-most : (ks : List ℕ) → circles_among ks ≤ length ks
unfolding circles_among
circles-most [] = omega arith
circles-most (k ∷ ks) = omega (arith, bit_le (eqb k 2), circles-most ks)

-- n/8 or n/4 bytes rounded up
pub kinds-length : (o : Opening) (n : ℕ) → n ≤ 64 → kind_bytes o n ≤ 16
kinds-length Pf01 n h = omega arith
kinds-length Pf02 n h = omega arith

pub radii-most : (xs : List Element) → length xs ≤ 64 → length (radii_bytes xs) ≤ 256
radii-most xs h = omega (arith, radii-length xs, circles-most (digits_of xs), length-map xs (λ x. kind_digit x.kind))

pub sheet-length : (f : Facts) → length f.elements ≤ 64 → length f.constraints ≤ 200 → length (sheet_bytes f) ≤ 1678
unfolding sheet_bytes
sheet-length f n-most e-most =
    simp (length-append, length_digits, opening-length f.opening)
    (omega (arith, kinds-length f.opening _ n-most, radii-most f.elements n-most, constraints-length f.constraints))

-- ---- one constraint more

pub constraints-append : (cs ds : List Constraint) → constraints_bytes (cs ++ ds) ≡ constraints_bytes cs ++ constraints_bytes ds
unfolding constraints_bytes
constraints-append [] ds = refl
constraints-append (c ∷ cs) ds = rw (constraints-append cs ds, append_assoc)

pub constraints-more : (cs : List Constraint) (i : ℕ) (d : Constraint) → i + 1 ≤ length cs
    → constraints_bytes (take (i + 1) cs) ≡ constraints_bytes (take i cs) ++ constraint_bytes (get_or cs i d)
unfolding constraints_bytes
constraints-more cs i d h =
    rw (add-one, take-suc cs i d (omega arith), constraints-append (take i cs) (get_or cs i d ∷ []), append-nil)
