-- The bytes of accepted facts, read field by field, give the facts. Assumes nothing.
use Rattle.std.specs.Prelude.{◌+◌, ◌*◌, ◌^◌, ◌<◌, ◌≤◌, ◌≡◌, ◌&&◌, ◌||◌, ◌∷◌, ◌++◌}
use Rattle.theory.specs.Prelude.{ℕ, zero, suc, pow-le-pow_right, lt_of_lt_of_le, pow-zero, pow-succ', mul-zero, mul-suc}
use Rattle.theory.specs.Prelude.{arith, lt-ltb, leb-true, refl, sym, ◌∙◌, true, false, not, or-false, List, []}
use Rattle.theory.specs.Prelude.{append-nil, append_assoc, ltb, leb, ℤ, pos, negsuc, length, pow-add, mag}
use Rattle.sheet.specs.declared.Opening.{Opening}
use Rattle.sheet.specs.declared.Opening.TheVariants.{Pf01, Pf02}
use Rattle.sheet.specs.declared.Kind.{Kind}
use Rattle.sheet.specs.declared.Kind.TheVariants.{Point, Line, Circle}
use Rattle.sheet.specs.declared.Element.{Element}
use Rattle.sheet.specs.declared.PairKind.{PairKind}
use Rattle.sheet.specs.declared.PairKind.TheVariants.{Points, PointLine, Lines}
use Rattle.sheet.specs.declared.Size.{Size}
use Rattle.sheet.specs.declared.Size.TheVariants.{Given, Missing, Tangent, OtherTangent, Unfit}
use Rattle.sheet.specs.declared.Constraint.{Constraint}
use Rattle.sheet.specs.Facts.{Facts, is_circle, radius_of, kind_base, kind_digit, kinds_of, kinds_number, kind_at}
use Rattle.sheet.specs.Facts.Laws.{and-true, digits_of, kinds_number-below, kinds_of-kinds_number}
use Rattle.sheet.specs.Field.{value, number, digits, unsigned32, kind_bytes, opening_bytes}
use Rattle.sheet.specs.Field.Laws.{length_digits, number_digits, field-digits, unsigned32-below, signed32-unsigned32}
use Rattle.sheet.specs.Rules.Laws.{unless-none, none-else, elements-taken}
use Rattle.sheet.specs.Rules.{kinds_known, kinds_allowed, radius_in_range, radii_in_range, pair_of, size_optional, size_by, size_allowed, radii_differ}
use Rattle.sheet.specs.Rules.{within, size_in_range, size_fault, constraint_fault, constraints_fault}
use Rattle.sheet.specs.Decode.{opening, element, read_elements, size, tag, dimension, constraint, constraints, read_constraints, read_kinds, read_sheet}
use Rattle.sheet.specs.Encode.{radius_bytes, radii_bytes, map_of, size_bytes, constraint_bytes, constraints_bytes, sheet_bytes}
use Rattle.sheet.specs.Encode.Laws.{radii-length}
use Rattle.sheet.specs.WithoutTags.{circles_among, no_tags, untagged}
use Rattle.sheet.specs.WithoutTags.Laws.{untagged-front}
use Rattle.sheet.specs.Accepted.{Accepted}
use Rattle.sheet.specs.Accepted.Laws.{taken}

-- ---- what a rule that takes a fact says of it

false-true : {A : Type 0} → false ≡ true → A
false-true e = let z : ◌≡◌ {A = ℕ} 0 1 = cc in absurd (omega arith)

within-pos : (k m : ℕ) → k < 2 ^ 31 → within (pos 1) (pos k) (pos m) ≡ true → m < 2 ^ 31
within-pos k m h e = omega (arith, leb-true m k (and-true (leb 1 m) (leb m k) e).1)

within-neg : (k m : ℕ) → k < 2 ^ 31 → within (negsuc k) (negsuc 0) (negsuc m) || false ≡ true → m < 2 ^ 31
within-neg k m h e = omega (arith, leb-true m k (and-true (leb m k) (leb 0 m) (rw or-false at e)).0)

-- a size in its range is a signed number of 32 bits
size-mag : (p : PairKind) (z : ℤ) → size_in_range p z ≡ true → mag z < 2 ^ 31
size-mag Points (pos m) e = within-pos 40000 m (omega arith) e
size-mag Points (negsuc m) e = false-true e
size-mag PointLine (pos m) e = within-pos 40000 m (omega arith) e
size-mag PointLine (negsuc m) e = within-neg 39999 m (omega arith) e
size-mag Lines (pos m) e = within-pos 17999 m (omega arith) e
size-mag Lines (negsuc m) e = within-neg 17998 m (omega arith) e

-- ---- one constraint

-- the map of a size announces it, and its bytes give it
dimension-back : (j k : Kind) (z : Size) (s : List ℕ) → size_fault j k z ≡ 0 → dimension j k (map_of z ∷ size_bytes z ++ s) ≡ value z s
unfolding dimension size tag size_bytes size_by size_fault
dimension-back j k (Given z) s h =
    let range : size_in_range (pair_of j k) z ≡ true = (unless-none (size_in_range (pair_of j k) z) 8 0 h).0 in
    let m : mag z < 2 ^ 31 = size-mag (pair_of j k) z range in
    rw (field-digits 4 (unsigned32 z) s (unsigned32-below z m), signed32-unsigned32 z m, range)
dimension-back j k Missing s h = rw (unless-none (size_optional (pair_of j k)) 7 _ h).0
dimension-back j k Tangent s h = rw (unless-none (is_circle j || is_circle k) 7 _ h).0
dimension-back j k OtherTangent s h =
    let a = unless-none (size_allowed j k OtherTangent) 7 _ h in
    rw (a.0, (unless-none (radii_differ j k OtherTangent) 19 _ a.1).0)
dimension-back j k Unfit s h = absurd (omega arith)

module _ (elements : List Element) (done : List Constraint) (c : Constraint) where
  pub constraint-back : (s : List ℕ) → constraint_fault elements done c ≡ 0 → constraint elements done (constraint_bytes c ++ s) ≡ value c s
  unfolding constraint constraint_bytes
  constraint-back s h =
      let t = taken elements done c h in
      rw (t.ends-ascend, t.is_new, dimension-back (kind_at elements c.first) (kind_at elements c.second) c.size s t.size_fits)

-- ---- all constraints

pub constraints-back : (elements : List Element) (cs done : List Constraint) → constraints_fault elements done cs ≡ 0
    → constraints elements (length cs) done (constraints_bytes cs) ≡ value (done ++ cs) []
unfolding constraints_fault constraints constraints_bytes
constraints-back elements [] done h = rw append-nil
constraints-back elements (c ∷ cs) done h =
    let f = none-else (constraint_fault elements done c) _ h in
    rw (constraint-back elements done c (constraints_bytes cs) f.0)
    (constraints-back elements cs (done ++ c ∷ []) f.1 ∙ rw append_assoc)

-- ---- kinds

-- a power of two to the bits of k elements
pow-bits : (b k : ℕ) → 2 ^ (b * k) ≡ (2 ^ b) ^ k
pow-bits b zero = rw (mul-zero b) (sym (pow-zero (2 ^ b)))
pow-bits b (suc k) =
    let e : b * suc k ≡ b + b * k = omega (arith, mul-suc b k) in
    rw (e, pow-add 2 b (b * k), pow-bits b k, pow-succ' (2 ^ b) k)

-- the kinds of n elements fit in their bytes
pub kinds-fit : (o : Opening) (elements : List Element) → kinds_allowed o elements ≡ true
    → kinds_number o elements < 256 ^ kind_bytes o (length elements)
kinds-fit o elements h = lt_of_lt_of_le (kinds_number-below o elements h) (room o (length elements))
  where
    room : (o : Opening) (n : ℕ) → kind_base o ^ n ≤ 256 ^ kind_bytes o n
    room Pf01 n =
        let up : n ≤ 8 * kind_bytes Pf01 n = omega arith in rw (← pow-bits 8 (kind_bytes Pf01 n)) (pow-le-pow_right (omega arith) up)
    room Pf02 n =
        let up : 2 * n ≤ 8 * kind_bytes Pf02 n = omega arith in
        rw (← pow-bits 8 (kind_bytes Pf02 n), ← pow-bits 2 n) (pow-le-pow_right (omega arith) up)

-- ---- elements

element-back : (x : Element) (s : List ℕ) → not (is_circle x.kind) || radius_in_range (radius_of x.kind) ≡ true
    → element (kind_digit x.kind) (radius_bytes x.kind ++ s) ≡ value x s
unfolding element
element-back x s h = go x.kind h
  where
    go : (k : Kind) → not (is_circle k) || radius_in_range (radius_of k) ≡ true → element (kind_digit k) (radius_bytes k ++ s) ≡ value (record { kind = k }) s
    go Point h = refl
    go Line h = refl
    go (Circle r) h =
        let small : r < 256 ^ 4 = omega (arith, leb-true r 40000 (and-true (leb 1 r) (leb r 40000) h).1) in
        rw (field-digits 4 r s small, h)

elements-back : (xs : List Element) (s : List ℕ) → radii_in_range xs ≡ true → read_elements (digits_of xs) (radii_bytes xs ++ s) ≡ value xs s
unfolding radii_in_range read_elements radii_bytes
elements-back [] s h = refl
elements-back (x ∷ xs) s h =
    let both = and-true (not (is_circle x.kind) || radius_in_range (radius_of x.kind)) (radii_in_range xs) h in
    rw (append_assoc (radius_bytes x.kind) (radii_bytes xs) s, element-back x (radii_bytes xs ++ s) both.0, elements-back xs s both.1)

-- no kind is 3
kinds-known : (xs : List Element) → kinds_known (digits_of xs) ≡ true
unfolding kinds_known
kinds-known [] = refl
kinds-known (x ∷ xs) = rw (kinds-known xs) (below x.kind)
  where
    below : (k : Kind) → ltb (kind_digit k) 3 && true ≡ true
    below Point = refl
    below Line = refl
    below (Circle r) = refl

-- ---- the sheet

opening-back : (o : Opening) (s : List ℕ) → opening (opening_bytes o ++ s) ≡ value o s
unfolding opening
opening-back Pf01 s = refl
opening-back Pf02 s = refl

pub sheet-back : (f : Facts) → Accepted f → read_sheet (sheet_bytes f) ≡ value f []
unfolding read_sheet read_kinds read_constraints sheet_bytes
sheet-back f h =
    let es = f.elements in
    let o = f.opening in
    let a = elements-taken o es h.elements_allowed in
    let rest = length f.constraints ∷ constraints_bytes f.constraints in
    rw (
      opening-back o (length es ∷ digits (kind_bytes o (length es)) (kinds_number o es) ++ (radii_bytes es ++ rest)),
      h.elements_fit,
      field-digits (kind_bytes o (length es)) (kinds_number o es) (radii_bytes es ++ rest) (kinds-fit o es a.0),
      lt-ltb _ _ (kinds_number-below o es a.0),
      kinds_of-kinds_number o es a.0,
      kinds-known es,
      elements-back es rest a.1,
      h.constraints_fit,
      constraints-back es f.constraints [] h.no_fault,
    )

-- ---- no map has bit 1

size-untagged : (k a b : ℕ) (z : Size) (s : List ℕ) → no_tags (suc k) (a ∷ b ∷ map_of z ∷ size_bytes z ++ s) ≡ no_tags k s
unfolding no_tags size_bytes digits
size-untagged k a b (Given z) s = refl
size-untagged k a b Missing s = refl
size-untagged k a b Tangent s = refl
size-untagged k a b OtherTangent s = refl
size-untagged k a b Unfit s = refl

constraints-untagged : (cs : List Constraint) → no_tags (length cs) (constraints_bytes cs) ≡ true
unfolding no_tags constraint_bytes constraints_bytes
constraints-untagged [] = refl
constraints-untagged (c ∷ cs) = size-untagged (length cs) c.first c.second c.size (constraints_bytes cs) ∙ constraints-untagged cs

-- the radii that stand in a sheet's bytes are those that its kinds announce
pub radii-counted : (o : Opening) (es : List Element) → kinds_allowed o es ≡ true
    → length (radii_bytes es) ≡ 4 * circles_among (kinds_of o (length es) (number (digits (kind_bytes o (length es)) (kinds_number o es))))
radii-counted o es h =
    rw (number_digits (kind_bytes o (length es)) (kinds_number o es) (kinds-fit o es h), kinds_of-kinds_number o es h) (radii-length es)

pub sheet-untagged : (f : Facts) → Accepted f → untagged (sheet_bytes f) ≡ true
unfolding sheet_bytes
sheet-untagged f h =
    let es = f.elements in
    let o = f.opening in
    let a = elements-taken o es h.elements_allowed in
    let cs = f.constraints in
    let kb = kind_bytes o (length es) in
    untagged-front (length es) (length cs) (digits kb (kinds_number o es)) (radii_bytes es) (constraints_bytes cs) o
    (length_digits kb (kinds_number o es)) (radii-counted o es a.0) ∙ constraints-untagged cs
