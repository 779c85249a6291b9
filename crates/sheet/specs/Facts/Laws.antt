-- Laws of the elements in numbers. Assumes nothing.
use Rattle.std.specs.Prelude.{◌+◌, ◌*◌, ◌/◌, ◌%◌, ◌^◌, ◌<◌, ◌≡◌, ◌&&◌, ◌∷◌}
use Rattle.theory.specs.Prelude.{ℕ, zero, suc, pow-zero, pow-succ', arith, refl, sym, ap}
use Rattle.theory.specs.Prelude.{subst, Bool, true, false, cond, not, List, [], map, T, eqb, length, get_or}
use Rattle.theory.specs.Set.{at}
use Rattle.sheet.specs.declared.Opening.{Opening}
use Rattle.sheet.specs.declared.Opening.TheVariants.{Pf01, Pf02}
use Rattle.sheet.specs.declared.Kind.{Kind}
use Rattle.sheet.specs.declared.Kind.TheVariants.{Point, Line, Circle}
use Rattle.sheet.specs.declared.Kinds.{Kinds}
use Rattle.sheet.specs.declared.Element.{Element}
use Rattle.sheet.specs.Facts.{is_line, is_circle, radius_of, kind_base, kind_digit, kinds_of, kinds_number, bit_of, set_of, kind_at}
use Rattle.sheet.specs.Rules.{kind_allowed, kinds_allowed}
use Rattle.sheet.specs.Facts.Kinds.{kind_in, KindsIn}

pub and-true : (x y : Bool) → x && y ≡ true → (x ≡ true) × (y ≡ true)
and-true true y e = (refl, e)
and-true false y e = absurd (subst T (sym e) tt)

-- ---- the elements of a kind as one number

module _ (is : Kind → Bool) where
  pub set_of-below : (xs : List Element) → set_of is xs < 2 ^ length xs
  unfolding set_of
  set_of-below [] = omega arith
  set_of-below (x ∷ xs) = below (is x.kind) (set_of-below xs)
    where
      below : (b : Bool) → set_of is xs < 2 ^ length xs → bit_of b + 2 * set_of is xs < 2 ^ suc (length xs)
      below true h = rw (pow-succ' 2 (length xs)) (omega arith)
      below false h = rw (pow-succ' 2 (length xs)) (omega arith)

  first_bit : (b : Bool) (m : ℕ) → ((bit_of b + 2 * m) % 2 ≡ bit_of b) × ((bit_of b + 2 * m) / 2 ≡ m)
  first_bit true m = (omega arith, omega arith)
  first_bit false m = (omega arith, omega arith)

  bit-one : (b : Bool) → eqb (bit_of b) 1 ≡ b
  bit-one true = refl
  bit-one false = refl

  -- bit i says of which kind element i is; past the end stands a point
  pub set-bit : is Point ≡ false → (xs : List Element) (i : ℕ) → eqb (at i (set_of is xs)) 1 ≡ is (kind_at xs i)
  unfolding set_of at
  set-bit p [] zero = sym p
  set-bit p [] (suc i) = set-bit p [] i
  set-bit p (x ∷ xs) zero = rw (first_bit (is x.kind) (set_of is xs)).0 (bit-one (is x.kind))
  set-bit p (x ∷ xs) (suc i) = rw (first_bit (is x.kind) (set_of is xs)).1 (set-bit p xs i)

-- the sets and the radii tell each element's kind
pub kind-in : {es : List Element} {k : Kinds} {radii : List ℕ} → KindsIn es k radii → (i : ℕ) → kind_in k radii i ≡ kind_at es i
kind-in {es} {k} {radii} h i =
    rw (h.circles_are, h.lines_are, set-bit is_circle refl es i, set-bit is_line refl es i) (go (kind_at es i) (h.radii_are i))
  where
    go : (j : Kind) → (is_circle j ≡ true → get_or radii i 0 ≡ radius_of j) → cond (is_circle j) (Circle (get_or radii i 0)) (cond (is_line j) Line Point) ≡ j
    go Point r = refl
    go Line r = refl
    go (Circle q) r = ap Circle (r refl)

-- ---- kinds as digits of one number

pub kinds_of-length : (o : Opening) (n m : ℕ) → length (kinds_of o n m) ≡ n
unfolding kinds_of
kinds_of-length o zero m = refl
kinds_of-length o (suc n) m = ap suc (kinds_of-length o n (m / kind_base o))

-- the number of some digits
unfoldable pub digits_number : Opening → List ℕ → ℕ
digits_number o [] = 0
digits_number o (k ∷ ks) = k + kind_base o * digits_number o ks

pub kinds_of-number : (o : Opening) (n m : ℕ) → m < kind_base o ^ n → digits_number o (kinds_of o n m) ≡ m
unfolding digits_number kinds_of
kinds_of-number o zero m h = omega (arith, pow-zero (kind_base o))
kinds_of-number Pf01 (suc n) m h =
    let q : m < 2 * 2 ^ n = subst (λ (z : ℕ). m < z) (pow-succ' 2 n) h in omega (arith, kinds_of-number Pf01 n (m / 2) (omega arith))
kinds_of-number Pf02 (suc n) m h =
    let q : m < 4 * 4 ^ n = subst (λ (z : ℕ). m < z) (pow-succ' 4 n) h in omega (arith, kinds_of-number Pf02 n (m / 4) (omega arith))

-- the digits of the elements
abbrev pub digits_of : List Element → List ℕ
digits_of xs = map (λ x. kind_digit x.kind) xs

pub kinds_number-digits : (o : Opening) (xs : List Element) → kinds_number o xs ≡ digits_number o (digits_of xs)
unfolding kinds_number digits_number
kinds_number-digits o [] = refl
kinds_number-digits o (x ∷ xs) = ap (λ (m : ℕ). kind_digit x.kind + kind_base o * m) (kinds_number-digits o xs)

-- the lowest digit of the number, and what stands above it
first-digit : (o : Opening) (k : Kind) (m : ℕ) → kind_allowed o k ≡ true
    → ((kind_digit k + kind_base o * m) % kind_base o ≡ kind_digit k) × ((kind_digit k + kind_base o * m) / kind_base o ≡ m)
first-digit Pf01 Point m e = (omega arith, omega arith)
first-digit Pf01 Line m e = (omega arith, omega arith)
first-digit Pf01 (Circle r) m e = absurd (subst T (sym e) tt)
first-digit Pf02 Point m e = (omega arith, omega arith)
first-digit Pf02 Line m e = (omega arith, omega arith)
first-digit Pf02 (Circle r) m e = (omega arith, omega arith)

pub kinds_of-kinds_number : (o : Opening) (xs : List Element) → kinds_allowed o xs ≡ true → kinds_of o (length xs) (kinds_number o xs) ≡ digits_of xs
unfolding kinds_of kinds_number kinds_allowed
kinds_of-kinds_number o [] e = refl
kinds_of-kinds_number o (x ∷ xs) e =
    let both = and-true (kind_allowed o x.kind) (kinds_allowed o xs) e in
    let d = first-digit o x.kind (kinds_number o xs) both.0 in
    rw (d.0, d.1, kinds_of-kinds_number o xs both.1)

digit-below : (o : Opening) (k : Kind) (m b : ℕ) → kind_allowed o k ≡ true → m < b → kind_digit k + kind_base o * m < kind_base o * b
digit-below Pf01 Point m b e h = omega arith
digit-below Pf01 Line m b e h = omega arith
digit-below Pf01 (Circle r) m b e h = absurd (subst T (sym e) tt)
digit-below Pf02 Point m b e h = omega arith
digit-below Pf02 Line m b e h = omega arith
digit-below Pf02 (Circle r) m b e h = omega arith

pub kinds_number-below : (o : Opening) (xs : List Element) → kinds_allowed o xs ≡ true → kinds_number o xs < kind_base o ^ length xs
unfolding kinds_number kinds_allowed
kinds_number-below o [] e = rw (pow-zero (kind_base o)) (omega arith)
kinds_number-below o (x ∷ xs) e =
    let both = and-true (kind_allowed o x.kind) (kinds_allowed o xs) e in
    rw (pow-succ' (kind_base o) (length xs))
    (digit-below o x.kind (kinds_number o xs) (kind_base o ^ length xs) both.0 (kinds_number-below o xs both.1))

-- elements whose kinds are digits of a number are allowed
pub kinds-allowed : (o : Opening) (xs : List Element) (n m : ℕ) → digits_of xs ≡ kinds_of o n m → kinds_allowed o xs ≡ true
unfolding kinds_allowed kinds_of
kinds-allowed o [] n m e = refl
kinds-allowed o (x ∷ xs) zero m e = let z : ◌≡◌ {A = ℕ} 0 1 = cc in absurd (omega arith)
kinds-allowed Pf02 (x ∷ xs) (suc n) m e = kinds-allowed Pf02 xs n (m / 4) (cc)
kinds-allowed Pf01 (x ∷ xs) (suc n) m e =
    let d : kind_digit x.kind ≡ m % 2 = cc in
    let rest = kinds-allowed Pf01 xs n (m / 2) (cc) in
    rw rest (straight x.kind d)
  where
    straight : (k : Kind) → kind_digit k ≡ m % 2 → not (is_circle k) && true ≡ true
    straight Point d = refl
    straight Line d = refl
    straight (Circle r) d = absurd (omega arith)
