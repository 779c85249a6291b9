-- Laws of fields: numbers of any count of bytes and their bytes are each other's inverse, and what a field that is read says of the bytes.
-- Assumes nothing.
use Rattle.std.specs.Prelude.{◌+◌, ◌*◌, ◌-◌, ◌/◌, ◌%◌, ◌^◌, ◌<◌, ◌≤◌, ◌≡◌, ◌∷◌, ◌++◌}
use Rattle.theory.specs.Prelude.{ℕ, zero, suc, pow-zero, pow-succ', arith, lt-ltb, le-ltb, ltb-false}
use Rattle.theory.specs.Prelude.{eqb-true, refl, sym, ap, Bool, true, false, cond, List, [], ltb, eqb, ℤ, pos, negsuc, length, take}
use Rattle.theory.specs.Prelude.{drop, get_or, length-append, take-append-drop, take_at, drop_at, length-take-le, get_or-drop, mag}
use Rattle.std.proofs.Common.{div-lt_iff_lt-mul, mul_comm}
use Rattle.sheet.specs.declared.Opening.{Opening}
use Rattle.sheet.specs.declared.Opening.TheVariants.{Pf01, Pf02}
use Rattle.sheet.specs.Facts.Laws.{and-true}
use Rattle.sheet.specs.Field.{Field, value, refused, next, demand, number, digits, field, byte, byte_by, signed32, unsigned32, opening_bytes, begins}
use Rattle.sheet.specs.Field.{Bytes}

-- ---- numbers and their bytes

pub length_digits : (k u : ℕ) → length (digits k u) ≡ k
unfolding digits
length_digits zero u = refl
length_digits (suc k) u = ap suc (length_digits k (u / 256))

pub number_digits : (k u : ℕ) → u < 256 ^ k → number (digits k u) ≡ u
unfolding number digits
number_digits zero u h = omega (arith, pow-zero 256)
number_digits (suc k) u h =
    let less : u < 256 ^ k * 256 = omega (arith, pow-succ' 256 k, mul_comm 256 (256 ^ k)) in
    rw (number_digits k (u / 256) ((div-lt_iff_lt-mul (omega arith)).1 less)) (omega arith)

pub bytes-front : {b : ℕ} {s : List ℕ} → Bytes (b ∷ s) → b < 256
bytes-front h = h.each 0

pub bytes_rest : {b : ℕ} {s : List ℕ} → Bytes (b ∷ s) → Bytes s
bytes_rest h = record { each = λ i. h.each (suc i) }

pub digits-number : (s : List ℕ) → Bytes s → digits (length s) (number s) ≡ s
unfolding number digits
digits-number [] h = refl
digits-number (b ∷ s) h =
    let low : b < 256 = bytes-front h in
    let is-low : (b + 256 * number s) % 256 ≡ b = omega arith in
    let is-high : (b + 256 * number s) / 256 ≡ number s = omega arith in
    rw (is-low, is-high, digits-number s (bytes_rest h))

pub number-below : (s : List ℕ) → Bytes s → number s < 256 ^ length s
unfolding number
number-below [] h = omega (arith, pow-zero 256)
number-below (b ∷ s) h = rw (pow-succ' 256 (length s)) (omega (arith, bytes-front h, number-below s (bytes_rest h)))

-- ---- lists of bytes

pub bytes_take : (k : ℕ) (s : List ℕ) → Bytes s → Bytes (take k s)
bytes_take k s h = record { each = go k s h.each }
  where
    go : (k : ℕ) (s : List ℕ) → ((i : ℕ) → get_or s i 0 < 256) → (i : ℕ) → get_or (take k s) i 0 < 256
    go zero s h i = omega arith
    go (suc k) [] h i = omega arith
    go (suc k) (b ∷ s) h zero = h 0
    go (suc k) (b ∷ s) h (suc i) = go k s (λ j. h (suc j)) i

pub bytes_drop : (k : ℕ) (s : List ℕ) → Bytes s → Bytes (drop k s)
bytes_drop k s h = record { each = λ i. rw get_or-drop (h.each (k + i)) }

-- ---- a field read back

pub field-digits : (k u : ℕ) (s : List ℕ) → u < 256 ^ k → field k (digits k u ++ s) ≡ value u s
unfolding field
field-digits k u s h =
    let n : length (digits k u) ≡ k = length_digits k u in
    let long : k ≤ length (digits k u ++ s) = rw (length-append, n) (omega arith) in
    rw (le-ltb _ _ long, take_at (digits k u) s k n, drop_at (digits k u) s k n, number_digits k u h)

-- ---- what a read field says

pub refused-value : {A B : Type 0} {k : ℕ} {a : A} {s : List ℕ} → ◌≡◌ {A = Field A} (refused k) (value a s) → B
refused-value e = let z : ◌≡◌ {A = ℕ} 0 1 = cc in absurd (omega arith)

module _ {A : Type 0} where
  -- a field that went on to a value was a value itself
  pub next-value : {B C : Type 0} (x : Field A) (f : A → List ℕ → Field B) {b : B} {t : List ℕ} → next x f ≡ value b t
      → ((a : A) (s : List ℕ) → x ≡ value a s → f a s ≡ value b t → C) → C
  next-value (value a s) f e then = then a s refl e
  next-value (refused k) f e then = refused-value e

  -- and the rule took what it demands
  pub demand-value : {C : Type 0} (q : Bool) (k : ℕ) (x : Field A) {a : A} {s : List ℕ}
      → demand q k x ≡ value a s → (q ≡ true → x ≡ value a s → C) → C
  demand-value true k x e then = then refl e
  demand-value false k x e then = refused-value e

  -- what holds of a value and the bytes after it
  pub value-with : (P : A → List ℕ → Type 0) {a b : A} {s t : List ℕ} → value a s ≡ value b t → P a s → P b t
  value-with P {a} {b} {s} {t} e h =
      let same : a ≡ b = cc in
      let left : s ≡ t = cc in
      rw (← same, ← left) h

  pick-went : (q : Bool) (k : ℕ) (a : A) (s : List ℕ) {b : A} {t : List ℕ} → cond q (refused k) (value a s) ≡ value b t
      → (q ≡ false) × (a ≡ b) × (s ≡ t)
  pick-went true k a s e = refused-value e
  pick-went false k a s e = (refl, cc, cc)

-- a number of k bytes stands in front
pub record Front (k : ℕ) (s : List ℕ) (u : ℕ) (t : List ℕ) : Type 0 where
  pub front : s ≡ digits k u ++ t
  pub below : u < 256 ^ k
  pub rest : Bytes t

pub field-front : (k : ℕ) (s : List ℕ) {u : ℕ} {t : List ℕ} → Bytes s → field k s ≡ value u t → Front k s u t
unfolding field
field-front k s {u} {t} h e =
    let p = pick-went (ltb (length s) k) 2 (number (take k s)) (drop k s) e in
    let long : length (take k s) ≡ k = length-take-le k s (ltb-false _ _ p.0) in
    let f : Bytes (take k s) = bytes_take k s h in
    let is : digits k (number (take k s)) ≡ take k s = rw long at (digits-number (take k s) f) in
    let below : number (take k s) < 256 ^ k = rw long at (number-below (take k s) f) in
    record {
      front = sym (rw (← p.1, ← p.2, is) (take-append-drop k s));
      below = rw p.1 at below;
      rest = rw p.2 at (bytes_drop k s h);
    }

pub record FrontByte (s : List ℕ) (b : ℕ) (t : List ℕ) : Type 0 where
  pub front : s ≡ b ∷ t
  pub rest : Bytes t

pub byte-front : (s : List ℕ) {b : ℕ} {t : List ℕ} → Bytes s → byte s ≡ value b t → FrontByte s b t
byte-front [] h e = refused-value e
byte-front (x ∷ s) {b} {t} h e =
    let rest : s ≡ t = cc in record { front = cc; rest = rw rest at (bytes_rest h) }

pub byte_by-front : (takes : ℕ → Bool) (k : ℕ) (s : List ℕ) {b : ℕ} {t : List ℕ} → Bytes s → byte_by takes k s ≡ value b t
    → (takes b ≡ true) × FrontByte s b t
byte_by-front takes k s h e =
    next-value (byte s) _ e (λ x u was e1.
    demand-value (takes x) k _ e1 (λ ok e2. value-with (λ b t. (takes b ≡ true) × FrontByte s b t) e2 (ok, byte-front s h was)))

-- ---- the openings

pub opening-length : (o : Opening) → length (opening_bytes o) ≡ 4
opening-length Pf01 = refl
opening-length Pf02 = refl

pub begins-front : (p s : List ℕ) → begins p s ≡ true → s ≡ p ++ drop (length p) s
begins-front [] s e = refl
begins-front (a ∷ p) [] e = let z : ◌≡◌ {A = ℕ} 0 1 = cc in absurd (omega arith)
begins-front (a ∷ p) (b ∷ s) e =
    let both = and-true (eqb b a) (begins p s) e in
    let same : b ≡ a = eqb-true b a both.0 in rw same (ap (λ (l : List ℕ). a ∷ l) (begins-front p s both.1))

-- ---- two's complement

pub unsigned32-below : (z : ℤ) → mag z < 2 ^ 31 → unsigned32 z < 2 ^ 32
unsigned32-below (pos n) h = omega arith
unsigned32-below (negsuc n) h = omega arith

pub signed32-unsigned32 : (z : ℤ) → mag z < 2 ^ 31 → signed32 (unsigned32 z) ≡ z
signed32-unsigned32 (pos n) h = rw (lt-ltb n (2 ^ 31) h)
signed32-unsigned32 (negsuc n) h =
    let high : 2 ^ 31 ≤ 2 ^ 32 - suc n = omega arith in
    rw (le-ltb (2 ^ 32 - suc n) (2 ^ 31) high) (ap negsuc (omega arith))

pub unsigned32-signed32 : (u : ℕ) → u < 2 ^ 32 → unsigned32 (signed32 u) ≡ u
unsigned32-signed32 u h = go (ltb u (2 ^ 31)) refl
  where
    go : (q : Bool) → ltb u (2 ^ 31) ≡ q → unsigned32 (cond q (pos u) (negsuc (2 ^ 32 - suc u))) ≡ u
    go true e = refl
    go false e = omega arith
