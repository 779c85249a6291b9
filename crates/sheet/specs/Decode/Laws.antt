-- The kinds field in the papers' words: element i is bit (i mod 8) of byte (i div 8), bit 0 the lowest; under PF02 two bits each, four elements a
-- byte. Assumes nothing.
use Rattle.std.specs.Prelude.{◌+◌, ◌*◌, ◌-◌, ◌/◌, ◌%◌, ◌<◌, ◌≡◌, ◌∷◌}
use Rattle.theory.specs.Prelude.{ℕ, zero, suc, dec_lt, arith, refl, sym, ap, ap₂, ◌∙◌, List, [], get_or}
use Rattle.theory.specs.Set.{at}
use Rattle.theory.specs.Set.Laws.{at_zero}
use Rattle.sheet.specs.declared.Opening.TheVariants.{Pf01, Pf02}
use Rattle.sheet.specs.Facts.{kinds_of}
use Rattle.sheet.specs.Field.{number, Bytes}
use Rattle.sheet.specs.Field.Laws.{bytes-front, bytes_rest}

none : (i : ℕ) → at i (number []) ≡ at (i % 8) (get_or [] (i / 8) 0)
unfolding number
none i = at_zero i ∙ sym (at_zero (i % 8))

module _ (b m : ℕ) where
  -- a digit of the lowest byte
  low : (i : ℕ) → i < 8 → at i (b + 256 * m) ≡ at i b
  unfolding at
  low zero h = omega arith
  low (suc zero) h = omega arith
  low (suc (suc zero)) h = omega arith
  low (suc (suc (suc zero))) h = omega arith
  low (suc (suc (suc (suc zero)))) h = omega arith
  low (suc (suc (suc (suc (suc zero))))) h = omega arith
  low (suc (suc (suc (suc (suc (suc zero)))))) h = omega arith
  low (suc (suc (suc (suc (suc (suc (suc zero))))))) h = omega arith
  low (suc (suc (suc (suc (suc (suc (suc (suc i)))))))) h = absurd (omega arith)

  -- one above it
  high : b < 256 → (j : ℕ) → at (suc (suc (suc (suc (suc (suc (suc (suc j)))))))) (b + 256 * m) ≡ at j m
  unfolding at
  high h j = ap (at j) (omega arith)

eight : (j : ℕ) → 8 + j ≡ suc (suc (suc (suc (suc (suc (suc (suc j)))))))
eight j = omega arith

-- the kinds are the number's bits under PF01, two of them each under PF02
bit-kind : (n m i : ℕ) → i < n → get_or (kinds_of Pf01 n m) i 0 ≡ at i m
unfolding kinds_of at
bit-kind zero m i l = absurd (omega arith)
bit-kind (suc n) m zero l = refl
bit-kind (suc n) m (suc i) l = bit-kind n (m / 2) i (omega arith)

bits-kind : (n m i : ℕ) → i < n → get_or (kinds_of Pf02 n m) i 0 ≡ at (2 * i) m + 2 * at (suc (2 * i)) m
unfolding kinds_of at
bits-kind zero m i l = absurd (omega arith)
bits-kind (suc n) m zero l = omega arith
bits-kind (suc n) m (suc i) l =
    let two : 2 * suc i ≡ suc (suc (2 * i)) = omega arith in
    let half : m / 2 / 2 ≡ m / 4 = omega arith in
    let low : at (2 * suc i) m ≡ at (2 * i) (m / 4) = ap (λ (x : ℕ). at x m) two ∙ ap (at (2 * i)) half in
    let high : at (suc (2 * suc i)) m ≡ at (suc (2 * i)) (m / 4) = ap (λ (x : ℕ). at (suc x) m) two ∙ ap (at (suc (2 * i))) half in
    bits-kind n (m / 4) i (omega arith) ∙ ap₂ (λ (x y : ℕ). x + 2 * y) (sym low) (sym high)

-- the number of some bytes, digit by digit
pub number-digit : (s : List ℕ) → Bytes s → (i : ℕ) → at i (number s) ≡ at (i % 8) (get_or s (i / 8) 0)
unfolding number
number-digit [] h i = none i
number-digit (b ∷ s) h i = go (number-digit s (bytes_rest h)) i (dec_lt i 8)
  where
    above : ((j : ℕ) → at j (number s) ≡ at (j % 8) (get_or s (j / 8) 0)) → (j : ℕ)
        → at (8 + j) (b + 256 * number s) ≡ at ((8 + j) % 8) (get_or (b ∷ s) ((8 + j) / 8) 0)
    above ih j =
        let q : (8 + j) / 8 ≡ suc (j / 8) = omega arith in
        let r : (8 + j) % 8 ≡ j % 8 = omega arith in
        rw (q, r) (ap (λ (x : ℕ). at x (b + 256 * number s)) (eight j) ∙ high b (number s) (bytes-front h) j ∙ ih j)

    go : ((j : ℕ) → at j (number s) ≡ at (j % 8) (get_or s (j / 8) 0)) → (i : ℕ) → Dec (i < 8)
        → at i (number (b ∷ s)) ≡ at (i % 8) (get_or (b ∷ s) (i / 8) 0)
    go ih i (yes l) =
        let q : i / 8 ≡ 0 = omega arith in
        let r : i % 8 ≡ i = omega arith in
        rw (q, r) (low b (number s) i l)
    go ih i (no n) =
        let e : 8 + (i - 8) ≡ i = omega arith in
        rw e at (above ih (i - 8))

-- the kind of element i: bit (i mod 8) of byte (i div 8)
pub kind-byte : (s : List ℕ) → Bytes s → (n i : ℕ) → i < n → get_or (kinds_of Pf01 n (number s)) i 0 ≡ at (i % 8) (get_or s (i / 8) 0)
kind-byte s h n i l = bit-kind n (number s) i l ∙ number-digit s h i

quarters : (q r : ℕ) → r < 4
    → (2 * (4 * q + r) % 8 ≡ 2 * r) × (2 * (4 * q + r) / 8 ≡ q) × (suc (2 * (4 * q + r)) % 8 ≡ 2 * r + 1) × (suc (2 * (4 * q + r)) / 8 ≡ q)
quarters q zero h = (omega arith, omega arith, omega arith, omega arith)
quarters q (suc zero) h = (omega arith, omega arith, omega arith, omega arith)
quarters q (suc (suc zero)) h = (omega arith, omega arith, omega arith, omega arith)
quarters q (suc (suc (suc zero))) h = (omega arith, omega arith, omega arith, omega arith)
quarters q (suc (suc (suc (suc r)))) h = absurd (omega arith)

-- under PF02: two bits, four elements a byte, lowest bits first
pub round-kind-byte : (s : List ℕ) → Bytes s → (n i : ℕ) → i < n
    → get_or (kinds_of Pf02 n (number s)) i 0 ≡ at (2 * (i % 4)) (get_or s (i / 4) 0) + 2 * at (2 * (i % 4) + 1) (get_or s (i / 4) 0)
round-kind-byte s h n i l =
    let e : 4 * (i / 4) + i % 4 ≡ i = omega arith in
    let q = rw e at (quarters (i / 4) (i % 4) (omega arith)) in
    bits-kind n (number s) i l ∙ rw (number-digit s h (2 * i), number-digit s h (suc (2 * i)), q.0, q.1, q.2, q.3)
