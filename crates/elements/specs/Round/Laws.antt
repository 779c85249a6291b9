-- The kinds under PF02 in their bytes, rule 4 in the last of them, and the sets from the last element down. Assumes nothing.
use Rattle.std.specs.Prelude.{◌+◌, ◌*◌, ◌-◌, ◌/◌, ◌%◌, ◌^◌, ◌<◌, ◌≤◌, ◌≡◌, ◌&&◌, ◌∷◌}
use Rattle.theory.specs.Prelude.{ℕ, zero, suc, pow-zero, pow-succ', pow-le-pow_right, dec_lt, arith, refl}
use Rattle.theory.specs.Prelude.{sym, ap, ◌∙◌, Bool, true, false, List, [], lt-ltb, le-ltb, eq-eqb, ne_eqb, eqb, ltb, length, take, drop}
use Rattle.theory.specs.Prelude.{get_or, length-drop, drop-cons, get_or-take, get_or-drop, length-take-le}
use Rattle.std.specs.Int.{from_bool}
use Rattle.theory.specs.Set.{at}
use Rattle.sheet.specs.declared.Opening.TheVariants.{Pf02}
use Rattle.sheet.specs.Facts.{bit_of}
use Rattle.sheet.specs.Facts.Laws.{kinds_of-length}
use Rattle.sheet.specs.Field.{number, Bytes}
use Rattle.sheet.specs.Field.Laws.{bytes-front, bytes_rest, bytes_take, bytes_drop}
use Rattle.sheet.specs.Rules.{kind_bits_used, kinds_known}
use Rattle.sheet.specs.Decode.Laws.{round-kind-byte}
use Rattle.elements.specs.Round.{round_number, round_kinds, places_of, SetsOf}

-- the kinds are n
pub kinds-length : (s : List ℕ) (at n : ℕ) → length (round_kinds s at n) ≡ n
kinds-length s at n = kinds_of-length Pf02 n (round_number s at n)

-- ---- two bits of a byte

pub two-bits : (r b : ℕ) → r < 4 → b / 2 ^ (2 * r) % 4 ≡ at (2 * r) b + 2 * at (2 * r + 1) b
unfolding at
two-bits zero b h = omega arith
two-bits (suc zero) b h = omega arith
two-bits (suc (suc zero)) b h = omega arith
two-bits (suc (suc (suc zero))) b h = omega arith
two-bits (suc (suc (suc (suc r)))) b h = absurd (omega arith)

module _ (s : List ℕ) (all : Bytes s) (from n : ℕ) where
  in-byte : (j : ℕ) → j < (n + 3) / 4 → get_or (take ((n + 3) / 4) (drop from s)) j 0 ≡ get_or s (from + j) 0
  in-byte j l = get_or-take ((n + 3) / 4) (drop from s) j 0 l ∙ get_or-drop from s j 0

  pub round-kind : (i : ℕ) → i < n
      → get_or (round_kinds s from n) i 0
      ≡ at (2 * (i % 4)) (get_or s (from + i / 4) 0) + 2 * at (2 * (i % 4) + 1) (get_or s (from + i / 4) 0)
  round-kind i l =
      round-kind-byte (take ((n + 3) / 4) (drop from s)) (bytes_take ((n + 3) / 4) (drop from s) (bytes_drop from s all)) n i l
      ∙ ap (λ (b : ℕ). at (2 * (i % 4)) b + 2 * at (2 * (i % 4) + 1) b) (in-byte (i / 4) (omega arith))

-- ---- rule 4: the last byte has no bit above those of the last element

same_test : (a p b : ℕ) → (a < p → b ≡ 0) → (b ≡ 0 → a < p) → ltb a p ≡ eqb b 0
same_test a p b f g = go (dec_lt a p)
  where
    go : Dec (a < p) → ltb a p ≡ eqb b 0
    go (yes l) = lt-ltb a p l ∙ sym (eq-eqb b 0 (f l))
    go (no n) = le-ltb a p (omega arith) ∙ sym (ne_eqb b 0 (λ e. n (g e)))

above : (b m p : ℕ) → b < 256 → ltb (b + 256 * m) (256 * p) ≡ ltb m p
above b m p h = go (dec_lt m p)
  where
    go : Dec (m < p) → ltb (b + 256 * m) (256 * p) ≡ ltb m p
    go (yes l) = lt-ltb (b + 256 * m) (256 * p) (omega arith) ∙ sym (lt-ltb m p l)
    go (no n) = le-ltb (b + 256 * m) (256 * p) (omega arith) ∙ sym (le-ltb m p (omega arith))

byte_more : (m : ℕ) → 4 ^ suc (suc (suc (suc m))) ≡ 256 * 4 ^ m
byte_more m = omega (arith, pow-succ' 4 (suc (suc (suc m))), pow-succ' 4 (suc (suc m)), pow-succ' 4 (suc m), pow-succ' 4 m)

one_byte : (r b : ℕ) → r < 4 → b < 256 → ltb (b + 256 * 0) (4 ^ (4 * 0 + suc r)) ≡ eqb (b / 2 ^ (2 * suc r)) 0
one_byte zero b l h = same_test (b + 256 * 0) 4 (b / 4) (λ k. omega arith) (λ k. omega arith)
one_byte (suc zero) b l h = same_test (b + 256 * 0) 16 (b / 16) (λ k. omega arith) (λ k. omega arith)
one_byte (suc (suc zero)) b l h = same_test (b + 256 * 0) 64 (b / 64) (λ k. omega arith) (λ k. omega arith)
one_byte (suc (suc (suc zero))) b l h = same_test (b + 256 * 0) 256 (b / 256) (λ k. omega arith) (λ k. omega arith)
one_byte (suc (suc (suc (suc r)))) b l h = absurd (omega arith)

last_byte : (q r : ℕ) (t : List ℕ) → r < 4 → length t ≡ suc q → Bytes t
    → ltb (number t) (4 ^ (4 * q + suc r)) ≡ eqb (get_or t q 0 / 2 ^ (2 * suc r)) 0
unfolding number
last_byte q r [] l e h = absurd (omega arith)
last_byte zero r (b ∷ []) l e h = one_byte r b l (bytes-front h)
last_byte zero r (b ∷ c ∷ t) l e h = absurd (omega arith)
last_byte (suc q) r (b ∷ t) l e h =
    let more : 4 * suc q + suc r ≡ suc (suc (suc (suc (4 * q + suc r)))) = omega arith in
    ap (λ (p : ℕ). ltb (b + 256 * number t) p) (ap (λ (m : ℕ). 4 ^ m) more ∙ byte_more (4 * q + suc r))
    ∙ above b (number t) (4 ^ (4 * q + suc r)) (bytes-front h)
    ∙ last_byte q r t l (omega arith) (bytes_rest h)

pub last-used : (s : List ℕ) → Bytes s → (from n : ℕ) → 0 < n → from + (n + 3) / 4 ≤ length s
    → kind_bits_used Pf02 n (round_number s from n) ≡ eqb (get_or s (from + (n - 1) / 4) 0 / 2 ^ (2 * ((n - 1) % 4 + 1))) 0
last-used s all from n some room =
    let fits : (n + 3) / 4 ≤ length (drop from s) = rw (length-drop from s) (omega arith) in
    let bytes : (n + 3) / 4 ≡ suc ((n - 1) / 4) = omega arith in
    let long : length (take ((n + 3) / 4) (drop from s)) ≡ suc ((n - 1) / 4) = length-take-le ((n + 3) / 4) (drop from s) fits ∙ bytes in
    let n_is : n ≡ 4 * ((n - 1) / 4) + suc ((n - 1) % 4) = omega arith in
    let two : suc ((n - 1) % 4) ≡ (n - 1) % 4 + 1 = omega arith in
    ap (λ (m : ℕ). ltb (number (take ((n + 3) / 4) (drop from s))) (4 ^ m)) n_is
    ∙ last_byte ((n - 1) / 4) ((n - 1) % 4) (take ((n + 3) / 4) (drop from s)) (omega arith) long
    (bytes_take ((n + 3) / 4) (drop from s) (bytes_drop from s all))
    ∙ ap (λ (b : ℕ). eqb (b / 2 ^ (2 * suc ((n - 1) % 4))) 0) (in-byte s all from n ((n - 1) / 4) (omega arith))
    ∙ ap (λ (m : ℕ). eqb (get_or s (from + (n - 1) / 4) 0 / 2 ^ (2 * m)) 0) two

-- ---- the sets, from the last kind down

pub sets-none : SetsOf [] (record { lines = 0; circles = 0 })
unfolding places_of kinds_known
sets-none = record { lines_are = refl; circles_are = refl; known = refl }

and_false : (b : Bool) → b && false ≡ false
and_false true = refl
and_false false = refl

from_bool-is : (b : Bool) → from_bool b ≡ bit_of b
from_bool-is true = refl
from_bool-is false = refl

pub from_bool-le : (b : Bool) → from_bool b ≤ 1
from_bool-le true = omega arith
from_bool-le false = omega arith

pub sets_more : {ks : List ℕ} {lines circles : ℕ} (k : ℕ) → k < 3 → SetsOf ks (record { lines = lines; circles = circles })
    → SetsOf (k ∷ ks) (record { lines = 2 * lines + from_bool (eqb k 1); circles = 2 * circles + from_bool (eqb k 2) })
unfolding places_of kinds_known
sets_more k l h =
    record {
      lines_are = omega (arith, h.lines_are, from_bool-is (eqb k 1));
      circles_are = omega (arith, h.circles_are, from_bool-is (eqb k 2));
      known = rw (lt-ltb k 3 l, h.known);
    }

pub unknown-at : (ks : List ℕ) (i : ℕ) → i < length ks → 3 ≤ get_or ks i 0 → kinds_known ks ≡ false
unfolding kinds_known
unknown-at [] i l h = absurd (omega arith)
unknown-at (k ∷ ks) zero l h = rw (le-ltb k 3 h)
unknown-at (k ∷ ks) (suc i) l h = ap (λ (q : Bool). ltb k 3 && q) (unknown-at ks i (omega arith) h) ∙ and_false (ltb k 3)

-- the kind before i stands before those from i on
pub kind-before : (ks : List ℕ) (n i : ℕ) → length ks ≡ n → 0 < i → i ≤ n → drop (i - 1) ks ≡ get_or ks (i - 1) 0 ∷ drop i ks
kind-before ks n i l p a =
    let e : suc (i - 1) ≡ i = omega arith in
    drop-cons ks (i - 1) 0 (omega arith) ∙ ap (λ (m : ℕ). get_or ks (i - 1) 0 ∷ drop m ks) e

places-below : (j : ℕ) (ks : List ℕ) → places_of j ks < 2 ^ length ks
unfolding places_of
places-below j [] = omega (arith, pow-zero 2)
places-below j (k ∷ ks) = rw (pow-succ' 2 (length ks)) (omega (arith, places-below j ks, from_bool-is (eqb k j), from_bool-le (eqb k j)))

pub places-small : (j : ℕ) (ks : List ℕ) (n i : ℕ) → length ks ≡ n → n ≤ 64 → 0 < i → i ≤ n → 2 * places_of j (drop i ks) + 1 < 2 ^ 64
places-small j ks n i l few some within =
    let k : length (drop i ks) ≤ 63 = omega (arith, length-drop i ks) in
    omega (arith, places-below j (drop i ks), pow-le-pow_right {n = 2} (omega arith) k)
