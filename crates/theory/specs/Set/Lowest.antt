-- The lowest element of a set, the set without it, and what one set has beyond another, as the machine's words give them. Assumes nothing.
use Rattle.std.specs.Prelude.{◌≡◌, ◌≢◌, ◌-◌, ◌/◌, ◌%◌, ◌^◌, ◌≤◌, ◌<◌}
use Rattle.theory.specs.Prelude.{refl, ap, ◌∙◌, ℕ, zero, suc, min, arith, bit_and, bit_xor, and_step}
use Rattle.theory.specs.Prelude.{count_trailing_zeros, under}
use Rattle.std.specs.Int.Bits.{differ, xor_step}
use Rattle.theory.specs.Set.{◌∈◌, ◌∩◌, at}
use Rattle.theory.specs.Set.Laws.{at-∩, at_zero}

-- ---- elements of a number of k digits

pub at-below : (k x p : ℕ) → x < 2 ^ k → p ∈ x → p < k
unfolding at
at-below zero x p l e = let z : x ≡ 0 = omega arith in absurd (omega (arith, ap (at p) z, at_zero p))
at-below (suc k) x zero l e = omega arith
at-below (suc k) x (suc p) l e = omega (arith, at-below k (x / 2) p (omega arith) e)

-- the lowest element
pub lowest-in : (k x : ℕ) → x < 2 ^ k → x ≢ 0 → count_trailing_zeros k x ∈ x
unfolding at count_trailing_zeros
lowest-in zero x l n = absurd (n (omega arith))
lowest-in (suc k) x l n = go (x % 2) refl (lowest-in k (x / 2))
  where
    go : (d : ℕ) → x % 2 ≡ d → (x / 2 < 2 ^ k → x / 2 ≢ 0 → count_trailing_zeros k (x / 2) ∈ x / 2) → under d (count_trailing_zeros k (x / 2)) ∈ x
    go zero e ih = ih (omega arith) (λ z. n (omega arith))
    go (suc d) e ih = omega arith

-- no element stands before it
pub lowest-least : (k x y : ℕ) → y ∈ x → count_trailing_zeros k x ≤ y
unfolding at count_trailing_zeros
lowest-least zero x y e = omega arith
lowest-least (suc k) x zero e = lowest-least-case (x % 2) refl
  where
    lowest-least-case : (d : ℕ) → x % 2 ≡ d → under d (count_trailing_zeros k (x / 2)) ≤ 0
    lowest-least-case zero f = absurd (omega arith)
    lowest-least-case (suc d) f = omega arith
lowest-least (suc k) x (suc y) e = lowest-least-case (x % 2) refl (lowest-least k (x / 2) y e)
  where
    lowest-least-case : (d : ℕ) → x % 2 ≡ d → count_trailing_zeros k (x / 2) ≤ y → under d (count_trailing_zeros k (x / 2)) ≤ suc y
    lowest-least-case zero f h = omega arith
    lowest-least-case (suc d) f h = omega arith

pub lowest-below : (k x : ℕ) → x < 2 ^ k → x ≢ 0 → count_trailing_zeros k x < k
lowest-below k x l n = at-below k x (count_trailing_zeros k x) l (lowest-in k x l n)

-- the set without it
rest-gone : (k x : ℕ) → x < 2 ^ k → x ≢ 0 → at (count_trailing_zeros k x) (x - 1) ≡ 0
unfolding at count_trailing_zeros
rest-gone zero x l n = absurd (n (omega arith))
rest-gone (suc k) x l n = elim (x % 2) as (λ (d : ℕ). x % 2 ≡ d → at (under d (count_trailing_zeros k (x / 2))) (x - 1) ≡ 0) [
  | zero ↦ λ e. let h : (x - 1) / 2 ≡ x / 2 - 1 = omega arith in
      ap (at (count_trailing_zeros k (x / 2))) h ∙ rest-gone k (x / 2) (omega arith) (λ z. n (omega arith))
  | suc d ↦ λ e. omega arith
] refl

rest-kept : (k x y : ℕ) → x < 2 ^ k → x ≢ 0 → y ≢ count_trailing_zeros k x → min (at y x) (at y (x - 1)) ≡ at y x
unfolding at count_trailing_zeros
rest-kept zero x y l n ne = absurd (n (omega arith))
rest-kept (suc k) x y l n ne = go y (x % 2) refl (rest-kept k (x / 2)) ne
  where
    go : (y d : ℕ) → x % 2 ≡ d
        → ((y : ℕ) → x / 2 < 2 ^ k → x / 2 ≢ 0 → y ≢ count_trailing_zeros k (x / 2) → min (at y (x / 2)) (at y (x / 2 - 1)) ≡ at y (x / 2))
        → y ≢ under d (count_trailing_zeros k (x / 2)) → min (at y x) (at y (x - 1)) ≡ at y x
    go zero zero e ih m = omega arith
    go (suc y) zero e ih m =
        let h : (x - 1) / 2 ≡ x / 2 - 1 = omega arith in
        ap (λ (z : ℕ). min (at y (x / 2)) (at y z)) h ∙ ih y (omega arith) (λ z. n (omega arith)) (λ z. m (ap suc z))
    go zero (suc d) e ih m = absurd (m refl)
    go (suc y) (suc d) e ih m = let h : (x - 1) / 2 ≡ x / 2 = omega arith in ap (λ (z : ℕ). min (at y (x / 2)) (at y z)) h ∙ omega arith

module _ (x : ℕ) (l : x < 2 ^ 64) (n : x ≢ 0) where
  pub rest-lowest : at (count_trailing_zeros 64 x) (bit_and x (x - 1)) ≡ 0
  unfolding ◌∩◌
  rest-lowest = omega (arith, at-∩ (count_trailing_zeros 64 x) x (x - 1), rest-gone 64 x l n)

  pub rest-other : (y : ℕ) → y ≢ count_trailing_zeros 64 x → at y (bit_and x (x - 1)) ≡ at y x
  unfolding ◌∩◌
  rest-other y m = at-∩ y x (x - 1) ∙ rest-kept 64 x y l n m

-- ---- what a has beyond b

digit-beyond : (x y : ℕ) → x < 2 → y < 2 → differ x (min x y) ≡ x - y
digit-beyond zero zero l m = refl
digit-beyond zero (suc zero) l m = refl
digit-beyond (suc zero) zero l m = refl
digit-beyond (suc zero) (suc zero) l m = refl
digit-beyond (suc (suc x)) y l m = absurd (omega arith)
digit-beyond zero (suc (suc y)) l m = absurd (omega arith)
digit-beyond (suc zero) (suc (suc y)) l m = absurd (omega arith)

xor-split : (a b : ℕ) → (bit_xor a b % 2 ≡ differ (a % 2) (b % 2)) × (bit_xor a b / 2 ≡ bit_xor (a / 2) (b / 2))
xor-split a b = let h = differ-two (a % 2) (b % 2) (omega arith) (omega arith) in (omega (arith, xor_step a b), omega (arith, xor_step a b))
  where
    differ-two : (x y : ℕ) → x < 2 → y < 2 → differ x y < 2
    differ-two zero y l m = m
    differ-two (suc zero) zero l m = l
    differ-two (suc zero) (suc zero) l m = omega arith
    differ-two (suc zero) (suc (suc y)) l m = absurd (omega arith)
    differ-two (suc (suc x)) y l m = absurd (omega arith)

pub at-beyond : (y a b : ℕ) → at y (bit_xor a (bit_and a b)) ≡ at y a - at y b
unfolding at
at-beyond zero a b =
    (xor-split a (bit_and a b)).0 ∙ ap (differ (a % 2)) (omega (arith, and_step a b)) ∙ digit-beyond (a % 2) (b % 2) (omega arith) (omega arith)
at-beyond (suc y) a b =
    let h : bit_and a b / 2 ≡ bit_and (a / 2) (b / 2) = omega (arith, and_step a b) in
    ap (at y) ((xor-split a (bit_and a b)).1 ∙ ap (bit_xor (a / 2)) h) ∙ at-beyond y (a / 2) (b / 2)
