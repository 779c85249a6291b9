-- Laws of sets as masks with one element taken out, `a - 2 ^ x`, and of the lowest element. Assumes nothing.
use Rattle.std.specs.Prelude.{◌≡◌, ◌≢◌, ◌-◌, ◌/◌, ◌%◌, ◌^◌, ◌≤◌, ◌<◌}
use Rattle.theory.specs.Prelude.{refl, sym, ap, ◌∙◌, subst, ⊎_elim, ℕ, zero, suc, lt_of_lt_of_le}
use Rattle.theory.specs.Prelude.{pow-le-pow_right, zero-lt-suc, pow-succ', arith, ℕ_discrete, dec_lt, bin_ind, bit_and, and_step, and_self}
use Rattle.theory.specs.Prelude.{and_le_r, ones, ones_step, under, count_trailing_zeros}
use Rattle.std.proofs.Math.Nat.{div-eq_of_lt, zero-mod}
use Rattle.theory.specs.Set.{◌∈◌, ◌∩◌, ◌∪◌, ◌⊑◌, at}
use Rattle.theory.specs.Set.Laws.{at-∩, at-∪, at-le, at_zero, at-div, at_same, at_other, zero-ext, ext, size-zero, size-add, bit, ⊑⇒∩≡}

-- an element of a set below 2 ^ n is below n
pub at-below : (n x a : ℕ) → a < 2 ^ n → x ∈ a → x < n
at-below n x a l e = elim (dec_lt x n) [
  | yes h ↦ h
  | no h ↦ let p : 2 ^ n ≤ 2 ^ x = pow-le-pow_right (zero-lt-suc 1) (omega arith) in
      absurd (omega (arith, at-div x a, ap (λ (z : ℕ). z % 2) (div-eq_of_lt (lt_of_lt_of_le l p)), zero-mod 2))
]

-- a part of a set below 2 ^ n is below 2 ^ n
pub sub-below : (n a b : ℕ) → a ⊑ b → b < 2 ^ n → a < 2 ^ n
unfolding ◌∩◌
sub-below n a b h l = omega (arith, and_le_r a b, ⊑⇒∩≡ a b h)

-- ---- one element looked for

pub meets_at : (x a b : ℕ) → b ≡ 2 ^ x → bit_and a b ≢ 0 → x ∈ a
unfolding ◌∩◌
meets_at x a b q n = ⊎_elim (λ (e : at x a ≡ 0). absurd (n (ap (bit_and a) q ∙ misses x a e))) (λ (e : x ∈ a). e) (bit (at x a) (at-le x a))
  where
    misses : (x a : ℕ) → at x a ≡ 0 → a ∩ 2 ^ x ≡ 0
    misses x a e = zero-ext (a ∩ 2 ^ x) (λ y. go y (ℕ_discrete y x))
      where
        go : (y : ℕ) → Dec (y ≡ x) → at y (a ∩ 2 ^ x) ≡ 0
        go y (yes q) = subst (λ (z : ℕ). at z (a ∩ 2 ^ x) ≡ 0) (sym q) (omega (arith, at-∩ x a (2 ^ x), e))
        go y (no m) = omega (arith, at-∩ y a (2 ^ x), at_other y x m)

pub misses-at : (x a b : ℕ) → b ≡ 2 ^ x → bit_and a b ≡ 0 → at x a ≡ 0
unfolding ◌∩◌
misses-at x a b q e = omega (arith, at-∩ x a (2 ^ x), at_same x, at-le x a, ap (at x) (ap (bit_and a) (sym q) ∙ e), at_zero x)

-- ---- one element taken out

-- a set that holds x is no less than 2 ^ x
pub at_room : (x a : ℕ) → x ∈ a → 2 ^ x ≤ a
unfolding at
at_room zero a e = omega arith
at_room (suc x) a e = omega (arith, at_room x (a / 2) e, pow-succ' 2 x)

less-half : (x a : ℕ) → 2 ^ suc x ≤ a → ((a - 2 ^ suc x) / 2 ≡ a / 2 - 2 ^ x) × ((a - 2 ^ suc x) % 2 ≡ a % 2)
less-half x a h = let p = pow-succ' 2 x in (omega arith, omega arith)

pub less-same : (x a : ℕ) → x ∈ a → at x (a - 2 ^ x) ≡ 0
unfolding at
less-same zero a e = omega arith
less-same (suc x) a e = ap (at x) (less-half x a (at_room (suc x) a e)).0 ∙ less-same x (a / 2) e

pub less_other : (x y a : ℕ) → x ∈ a → y ≢ x → at y (a - 2 ^ x) ≡ at y a
unfolding at
less_other zero zero a e n = absurd (n refl)
less_other zero (suc y) a e n = ap (at y) (omega arith)
less_other (suc x) zero a e n = (less-half x a (at_room (suc x) a e)).1
less_other (suc x) (suc y) a e n = ap (at y) (less-half x a (at_room (suc x) a e)).0 ∙ less_other x y (a / 2) e (λ q. n (ap suc q))

pub less-sub : (x a : ℕ) → x ∈ a → a - 2 ^ x ⊑ a
less-sub x a e = record { le = λ y. go y (ℕ_discrete y x) }
  where
    go : (y : ℕ) → Dec (y ≡ x) → at y (a - 2 ^ x) ≤ at y a
    go y (yes q) = subst (λ (z : ℕ). at z (a - 2 ^ x) ≤ at z a) (sym q) (omega (arith, less-same x a e))
    go y (no n) = omega (arith, less_other x y a e n)

-- what is left of a set, in another that holds the element too
pub less-and : (x a b : ℕ) → x ∈ a → x ∈ b → (a - 2 ^ x) ∩ b ≡ (a ∩ b) - 2 ^ x
less-and x a b e f =
    let here : x ∈ a ∩ b = omega (arith, at-∩ x a b) in
    ext ((a - 2 ^ x) ∩ b) ((a ∩ b) - 2 ^ x) (λ y. elim (ℕ_discrete y x) [
      | yes q ↦ subst (λ (z : ℕ). at z ((a - 2 ^ x) ∩ b) ≡ at z ((a ∩ b) - 2 ^ x)) (sym q)
          (omega (arith, at-∩ x (a - 2 ^ x) b, less-same x a e, less-same x (a ∩ b) here))
      | no n ↦ omega (arith, at-∩ y (a - 2 ^ x) b, at-∩ y a b, less_other x y a e n, less_other x y (a ∩ b) here n)
    ])

-- and in one that has not got it
pub less-out : (x a b : ℕ) → x ∈ a → at x b ≡ 0 → (a - 2 ^ x) ∩ b ≡ a ∩ b
less-out x a b e z = ext ((a - 2 ^ x) ∩ b) (a ∩ b) (λ y. go y (ℕ_discrete y x))
  where
    go : (y : ℕ) → Dec (y ≡ x) → at y ((a - 2 ^ x) ∩ b) ≡ at y (a ∩ b)
    go y (yes q) = omega (arith, at-∩ y (a - 2 ^ x) b, at-∩ y a b, ap (λ (i : ℕ). at i b) q, z)
    go y (no n) = omega (arith, at-∩ y (a - 2 ^ x) b, at-∩ y a b, less_other x y a e n)

-- put back
pub less-or : (x a : ℕ) → x ∈ a → 2 ^ x ∪ (a - 2 ^ x) ≡ a
less-or x a e = ext (2 ^ x ∪ (a - 2 ^ x)) a (λ y. elim (ℕ_discrete y x) [
  | yes q ↦ subst (λ (z : ℕ). at z (2 ^ x ∪ (a - 2 ^ x)) ≡ at z a) (sym q)
      (omega (arith, at-∪ x (2 ^ x) (a - 2 ^ x), at_same x, less-same x a e))
  | no n ↦ omega (arith, at-∪ y (2 ^ x) (a - 2 ^ x), at_other y x n, less_other x y a e n)
])

pub size_less : (x a : ℕ) → x ∈ a → suc (ones (a - 2 ^ x)) ≡ ones a
size_less x a e = sym (size-add (a - 2 ^ x) x (less-same x a e)) ∙ ap ones (less-or x a e)

-- another element of a, and there is one in a set of two
pub less-in : (x y a : ℕ) → x ∈ a → y ∈ a - 2 ^ x → (y ∈ a) × (x ≢ y)
less-in x y a e i = (omega (arith, (less-sub x a e).le y, at-le y a), λ q. omega (arith, less-same x a e, ap (λ (z : ℕ). at z (a - 2 ^ x)) q))

pub less-some : (x a : ℕ) → x ∈ a → 2 ≤ ones a → 0 < a - 2 ^ x
less-some x a e two = go (a - 2 ^ x) refl
  where
    go : (b : ℕ) → a - 2 ^ x ≡ b → 0 < b
    go zero q = absurd (omega (arith, size_less x a e, ap ones q, size-zero))
    go (suc b) q = omega arith

-- a set without x is a part of a that has not lost more
pub sub-less : (x a b : ℕ) → x ∈ a → b ⊑ a → at x b ≡ 0 → b ⊑ a - 2 ^ x
sub-less x a b e h z = record { le = λ y. go y (ℕ_discrete y x) }
  where
    go : (y : ℕ) → Dec (y ≡ x) → at y b ≤ at y (a - 2 ^ x)
    go y (yes q) = omega (arith, z, ap (λ (i : ℕ). at i b) q)
    go y (no n) = omega (arith, h.le y, less_other x y a e n)

-- ---- the lowest element

pub trailing_at : (k a : ℕ) → 0 < a → a < 2 ^ k → count_trailing_zeros k a ∈ a
unfolding count_trailing_zeros at
trailing_at zero a h l = absurd (omega arith)
trailing_at (suc k) a h l = go (a % 2) refl (λ z. trailing_at k (a / 2) (omega arith) (omega (arith, pow-succ' 2 k)))
  where
    go : (d : ℕ) → a % 2 ≡ d → (a % 2 ≡ 0 → count_trailing_zeros k (a / 2) ∈ a / 2) → under d (count_trailing_zeros k (a / 2)) ∈ a
    go zero e rec = rec e
    go (suc zero) e rec = e
    go (suc (suc d)) e rec = absurd (omega arith)

-- a set without its lowest element
pub drop-low : (a : ℕ) → 0 < a → suc (ones (bit_and a (a - 1))) ≡ ones a
drop-low = bin_ind (λ (a : ℕ). 0 < a → suc (ones (bit_and a (a - 1))) ≡ ones a) (λ h. absurd (omega arith)) (λ a ih h. elim (ℕ_discrete (a % 2) 1) [
  | yes e ↦ let half : (a - 1) / 2 ≡ a / 2 = omega arith in
      let b : ℕ = bit_and a (a - 1) in
      let s : b / 2 ≡ a / 2 = omega (arith, and_step a (a - 1), ap (bit_and (a / 2)) half ∙ and_self (a / 2)) in
      omega (arith, ones_step a, ones_step b, ap ones s, and_step a (a - 1))
  | no n ↦ let half : (a - 1) / 2 ≡ a / 2 - 1 = omega arith in
      let b : ℕ = bit_and a (a - 1) in
      let s : b / 2 ≡ bit_and (a / 2) (a / 2 - 1) = omega (arith, and_step a (a - 1), ap (bit_and (a / 2)) half) in
      omega (arith, ones_step a, ones_step b, ap ones s, and_step a (a - 1), ih (omega arith))
])
