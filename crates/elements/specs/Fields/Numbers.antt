-- A number of k bytes at a place, from its highest byte down: one law for every width. Assumes nothing.
use Rattle.std.specs.Prelude.{ℕ, suc, ◌+◌, ◌*◌, ◌-◌, ◌^◌, ◌<◌, ◌≤◌, ◌≡◌, List, take, drop, get_or}
use Rattle.std.proofs.Math.Nat.{pow-succ', pow-le-pow_right}
use Rattle.std.proofs.Common.{arith, ap, ◌∙◌, length-drop, drop_of_length-le, drop-cons, drop-drop, length-take-le}
use Rattle.std.proofs.Math.ListN.{length}
use Rattle.std.proofs.Math.Seq.{get_or-take, get_or-drop}
use borrow.Author.Tests.{lt-ltb, le-ltb}
use Rattle.sheet.specs.Field.{value, refused, field, number}

module _ (s : List ℕ) (at k : ℕ) where
  pub field-short : length s - at < k → field k (drop at s) ≡ refused 2
  unfolding field
  field-short h = rw (length-drop at s, lt-ltb _ _ h)

  pub field-whole : k ≤ length s - at → field k (drop at s) ≡ value (number (take k (drop at s))) (drop (at + k) s)
  unfolding field
  field-whole h = rw (length-drop at s, le-ltb _ _ h, drop-drop)

  window : k ≤ length s - at → length (take k (drop at s)) ≡ k
  window h = length-take-le k (drop at s) (rw length-drop h)

  pub number-none : k ≤ length s - at → number (drop k (take k (drop at s))) ≡ 0
  unfolding number
  number-none h =
      let e : length (take k (drop at s)) ≤ k = omega (arith, window h) in rw (drop_of_length-le (take k (drop at s)) e)

  number_step : (i : ℕ) → i < k → k ≤ length s - at
      → number (drop i (take k (drop at s))) ≡ 256 * number (drop (suc i) (take k (drop at s))) + get_or s (at + i) 0
  unfolding number
  number_step i a h =
      let e : i < length (take k (drop at s)) = rw (window h) a in
      rw (drop-cons (take k (drop at s)) i 0 e, get_or-take k (drop at s) i 0 a, get_or-drop at s i 0) (omega arith)

  -- the byte before i goes in below those from i on
  pub number_more : (i : ℕ) → 0 < i → i ≤ k → k ≤ length s - at
      → number (drop (i - 1) (take k (drop at s))) ≡ 256 * number (drop i (take k (drop at s))) + get_or s (at + (i - 1)) 0
  number_more i p a h =
      let j : suc (i - 1) ≡ i = omega arith in
      number_step (i - 1) (omega arith) h ∙ ap (λ (m : ℕ). 256 * number (drop m (take k (drop at s))) + get_or s (at + (i - 1)) 0) j

-- ---- a number of m bytes is below 256 ^ m
module _ (k i u b : ℕ) (p : 0 < i) (a : i ≤ k) (h : u < 256 ^ (k - i)) (l : b < 256) where
  pub below_more : 256 * u + b < 256 ^ (k - (i - 1))
  below_more = let e : k - (i - 1) ≡ suc (k - i) = omega arith in rw (e, pow-succ' 256 (k - i)) (omega arith)

  pub below-most : k ≤ 8 → 256 * u + b < 2 ^ 64
  below-most m =
      let q : 256 ^ (k - (i - 1)) ≤ 256 ^ 8 = pow-le-pow_right (omega arith) {j = 8} (omega arith) in omega (arith, below_more)
