-- Sums over a set's elements. Assumes nothing.
use Rattle.std.specs.Prelude.{◌≡◌, ◌≢◌, ◌+◌, ◌*◌, ◌^◌, ◌≤◌, ◌<◌}
use Rattle.theory.specs.Prelude.{refl, sym, ap, ◌∙◌, inl, inr, ⊎_elim, List, ℕ, one-mul, arith, ones}
use Rattle.std.proofs.Common.{zero-mul}
use Rattle.theory.specs.Set.{◌∈◌, at}
use Rattle.theory.specs.Set.Laws.{at-le, bit, size-sum}
use Rattle.theory.specs.Sum.Laws.{sum-le, sum-eq, sum-zero, sum-mul, sum-two, sum-change, sum-change₂, sum-tight}
use Rattle.sparsity.specs.Freedoms.{entry, same, free, over}

-- ---- same

pub same_refl : (x : ℕ) → same x x ≡ 1
unfolding same
same_refl x = omega arith

pub same-ne : (y x : ℕ) → y ≢ x → same y x ≡ 0
unfolding same
same-ne y x n = omega arith

pub same-le : (y x : ℕ) → same y x ≤ 1
unfolding same
same-le y x = omega arith

pub same_bit : (r y x : ℕ) → r ≡ same y x → r ≤ 1
same_bit r y x e = omega (arith, same-le y x)

pub same-eq : (y x : ℕ) → 0 < same y x → y ≡ x
unfolding same
same-eq y x h = omega arith

-- the free entries of x, which is k, as the code counts them
pub free-count : (own : List (List ℕ)) {x k r : ℕ} → k ≡ x → r ≡ same (entry own k 0) x + same (entry own k 1) x → r ≡ free own x
unfolding free
free-count own {x} e er = er ∙ ap (λ (j : ℕ). same (entry own j 0) x + same (entry own j 1) x) e

-- ---- sums over a set's elements

one-times : (b f : ℕ) → b ≡ 1 → b * f ≡ f
one-times b f e = ap (λ (z : ℕ). z * f) e ∙ one-mul f

no-times : (b f : ℕ) → b ≡ 0 → b * f ≡ 0
no-times b f e = ap (λ (z : ℕ). z * f) e ∙ zero-mul f

module _ (a : ℕ) (f g : ℕ → ℕ) where
  le-times : (x : ℕ) → (x ∈ a → f x ≤ g x) → at x a * f x ≤ at x a * g x
  le-times x h = ⊎_elim
      (λ (e : at x a ≡ 0). omega (arith, no-times (at x a) (f x) e))
      (λ (e : x ∈ a). omega (arith, one-times (at x a) (f x) e, one-times (at x a) (g x) e, h e)) (bit (at x a) (at-le x a))

  pub over-le : ((x : ℕ) → x < 64 → x ∈ a → f x ≤ g x) → over a f ≤ over a g
  unfolding over
  over-le h = sum-le 64 (λ x. at x a * f x) (λ x. at x a * g x) (λ x l. le-times x (h x l))

  pub over-same : ((x : ℕ) → x < 64 → x ∈ a → f x ≡ g x) → over a f ≡ over a g
  unfolding over
  over-same h =
      sum-eq 64 (λ x. at x a * f x) (λ x. at x a * g x)
      (λ x l. elim (bit (at x a) (at-le x a)) [ inl e ↦ rw e (omega arith) | inr e ↦ ap (λ (z : ℕ). at x a * z) (h x l e) ])

  -- terms that agree but at one element
  pub over-change : (y : ℕ) → y < 64 → ((x : ℕ) → x ≢ y → f x ≡ g x) → over a f + at y a * g y ≡ over a g + at y a * f y
  unfolding over
  over-change y l h = sum-change 64 (λ x. at x a * f x) (λ x. at x a * g x) y l (λ x m n. ap (λ (z : ℕ). at x a * z) (h x n))

  -- where no term of f is above that of g, and the sum is not below, each term is the same
  pub over-tight : ((x : ℕ) → x < 64 → x ∈ a → f x ≤ g x) → over a g ≤ over a f → (x : ℕ) → x < 64 → x ∈ a → g x ≤ f x
  unfolding over
  over-tight h t x l e = omega (
    arith,
    sum-tight 64 (λ x. at x a * f x) (λ x. at x a * g x) (λ x l. le-times x (h x l)) t x l,
    one-times (at x a) (f x) e,
    one-times (at x a) (g x) e,
  )

pub over-two : (a : ℕ) (f : ℕ → ℕ) (x y : ℕ) → x < 64 → y < 64 → x ≢ y → x ∈ a → y ∈ a → f x + f y ≤ over a f
unfolding over
over-two a f x y lx ly n ex ey = omega (arith, sum-two 64 (λ x. at x a * f x) x y lx ly n, one-times (at x a) (f x) ex, one-times (at y a) (f y) ey)

-- two terms, and no other
pub over-only : (a : ℕ) (f : ℕ → ℕ) (x y : ℕ) → x < 64 → y < 64 → x ≢ y → x ∈ a → y ∈ a
    → ((z : ℕ) → z < 64 → z ∈ a → z ≢ x → z ≢ y → f z ≡ 0) → over a f ≡ f x + f y
unfolding over
over-only a f x y lx ly n ex ey h = omega (
  arith,
  sum-change₂ 64 (λ x. at x a * f x) (λ x. 0) x y lx ly n
      (λ z l p q. ⊎_elim
      (λ (e : at z a ≡ 0). no-times (at z a) (f z) e)
      (λ (e : z ∈ a). one-times (at z a) (f z) e ∙ h z l e p q) (bit (at z a) (at-le z a))),
  sum-zero 64 (λ x. 0) (λ x l. refl),
  one-times (at x a) (f x) ex,
  one-times (at y a) (f y) ey,
)

-- two for each element
pub over-size : (a : ℕ) → a < 2 ^ 64 → over a (λ x. 2) ≡ 2 * ones a
unfolding over
over-size a l =
    sum-eq 64 (λ x. at x a * 2) (λ x. 2 * at x a) (λ x h. omega arith) ∙ sum-mul 64 2 (λ x. at x a)
    ∙ ap (λ (z : ℕ). 2 * z) (sym (size-sum 64 a l))
