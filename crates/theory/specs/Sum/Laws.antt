-- Laws of sums over the numbers below a bound. Assumes nothing.
use Rattle.std.specs.Prelude.{◌≡◌, ◌≢◌, ◌+◌, ◌*◌, ◌≤◌, ◌<◌}
use Rattle.theory.specs.Prelude.{refl, sym, ap, ◌∙◌, subst, ⊎_elim, ℕ, zero, suc, le_refl, le_step, lt-suc_self}
use Rattle.theory.specs.Prelude.{eq-or-lt_of_le, le_of_suc-le-suc, not-suc-le-zero, mul-zero, mul-add, ne_of_lt, arith}
use Rattle.std.proofs.Common.{ne_of_gt}
use Rattle.theory.specs.Sum.{sum}

pub sum-le : (n : ℕ) (f g : ℕ → ℕ) → ((i : ℕ) → i < n → f i ≤ g i) → sum n f ≤ sum n g
unfolding sum
sum-le zero f g h = le_refl zero
sum-le (suc n) f g h = omega (arith, sum-le n f g (λ i k. h i (le_step k)), h n (lt-suc_self n))

pub sum-eq : (n : ℕ) (f g : ℕ → ℕ) → ((i : ℕ) → i < n → f i ≡ g i) → sum n f ≡ sum n g
unfolding sum
sum-eq zero f g h = refl
sum-eq (suc n) f g h = omega (arith, sum-eq n f g (λ i k. h i (le_step k)), h n (lt-suc_self n))

pub sum-zero : (n : ℕ) (f : ℕ → ℕ) → ((i : ℕ) → i < n → f i ≡ 0) → sum n f ≡ 0
unfolding sum
sum-zero zero f h = refl
sum-zero (suc n) f h = omega (arith, sum-zero n f (λ i k. h i (le_step k)), h n (lt-suc_self n))

pub sum-mul : (n a : ℕ) (f : ℕ → ℕ) → sum n (λ i. a * f i) ≡ a * sum n f
unfolding sum
sum-mul zero a f = sym (mul-zero a)
sum-mul (suc n) a f = omega (arith, sum-mul n a f, mul-add a (sum n f) (f n))

-- one term, and two
pub sum-at : (n : ℕ) (f : ℕ → ℕ) (i : ℕ) → i < n → f i ≤ sum n f
unfolding sum
sum-at zero f i h = absurd (not-suc-le-zero h)
sum-at (suc n) f i h = ⊎_elim
    (λ (e : i ≡ n). omega (arith, ap f e))
    (λ (k : i < n). omega (arith, sum-at n f i k))
    (eq-or-lt_of_le (le_of_suc-le-suc h))

pub sum-two : (n : ℕ) (f : ℕ → ℕ) (i j : ℕ) → i < n → j < n → i ≢ j → f i + f j ≤ sum n f
unfolding sum
sum-two zero f i j hi hj d = absurd (not-suc-le-zero hi)
sum-two (suc n) f i j hi hj d = ⊎_elim
    (λ (e : i ≡ n). ⊎_elim
    (λ (e' : j ≡ n). absurd (d (e ∙ sym e')))
    (λ (k : j < n). omega (arith, ap f e, sum-at n f j k))
    (eq-or-lt_of_le (le_of_suc-le-suc hj)))
    (λ (k : i < n). ⊎_elim
    (λ (e' : j ≡ n). omega (arith, ap f e', sum-at n f i k))
    (λ (k' : j < n). omega (arith, sum-two n f i j k k' d))
    (eq-or-lt_of_le (le_of_suc-le-suc hj)))
    (eq-or-lt_of_le (le_of_suc-le-suc hi))

-- terms that agree everywhere but at y
pub sum-change : (n : ℕ) (f g : ℕ → ℕ) (y : ℕ) → y < n → ((i : ℕ) → i < n → i ≢ y → f i ≡ g i) → sum n f + g y ≡ sum n g + f y
unfolding sum
sum-change zero f g y h e = absurd (not-suc-le-zero h)
sum-change (suc n) f g y h e = ⊎_elim
    (λ (p : y ≡ n).
    omega (arith, ap f p, ap g p, sum-eq n f g (λ i k. e i (le_step k) (subst (λ (z : ℕ). i ≢ z) (sym p) (ne_of_lt k)))))
    (λ (k : y < n). omega (arith, sum-change n f g y k (λ i l. e i (le_step l)), e n (lt-suc_self n) (ne_of_gt k)))
    (eq-or-lt_of_le (le_of_suc-le-suc h))

-- terms that agree everywhere but at two places
pub sum-change₂ : (n : ℕ) (f g : ℕ → ℕ) (x y : ℕ) → x < n → y < n → x ≢ y
    → ((i : ℕ) → i < n → i ≢ x → i ≢ y → f i ≡ g i) → sum n f + g x + g y ≡ sum n g + f x + f y
unfolding sum
sum-change₂ zero f g x y hx hy d e = absurd (not-suc-le-zero hx)
sum-change₂ (suc n) f g x y hx hy d e = ⊎_elim
    (λ (p : x ≡ n). ⊎_elim
    (λ (q : y ≡ n). absurd (d (p ∙ sym q)))
    (λ (k : y < n).
    omega (arith, ap f p, ap g p, sum-change n f g y k (λ i l. e i (le_step l) (subst (λ (z : ℕ). i ≢ z) (sym p) (ne_of_lt l)))))
    (eq-or-lt_of_le (le_of_suc-le-suc hy)))
    (λ (k : x < n). ⊎_elim
    (λ (q : y ≡ n).
    omega (arith, ap f q, ap g q, sum-change n f g x k (λ i l m. e i (le_step l) m (subst (λ (z : ℕ). i ≢ z) (sym q) (ne_of_lt l)))))
    (λ (k' : y < n). omega (arith, sum-change₂ n f g x y k k' d (λ i l. e i (le_step l)), e n (lt-suc_self n) (ne_of_gt k) (ne_of_gt k')))
    (eq-or-lt_of_le (le_of_suc-le-suc hy)))
    (eq-or-lt_of_le (le_of_suc-le-suc hx))

-- where each term is at most another, and the sums are equal, the terms are
pub sum-tight : (n : ℕ) (f g : ℕ → ℕ) → ((i : ℕ) → i < n → f i ≤ g i) → sum n g ≤ sum n f → (i : ℕ) → i < n → g i ≤ f i
unfolding sum
sum-tight zero f g h e i l = absurd (not-suc-le-zero l)
sum-tight (suc n) f g h e i l = ⊎_elim
    (λ (p : i ≡ n). omega (arith, ap f p, ap g p, sum-le n f g (λ j m. h j (le_step m))))
    (λ (m : i < n). sum-tight n f g (λ j q. h j (le_step q)) (omega (arith, h n (lt-suc_self n))) i m)
    (eq-or-lt_of_le (le_of_suc-le-suc l))

-- the first term apart
pub sum-front : (n : ℕ) (f : ℕ → ℕ) → sum (suc n) f ≡ f 0 + sum n (λ i. f (suc i))
unfolding sum
sum-front zero f = omega arith
sum-front (suc n) f = omega (arith, sum-front n f)
