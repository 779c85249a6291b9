-- Laws of sets: digits of the operations, sets equal by their elements, sizes, inclusion, single elements. Assumes nothing.
use Rattle.std.specs.Prelude.{◌≡◌, ◌≢◌, ◌⊎◌, ◌+◌, ◌*◌, ◌/◌, ◌%◌, ◌^◌, ◌≤◌, ◌<◌}
use Rattle.theory.specs.Prelude.{refl, sym, ap, ◌∙◌, subst, inl, inr, ℕ, zero, suc, min, max}
use Rattle.theory.specs.Prelude.{le_refl, le_trans, le_antisymm, pow-succ', mod-eq_of_lt, not-suc-le-zero, le_of_suc-le-suc, arith, ℕ_discrete}
use Rattle.theory.specs.Prelude.{bin_ind, and_step, ones, ones_step, pow-lt}
use Rattle.std.proofs.Common.{div-one}
use Rattle.std.proofs.Math.Nat.{div-div-eq-div-mul}
use Rattle.std.specs.Int.Bits.{or_step, mask_lt}
use Rattle.std.proofs.lemmas.Nat.{and_mask}
use Rattle.std.specs.Int.Count.{ones-ones}
use Rattle.theory.specs.Set.{◌∈◌, ◌∩◌, ◌∪◌, at, ◌⊑◌, full}
use Rattle.theory.specs.Sum.{sum}
use Rattle.theory.specs.Sum.Laws.{sum-front}

-- ---- digits of the operations

and_low : (a b : ℕ) → (a ∩ b) % 2 ≡ min (a % 2) (b % 2)
unfolding ◌∩◌
and_low a b = omega (arith, and_step a b)

and-half : (a b : ℕ) → (a ∩ b) / 2 ≡ (a / 2) ∩ (b / 2)
unfolding ◌∩◌
and-half a b = omega (arith, and_step a b)

or-low : (a b : ℕ) → (a ∪ b) % 2 ≡ max (a % 2) (b % 2)
unfolding ◌∪◌
or-low a b = omega (arith, or_step a b)

or-half : (a b : ℕ) → (a ∪ b) / 2 ≡ (a / 2) ∪ (b / 2)
unfolding ◌∪◌
or-half a b = omega (arith, or_step a b)

pub at-∩ : (x a b : ℕ) → at x (a ∩ b) ≡ min (at x a) (at x b)
unfolding at
at-∩ zero a b = and_low a b
at-∩ (suc x) a b = ap (at x) (and-half a b) ∙ at-∩ x (a / 2) (b / 2)

pub at-∪ : (x a b : ℕ) → at x (a ∪ b) ≡ max (at x a) (at x b)
unfolding at
at-∪ zero a b = or-low a b
at-∪ (suc x) a b = ap (at x) (or-half a b) ∙ at-∪ x (a / 2) (b / 2)

pub at-le : (x a : ℕ) → at x a ≤ 1
unfolding at
at-le zero a = omega arith
at-le (suc x) a = at-le x (a / 2)

pub at_zero : (x : ℕ) → at x zero ≡ zero
unfolding at
at_zero zero = refl
at_zero (suc x) = at_zero x

pub bit : (x : ℕ) → x ≤ 1 → (x ≡ 0) ⊎ (x ≡ 1)
bit zero h = inl refl
bit (suc zero) h = inr refl
bit (suc (suc x)) h = absurd (omega arith)

-- the digit as code that shifts reads it
pub at-div : (x a : ℕ) → at x a ≡ a / 2 ^ x % 2
unfolding at
at-div zero a = ap (λ (z : ℕ). z % 2) (sym (div-one a))
at-div (suc x) a = at-div x (a / 2) ∙ ap (λ (z : ℕ). z % 2) (div-div-eq-div-mul a 2 (2 ^ x) ∙ ap (λ (z : ℕ). a / z) (sym (pow-succ' 2 x)))

-- ---- two sets with the same elements are the same number

pub zero-ext : (b : ℕ) → ((x : ℕ) → at x b ≡ zero) → b ≡ zero
unfolding at
zero-ext = bin_ind (λ (b : ℕ). ((x : ℕ) → at x b ≡ zero) → b ≡ zero) (λ h. refl) (λ b ih h. omega (arith, ih (λ x. h (suc x)), h zero))

pub ext : (a b : ℕ) → ((x : ℕ) → at x a ≡ at x b) → a ≡ b
unfolding at
ext =
    bin_ind (λ (a : ℕ). (b : ℕ) → ((x : ℕ) → at x a ≡ at x b) → a ≡ b)
    (λ b h. sym (zero-ext b (λ x. sym (h x) ∙ at_zero x)))
    (λ a ih b h. omega (arith, ih (b / 2) (λ x. h (suc x)), h zero))

-- ---- sizes

pub size-zero : ones zero ≡ zero
unfolding ones
size-zero = refl

pub size-∪ : (a b : ℕ) → ones (a ∪ b) + ones (a ∩ b) ≡ ones a + ones b
unfolding ◌∩◌ ◌∪◌
size-∪ =
    bin_ind (λ (a : ℕ). (b : ℕ) → ones (a ∪ b) + ones (a ∩ b) ≡ ones a + ones b) (λ b. omega (arith, size-zero))
    (λ a ih b. omega (
      arith,
      ih (b / 2),
      ones_step a,
      ones_step b,
      ones_step (a ∪ b),
      ones_step (a ∩ b),
      ap ones (or-half a b),
      ap ones (and-half a b),
      or-low a b,
      and_low a b,
    ))

halves : {a b : ℕ} → a ⊑ b → a / 2 ⊑ b / 2
unfolding at
halves h = record { le = λ x. h.le (suc x) }

pub ⊑⇒size≤ : (b a : ℕ) → a ⊑ b → ones a ≤ ones b
unfolding at
⊑⇒size≤ =
    bin_ind (λ (b : ℕ). (a : ℕ) → a ⊑ b → ones a ≤ ones b)
    (λ a h. omega (arith, ap ones (zero-ext a (λ x. omega (arith, h.le x, at_zero x)))))
    (λ b ih a h. omega (arith, ih (a / 2) (halves h), h.le zero, ones_step a, ones_step b))

pub ⊑-size-≡ : (b a : ℕ) → a ⊑ b → ones b ≤ ones a → a ≡ b
unfolding at
⊑-size-≡ =
    bin_ind (λ (b : ℕ). (a : ℕ) → a ⊑ b → ones b ≤ ones a → a ≡ b) (λ a h k. zero-ext a (λ x. omega (arith, h.le x, at_zero x)))
    (λ b ih a h k.
    let l : ones (a / 2) ≤ ones (b / 2) = ⊑⇒size≤ (b / 2) (a / 2) (halves h) in
    let low : a % 2 ≤ b % 2 = h.le zero in
    let half : ones (b / 2) ≤ ones (a / 2) = omega (arith, ones_step a, ones_step b) in
    let same : a / 2 ≡ b / 2 = ih (a / 2) (halves h) half in
    omega (arith, ones_step a, ones_step b, ap ones same))

-- only the empty set has no element
pub size_none : (a : ℕ) → ones a ≡ zero → a ≡ zero
size_none a e = sym (⊑-size-≡ a zero (record { le = λ x. omega (arith, at_zero x) }) (omega arith))

-- the size as a sum of digits
pub size-sum : (n a : ℕ) → a < 2 ^ n → ones a ≡ sum n (λ x. at x a)
unfolding sum at
size-sum zero zero h = size-zero
size-sum zero (suc a) h = absurd (not-suc-le-zero (le_of_suc-le-suc h))
size-sum (suc n) a h =
    let q : a < 2 * 2 ^ n = subst (λ (z : ℕ). a < z) (pow-succ' 2 n) h in
    let l : a / 2 < 2 ^ n = omega arith in
    omega (arith, ones_step a, size-sum n (a / 2) l, sum-front n (λ x. at x a))

-- ---- the lattice, digit by digit

pub ⊑_refl : (a : ℕ) → a ⊑ a
⊑_refl a = record { le = λ x. le_refl (at x a) }

pub ⊑_trans : {a b c : ℕ} → a ⊑ b → b ⊑ c → a ⊑ c
⊑_trans h k = record { le = λ x. le_trans (h.le x) (k.le x) }

pub ⊑-antisym : (a b : ℕ) → a ⊑ b → b ⊑ a → a ≡ b
⊑-antisym a b h k = ext a b (λ x. le_antisymm (h.le x) (k.le x))

pub a⊑a∪b : (a b : ℕ) → a ⊑ a ∪ b
a⊑a∪b a b = record { le = λ x. omega (arith, at-∪ x a b) }

pub b⊑a∪b : (a b : ℕ) → b ⊑ a ∪ b
b⊑a∪b a b = record { le = λ x. omega (arith, at-∪ x a b) }

pub ∪-least : {a b c : ℕ} → a ⊑ c → b ⊑ c → a ∪ b ⊑ c
∪-least {a} {b} {c} h k = record { le = λ x. omega (arith, at-∪ x a b, h.le x, k.le x) }

pub a∩b⊑a : (a b : ℕ) → a ∩ b ⊑ a
a∩b⊑a a b = record { le = λ x. omega (arith, at-∩ x a b) }

pub a∩b⊑b : (a b : ℕ) → a ∩ b ⊑ b
a∩b⊑b a b = record { le = λ x. omega (arith, at-∩ x a b) }

pub ∩-greatest : {a b c : ℕ} → c ⊑ a → c ⊑ b → c ⊑ a ∩ b
∩-greatest {a} {b} {c} h k = record { le = λ x. omega (arith, at-∩ x a b, h.le x, k.le x) }

pub ∩-mono : {a b c d : ℕ} → a ⊑ c → b ⊑ d → a ∩ b ⊑ c ∩ d
∩-mono {a} {b} {c} {d} h k = record { le = λ x. omega (arith, at-∩ x a b, at-∩ x c d, h.le x, k.le x) }

pub ∪-mono : {a b c d : ℕ} → a ⊑ c → b ⊑ d → a ∪ b ⊑ c ∪ d
∪-mono {a} {b} {c} {d} h k = record { le = λ x. omega (arith, at-∪ x a b, at-∪ x c d, h.le x, k.le x) }

pub ∩-comm : (a b : ℕ) → a ∩ b ≡ b ∩ a
∩-comm a b = ext (a ∩ b) (b ∩ a) (λ x. omega (arith, at-∩ x a b, at-∩ x b a))

pub ∪-comm : (a b : ℕ) → a ∪ b ≡ b ∪ a
∪-comm a b = ext (a ∪ b) (b ∪ a) (λ x. omega (arith, at-∪ x a b, at-∪ x b a))

-- c meets a union in the union of what it shares with each part
pub ∩-distrib-∪ : (a b c : ℕ) → (a ∪ b) ∩ c ≡ (a ∩ c) ∪ (b ∩ c)
∩-distrib-∪ a b c = ext ((a ∪ b) ∩ c) ((a ∩ c) ∪ (b ∩ c)) (λ x. simp (at-∩, at-∪) (omega arith))

-- a ⊑ b, as one test
pub ⊑⇒∩≡ : (a b : ℕ) → a ⊑ b → a ∩ b ≡ a
⊑⇒∩≡ a b h = ext (a ∩ b) a (λ x. omega (arith, at-∩ x a b, h.le x))

pub ⊑⇒∪≡ : (a b : ℕ) → a ⊑ b → a ∪ b ≡ b
⊑⇒∪≡ a b h = ext (a ∪ b) b (λ x. omega (arith, at-∪ x a b, h.le x))

pub ∩≡⇒⊑ : (a b : ℕ) → a ∩ b ≡ a → a ⊑ b
∩≡⇒⊑ a b e = record { le = λ x. omega (arith, at-∩ x a b, ap (at x) e) }

-- ---- two different sets of one element have nothing in common

pub singles-apart : (a b : ℕ) → ones a ≡ 1 → ones b ≡ 1 → a ≢ b → ones (a ∩ b) ≡ zero
singles-apart a b ha hb ne = go (ones (a ∩ b)) refl
  where
    go : (k : ℕ) → ones (a ∩ b) ≡ k → k ≡ zero
    go zero e = refl
    go (suc k) e = absurd (ne (sym (⊑-size-≡ a (a ∩ b) (a∩b⊑a a b) (omega arith)) ∙ ⊑-size-≡ b (a ∩ b) (a∩b⊑b a b) (omega arith)))

pub singles-or : (a b : ℕ) → ones a ≡ 1 → ones b ≡ 1 → a ≢ b → ones (a ∪ b) ≡ 2
singles-or a b ha hb ne = omega (arith, size-∪ a b, singles-apart a b ha hb ne)

-- ---- single elements

pub at_same : (u : ℕ) → u ∈ 2 ^ u
unfolding at
at_same zero = refl
at_same (suc u) = ap (at u) (omega arith) ∙ at_same u

pub at_other : (x u : ℕ) → x ≢ u → at x (2 ^ u) ≡ 0
unfolding at
at_other zero zero ne = absurd (ne refl)
at_other zero (suc u) ne = omega arith
at_other (suc x) zero ne = at_zero x
at_other (suc x) (suc u) ne = ap (at x) (omega arith) ∙ at_other x u (λ e. ne (ap suc e))

pub size-pow : (u : ℕ) → ones (2 ^ u) ≡ 1
size-pow zero = omega (arith, ones_step 1, size-zero)
size-pow (suc u) = let half : 2 ^ suc u / 2 ≡ 2 ^ u = omega arith in omega (arith, ones_step (2 ^ suc u), ap ones half, size-pow u)

pub pow-ne : (u v : ℕ) → u < v → 2 ^ u ≢ 2 ^ v
pow-ne u v h e = omega (arith, pow-lt h)

-- a set of one element or more has one
pub some : (a : ℕ) → 1 ≤ ones a → (x : ℕ) × (x ∈ a)
unfolding at
some = bin_ind (λ (a : ℕ). 1 ≤ ones a → (x : ℕ) × (x ∈ a)) (λ h. absurd (omega (arith, size-zero))) (λ a ih h. go a ih h (ℕ_discrete (a % 2) 1))
  where
    go : (a : ℕ) → (1 ≤ ones (a / 2) → (x : ℕ) × (x ∈ a / 2)) → 1 ≤ ones a → Dec (a % 2 ≡ 1) → (x : ℕ) × (x ∈ a)
    go a ih h (yes e) = (zero, e)
    go a ih h (no n) = let r = ih (omega (arith, ones_step a)) in (suc r.0, r.1)

-- one of two or more has another
pub two : (a : ℕ) → 2 ≤ ones a → (x y : ℕ) × (x < y) × (x ∈ a) × (y ∈ a)
unfolding at
two =
    bin_ind (λ (a : ℕ). 2 ≤ ones a → (x y : ℕ) × (x < y) × (x ∈ a) × (y ∈ a)) (λ h. absurd (omega (arith, size-zero)))
    (λ a ih h. elim (ℕ_discrete (a % 2) 1) [
      | yes e ↦ let r = some (a / 2) (omega (arith, ones_step a)) in (zero, suc r.0, omega arith, e, r.1)
      | no n ↦ let r = ih (omega (arith, ones_step a)) in (suc r.0, suc r.1, omega (arith, r.2), r.3, r.4)
    ])

pub other : (a y : ℕ) → 2 ≤ ones a → (x : ℕ) × (x ∈ a) × (x ≢ y)
other a y h = go (ℕ_discrete (two a h).0 y)
  where
    go : Dec ((two a h).0 ≡ y) → (x : ℕ) × (x ∈ a) × (x ≢ y)
    go (yes e) = let r = two a h in (r.1, r.4, λ f. omega (arith, r.2))
    go (no n) = let r = two a h in (r.0, r.3, n)

-- adding an element
pub size-add : (a x : ℕ) → at x a ≡ 0 → ones (2 ^ x ∪ a) ≡ suc (ones a)
size-add a x e = let apart : 2 ^ x ∩ a ≡ zero = ext (2 ^ x ∩ a) zero (λ y. elim (ℕ_discrete y x) [
  | yes p ↦ omega (arith, at-∩ y (2 ^ x) a, at_zero y, ap (λ (z : ℕ). at z a) p)
  | no n ↦ omega (arith, at-∩ y (2 ^ x) a, at_zero y, at_other y x n)
]) in omega (arith, size-∪ (2 ^ x) a, size-pow x, ap ones apart, size-zero)

-- two different elements make two or more
pub two_in : (a x y : ℕ) → x ∈ a → y ∈ a → x ≢ y → 2 ≤ ones a
two_in a x y p q n = omega (
  arith,
  ⊑⇒size≤ a (2 ^ x ∪ 2 ^ y) (record {
    le = λ z. elim (ℕ_discrete z x) [
      | yes e ↦ omega (arith, ap (λ (w : ℕ). at w a) e, at-le z (2 ^ x ∪ 2 ^ y))
      | no m ↦ elim (ℕ_discrete z y) [
        | yes e ↦ omega (arith, ap (λ (w : ℕ). at w a) e, at-le z (2 ^ x ∪ 2 ^ y))
        | no k ↦ omega (arith, at-∪ z (2 ^ x) (2 ^ y), at_other z x m, at_other z y k)
      ]
    ];
  }),
  size-add (2 ^ y) x (at_other x y n),
  size-pow y,
)

pub both : (x a b : ℕ) → x ∈ a → x ∈ b → x ∈ a ∩ b
both x a b p q = omega (arith, at-∩ x a b)

pub ∈-∩⁻ : (x a b : ℕ) → x ∈ a ∩ b → (x ∈ a) × (x ∈ b)
∈-∩⁻ x a b e = (omega (arith, at-∩ x a b, at-le x a, at-le x b), omega (arith, at-∩ x a b, at-le x a, at-le x b))

pub ∈-∪⁻ : (x a b : ℕ) → x ∈ a ∪ b → (x ∈ a) ⊎ (x ∈ b)
∈-∪⁻ x a b e = elim (ℕ_discrete (at x a) 1) [ yes p ↦ inl p | no n ↦ inr (omega (arith, at-∪ x a b, at-le x a, at-le x b)) ]

pub ∈-∪ˡ : (x a b : ℕ) → x ∈ a → x ∈ a ∪ b
∈-∪ˡ x a b e = omega (arith, at-∪ x a b, at-le x b)

pub ∈-∪ʳ : (x a b : ℕ) → x ∈ b → x ∈ a ∪ b
∈-∪ʳ x a b e = omega (arith, at-∪ x a b, at-le x a)

-- ---- the elements below n

pub below-full : (n x : ℕ) → x < 2 ^ n → x ⊑ full n
unfolding full ◌∩◌
below-full n x h = ∩≡⇒⊑ x (full n) (and_mask x n ∙ mod-eq_of_lt h)

pub cut_below : (n x : ℕ) → x ∩ full n < 2 ^ n
unfolding full ◌∩◌
cut_below n x = mask_lt x n

pub size-full : (n : ℕ) → ones (full n) ≡ n
unfolding full
size-full n = ones-ones n

-- ---- a set and its elements

pub filled : (a p : ℕ) → p ∈ a → a ≢ 0
filled a p e z = omega (arith, ap (at p) z, at_zero p)

pub element : (a : ℕ) → a ≢ 0 → (p : ℕ) × (p ∈ a)
element a n = by (ones a) refl
  where
    by : (k : ℕ) → ones a ≡ k → (p : ℕ) × (p ∈ a)
    by zero e = absurd (n (size_none a e))
    by (suc k) e = some a (omega arith)

pub counted : (a p : ℕ) → p ∈ a → 1 ≤ ones a
counted a p e =
    elim (ones a) as (λ (k : ℕ). ones a ≡ k → 1 ≤ ones a) [ zero ↦ λ z. absurd (filled a p e (size_none a z)) | suc k ↦ λ z. omega arith ] refl

-- two sets that share an element meet
pub meets : (a b p : ℕ) → p ∈ a → p ∈ b → a ∩ b ≢ 0
meets a b p i j = filled (a ∩ b) p (both p a b i j)

-- an element not in a set
pub out : (p a : ℕ) → (p ∈ a → ⊥) → at p a ≡ 0
out p a n = elim (ℕ_discrete (at p a) 1) [ yes e ↦ absurd (n e) | no m ↦ omega (arith, at-le p a) ]

-- two single sets with an element in common are one
pub same-single : (a b p : ℕ) → ones a ≡ 1 → ones b ≡ 1 → p ∈ a → p ∈ b → a ≡ b
same-single a b p ea eb ia ib =
    elim (ℕ_discrete a b) [ yes e ↦ e | no n ↦ absurd (omega (arith, singles-apart a b ea eb n, counted (a ∩ b) p (both p a b ia ib))) ]
