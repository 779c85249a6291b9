-- Laws of tests that compute: a conjunction, an equality and a difference of numbers, one of three numbers, the branch taken. Assumes nothing.
use Rattle.std.specs.Prelude.{◌≡◌, ◌≢◌, ◌⊎◌, ◌&&◌}
use Rattle.theory.specs.Prelude.{refl, subst, inl, inr, ⊎_elim, Bool, true, false, not, ℕ, arith, ℕ_discrete, T, eqb}
use Rattle.theory.specs.Prelude.{eqb→eq, eqb_refl, T_not, not_T}

pub and_intro : (a b : Bool) → T a → T b → T (a && b)
and_intro true b p q = q
and_intro false b p q = p

pub and_both : (a b : Bool) → T (a && b) → T a × T b
and_both true b t = (tt, t)
and_both false b t = absurd t

pub eq_test : (x y : ℕ) → x ≡ y → T (eqb x y)
eq_test x y e = subst (λ (z : ℕ). T (eqb x z)) e (eqb_refl x)

pub ne_test : (x y : ℕ) → x ≢ y → T (not (eqb x y))
ne_test x y n = not_T (eqb x y) (λ t. n (eqb→eq x y t))

pub test-ne : (x y : ℕ) → T (not (eqb x y)) → x ≢ y
test-ne x y t e = T_not (eqb x y) t (eq_test x y e)

pub false-ne : (x y : ℕ) → eqb x y ≡ false → x ≢ y
false-ne x y q e = subst T q (eq_test x y e)

-- two tests that say the same are the same
pub iff-same : (a b : Bool) → (T a → T b) → (T b → T a) → a ≡ b
iff-same true true f g = refl
iff-same true false f g = absurd (f tt)
iff-same false true f g = absurd (g tt)
iff-same false false f g = refl

-- whether a number is one of three
pub one_of : (x a b c : ℕ) → Dec ((x ≡ a) ⊎ (x ≡ b) ⊎ (x ≡ c))
one_of x a b c = go (ℕ_discrete x a) (ℕ_discrete x b) (ℕ_discrete x c)
  where
    go : Dec (x ≡ a) → Dec (x ≡ b) → Dec (x ≡ c) → Dec ((x ≡ a) ⊎ (x ≡ b) ⊎ (x ≡ c))
    go (yes e) q r = yes (inl e)
    go (no n) (yes e) r = yes (inr (inl e))
    go (no n) (no k) (yes e) = yes (inr (inr e))
    go (no n) (no k) (no l) = no (⊎_elim n (⊎_elim k l))

-- ---- the branch that a test takes

pub yes-branch : {A : Type 0} (t : Bool) (p q : A) → t ≡ true → p ≡ elim t [ true ↦ p | false ↦ q ]
yes-branch true p q e = refl
yes-branch false p q e = absurd (let z : ◌≡◌ {A = ℕ} 0 1 = cc in omega arith)

pub no-branch : {A : Type 0} (t : Bool) (p q : A) → t ≡ false → q ≡ elim t [ true ↦ p | false ↦ q ]
no-branch true p q e = absurd (let z : ◌≡◌ {A = ℕ} 0 1 = cc in omega arith)
no-branch false p q e = refl
