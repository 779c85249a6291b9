-- Laws of answers over lent space. Assumes nothing.
use Rattle.std.specs.Prelude.{◌≡◌}
use Rattle.theory.specs.Prelude.{ℕ, zero, suc, refl, List, []}
use Rattle.space.specs.Written.{Written}
use Rattle.space.specs.Written.{Refused}
use Rattle.space.specs.Space.{answer, after}
use Rattle.sheet.specs.Field.{Field, value, refused, next}
use Rattle.sheet.specs.Answer.{by_rule, Answers}

module _ {A : Type 0} (x : Field A) where
  pub rule-none : {k : ℕ} → k ≡ 0 → by_rule k x ≡ x
  rule-none e = rw e

  pub rule-some : (j : ℕ) {k : ℕ} → j ≡ k → (j ≡ 0 → ⊥) → by_rule k x ≡ refused j
  rule-some zero e n = absurd (n refl)
  rule-some (suc j) e n = rw (← e)

-- a rule comes before what is read next
pub next-rule : {A B : Type 0} (k : ℕ) (x : Field A) (g : A → List ℕ → Field B) → next (by_rule k x) g ≡ by_rule k (next x g)
next-rule zero x g = refl
next-rule (suc k) x g = refl

module _ {x : Field (List ℕ)} {space : List ℕ} where
  pub answers-refused : {k : ℕ} → x ≡ refused k → Answers x space (Refused k) space
  answers-refused e = rw e (record { answer_is = refl; left_is = refl })

  pub answers-items : {items left : List ℕ} {r : Written} → (r ≡ answer items space) × (left ≡ after items space) → x ≡ value items []
      → Answers x space r left
  answers-items h e = rw e (record { answer_is = h.0; left_is = h.1 })
