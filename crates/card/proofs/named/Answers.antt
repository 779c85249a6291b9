-- `card::named` meets its contract: no two names begin with the same letter. Assumes nothing.
use Rattle.std.specs.Prelude.{◌≡◌}
use Rattle.theory.specs.Prelude.{refl, sym, ap, ◌∙◌, true, false, ℕ, arith, eqb}
use Rattle.theory.specs.declared.Verdict.{Verdict}
use Rattle.theory.specs.declared.Verdict.TheVariants.{Over, Angle, Well, Stuck, Under}
use Rattle.card.specs.Card.{initial}
use Rattle.card.proofs.named.Goals as goal

-- the verdict by its letter
by_letter : ℕ → Verdict
by_letter x =
    elim (eqb x (initial Over)) [
      | true ↦ Over
      | false ↦ elim (eqb x (initial Angle)) [
        | true ↦ Angle
        | false ↦ elim (eqb x (initial Well)) [ true ↦ Well | false ↦ elim (eqb x (initial Stuck)) [ true ↦ Stuck | false ↦ Under ] ]
      ]
    ]

by-initial : (v : Verdict) → by_letter (initial v) ≡ v
unfolding by_letter
by-initial Over = refl
by-initial Angle = refl
by-initial Well = refl
by-initial Stuck = refl
by-initial Under = refl

-- two verdicts of one letter
same-letter : (v w : Verdict) {x : ℕ} → x ≡ initial v → x ≡ initial w → v ≡ w
same-letter v w p q = sym (by-initial v) ∙ ap by_letter (sym p ∙ q) ∙ by-initial w

pub returns-in-111 : goal.returns-in-111
returns-in-111 c v e = same-letter Over v (omega arith) e

pub returns-in-97 : goal.returns-in-97
returns-in-97 c v e = same-letter Angle v (omega arith) e

pub returns-in-119 : goal.returns-in-119
returns-in-119 c v e = same-letter Well v (omega arith) e

pub returns-in-115 : goal.returns-in-115
returns-in-115 c v e = same-letter Stuck v (omega arith) e
