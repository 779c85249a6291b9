-- What is held, and what a saved plan is checked against. Assumes nothing.
use Rattle.std.specs.Prelude.{◌≡◌}
use Rattle.theory.specs.Prelude.{ℕ, zero, suc, refl, sym, ap, ◌∙◌, List, []}
use Rattle.sheet.specs.Facts.{Facts}
use Rattle.sheet.specs.Field.{value, Bytes}
use Rattle.sheet.specs.Field.Laws.{next-value, refused-value}
use Rattle.sheet.specs.Decode.{read_sheet}
use Rattle.sheet.specs.Accepted.{Accepted}
use Rattle.sheet.specs.Graph.{graph_of, sized_of, over_fault}
use Rattle.sheet.specs.Answer.{by_rule}
use Rattle.sheet.specs.Answer.Laws.{next-rule}
use Rattle.sheet.specs.RoundTrip.{written_read}
use Rattle.plans.specs.Check.{saved_steps_of}
use Rattle.account.specs.Account.{list_report, saved_fault, saved_field}
use Rattle.account.specs.Saved.Laws.{saved-rule}
use Rattle.pattern.specs.Entries.{held, held_sheet, check_field}

-- ---- rule 11

pub held-value : (f : Facts) (rest : List ℕ) {g : Facts} {t : List ℕ} → held f rest ≡ value g t → (f ≡ g) × (rest ≡ t) × (over_fault (graph_of f) ≡ 0)
held-value f rest {g} {t} e = by (over_fault (graph_of f)) refl e
  where
    by : (k : ℕ) → over_fault (graph_of f) ≡ k → by_rule k (value f rest) ≡ value g t → (f ≡ g) × (rest ≡ t) × (over_fault (graph_of f) ≡ 0)
    by zero z e = (cc, cc, z)
    by (suc k) z e = refused-value e

-- no rule refuses the facts of a sketch that is held
pub held-accepted : (bytes : List ℕ) (f : Facts) (rest : List ℕ) → Bytes bytes → held_sheet bytes ≡ value f rest
    → Accepted f × (over_fault (graph_of f) ≡ 0)
unfolding held_sheet
held-accepted bytes f rest all q =
    next-value (read_sheet bytes) held q (λ g t was e.
    let v = held-value g t e in
    ((written_read bytes f rest all (was ∙ cc)).2, ap (λ (x : Facts). over_fault (graph_of x)) (sym v.0) ∙ v.2))

-- a saved plan is refused by the rule that `account` Own speaks of
pub check-saved : (bytes plan : List ℕ) (f : Facts) (rest : List ℕ) → read_sheet bytes ≡ value f rest
    → check_field bytes plan ≡ by_rule (saved_fault (graph_of f) plan) (value (list_report (sized_of f) (saved_steps_of plan)) [])
unfolding held_sheet
check-saved bytes plan f rest e =
    rw e
    (next-rule (over_fault (graph_of f)) (value f rest) (λ g t. saved_field (sized_of g) plan) ∙ saved-rule (graph_of f) plan _)
