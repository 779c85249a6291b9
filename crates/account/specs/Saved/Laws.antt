-- What the check of a saved plan gives, and which rule refuses it. Assumes nothing.
use Rattle.std.specs.Prelude.{◌≡◌, ◌≢◌}
use Rattle.theory.specs.Prelude.{ℕ, zero, suc, refl, sym, ap, ◌∙◌, List}
use Rattle.theory.specs.Graph.{Graph}
use Rattle.theory.specs.Rule.{refusal}
use Rattle.sheet.specs.Field.{Field}
use Rattle.sheet.specs.Rules.{or_else}
use Rattle.sheet.specs.Rules.Laws.{or_else_some}
use Rattle.sheet.specs.Answer.{by_rule}
use Rattle.sheet.specs.Graph.{over_fault}
use Rattle.sheet.specs.Graph.Laws.{fault-none}
use Rattle.graph.specs.Lent.{Sound}
use Rattle.graph.specs.Lent.Sheets.{found-fine}
use Rattle.merges.specs.Run.{Run, run_of, Merged}
use Rattle.judge.specs.Telling.{Reached}
use Rattle.plans.specs.declared.Checked.{Checked}
use Rattle.plans.specs.Check.{plan_fault, Checks}
use Rattle.account.specs.Account.{saved_fault}
use Rattle.account.specs.Saved.{SavedPlan}

-- 11, and then the rules of the plan check, are the rules that refuse a saved plan
pub saved-rule : (g : Graph) (l : List ℕ) {A : Type 0} (x : Field A)
    → by_rule (over_fault g) (by_rule (plan_fault g.clusters l) x) ≡ by_rule (saved_fault g l) x
unfolding saved_fault
saved-rule g l x = by (over_fault g)
  where
    by : (k : ℕ) → by_rule k (by_rule (plan_fault g.clusters l) x) ≡ by_rule (or_else k (plan_fault g.clusters l)) x
    by zero = refl
    by (suc k) = refl

-- the merges that the arrays hold can be made
pub merged-reached : {cs : List ℕ} {run : Run} → Merged cs run → Reached cs run.steps
unfolding run_of
merged-reached m = record { merges = m.p; valid = m.valid; count = sym (ap (λ (r : Run). r.steps) m.is) }

module _ (g : Graph) (l : List ℕ) where
  -- of an over sheet
  pub saved-over : {k : ℕ} → k ≡ over_fault g → k ≢ 0 → saved_fault g l ≡ k
  unfolding saved_fault
  saved-over {k} e n = ap (λ (j : ℕ). or_else j (plan_fault g.clusters l)) (sym e) ∙ or_else_some k (plan_fault g.clusters l) n

  -- of one that is not
  module _ (sound : Sound g.n g.clusters) (none : over_fault g ≡ 0) {r : Checked} {parts joints slots : List ℕ}
      (k : Checks g.clusters l r parts joints slots) where
    pub saved-refused : saved_fault g l ≡ refusal r.outcome
    unfolding saved_fault
    saved-refused =
        ap (λ (j : ℕ). or_else j (plan_fault g.clusters l)) none ∙ sym (k.rule_is (found-fine sound (fault-none g none)))

    pub saved-checked : refusal r.outcome ≡ 0 → SavedPlan g l r.steps parts joints slots
    saved-checked e = record {
      none = saved-refused ∙ e;
      not_over = found-fine sound (fault-none g none);
      merged = k.merged;
      saved = k.saved e;
    }
