-- The promises of rule 14 hold. Assumes nothing.
use Rattle.std.specs.Prelude.{◌≡◌}
use Rattle.theory.specs.Prelude.{ℕ, arith, refl, ap, subst, inl, inr, List, []}
use Rattle.theory.specs.Graph.Laws.{fine-not-over}
use Rattle.sheet.specs.Facts.{Facts}
use Rattle.sheet.specs.Field.{Field, value, refused, next, Bytes}
use Rattle.sheet.specs.Graph.{graph_of}
use Rattle.sheet.specs.Graph.Laws.{fault-none}
use Rattle.sheet.specs.Answer.{by_rule}
use Rattle.sheet.specs.Refusals.{By}
use Rattle.sheet.specs.Refusals.Laws.{which}
use Rattle.plans.specs.Check.{plan_fault}
use Rattle.plans.specs.Rule14.{plan_fault14, Never14}
use Rattle.account.specs.Own.Proof.{own-lists}
use Rattle.pattern.specs.Entries.{held_sheet}
use Rattle.pattern.specs.Entries.Sketches.{held-accepted}
use Rattle.pattern.specs.Refusals.{Checking}
use Rattle.pattern.specs.Refusals.Proof.{refusals}
use Rattle.pattern.specs.Rule14.{Rule14}

-- of the facts of a sheet that is held
of-facts : (bytes : List ℕ) (f : Facts) (rest : List ℕ) → Bytes bytes → held_sheet bytes ≡ value f rest
    → Never14 (graph_of f).clusters
of-facts bytes f rest all e =
    let (a, o) = held-accepted bytes f rest all e in (own-lists f a).rule_14
    (fine-not-over (graph_of f) (fault-none (graph_of f) o))

same-field : {A : Type 0} (bytes plan : List ℕ) (what : Facts → A) → Bytes bytes
    → next (held_sheet bytes) (λ f rest. by_rule (plan_fault14 (graph_of f).clusters plan) (value (what f) []))
    ≡ next (held_sheet bytes) (λ f rest. by_rule (plan_fault (graph_of f).clusters plan) (value (what f) []))
same-field bytes plan what all = by (held_sheet bytes) refl
  where
    by : (x : Field Facts) → held_sheet bytes ≡ x
        → next x (λ f rest. by_rule (plan_fault14 (graph_of f).clusters plan) (value (what f) []))
        ≡ next x (λ f rest. by_rule (plan_fault (graph_of f).clusters plan) (value (what f) []))
    by (refused k) e = refl
    by (value f rest) e = ap (λ (k : ℕ). by_rule k (value (what f) [])) ((of-facts bytes f rest all e).same plan)

not-14 : Checking 14 → ⊥
not-14 (inl h) = h.1 refl
not-14 (inr h) = omega (arith, h.from)

pub rule_14 : Rule14
rule_14 = record {
  living = λ bytes rest f all e. (of-facts bytes f rest all e).living;
  check = λ bytes plan all. same-field bytes plan _ all;
  saved_steps = λ bytes plan all. same-field bytes plan _ all;
  never = λ bytes plan e. not-14 (which (subst (By Checking) e (refusals.check bytes plan)));
  never_steps = λ bytes plan e. not-14 (which (subst (By Checking) e (refusals.saved_steps bytes plan)));
}
