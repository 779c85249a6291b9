-- `plans::check_step` meets its contract: the rules are tried in the paper's order. Assumes nothing.
use Rattle.std.specs.Prelude.{◌≡◌}
use Rattle.theory.specs.Prelude.{refl, List, ℕ, sym, ◌∙◌, arith, Bool, true, false}
use Rattle.theory.specs.Merge.{Merge, slot}
use Rattle.theory.specs.Plan.{open_test}
use Rattle.plans.specs.Check.{as_merge, misnamed, fault_of, step_fault}
use Rattle.plans.specs.Check.Laws.{Named, named-well, well-named}
use Rattle.plans.proofs.check_step.Goals as goal
use Rattle.plans.proofs.check_step.Goals.{Else-i-k}

module _ (s : List ℕ) (m : Merge) where
  abbrev named : Bool
  named = misnamed (slot s m.i) (slot s m.j) (slot s m.k) m

  abbrev opens : Bool
  opens = open_test (slot s m.i) (slot s m.j) (slot s m.k)

  wrong : (Named s m → ⊥) → 13 ≡ step_fault s m
  unfolding fault_of step_fault
  wrong n = by named refl
    where
      by : (b : Bool) → named ≡ b → ◌≡◌ {A = ℕ} 13 (elim b [ true ↦ 13 | false ↦ elim opens [ true ↦ 0 | false ↦ 15 ] ])
      by true h = refl
      by false h = absurd (n (named-well s m h))

  right : Named s m → {b : Bool} → b ≡ opens → ◌≡◌ {A = ℕ} (elim b [ true ↦ 0 | false ↦ 15 ]) (step_fault s m)
  unfolding fault_of step_fault
  right w h = sym (λ t. elim (well-named s m w t) [ true ↦ 13 | false ↦ elim (sym h t) [ true ↦ 0 | false ↦ 15 ] ])

pub returns-then-a-eq0 : goal.returns-then-a-eq0
returns-then-a-eq0 c =
    wrong c.args.slots.now (as_merge c.args.step)
    (λ w. omega (
      arith,
      c.then-a-eq0.either,
      w.i≢j,
      w.j≢k,
      w.i≢k,
      w.livei,
      w.livej,
      w.livek,
      c.cluster_at-a.ensures,
      c.cluster_at-b.ensures,
      c.cluster_at-c.ensures,
    ))

-- the step that is not refused by 13
module _ (c : Else-i-k) where
  abbrev s : List ℕ
  s = c.args.slots.now

  its : Named s (as_merge c.args.step)
  its = record {
    i≢j = c.if-i-j.false;
    j≢k = c.if-j-k.false;
    i≢k = c.if-i-k.false;
    livei = λ e. c.if-a-eq0.false (c.cluster_at-a.ensures ∙ e);
    livej = λ e. c.if-b-eq0.false (c.cluster_at-b.ensures ∙ e);
    livek = λ e. c.if-c-eq0.false (c.cluster_at-c.ensures ∙ e);
  }

  same : open_test c.cluster_at-a.result c.cluster_at-b.result c.cluster_at-c.result
      ≡ open_test (slot s c.args.step.i) (slot s c.args.step.j) (slot s c.args.step.k)
  same t = open_test (c.cluster_at-a.ensures t) (c.cluster_at-b.ensures t) (c.cluster_at-c.ensures t)

pub returns-then-not-open3 : goal.returns-then-not-open3
returns-then-not-open3 c =
    let k = (goal.at.returns-then-not-open3 c).Else-i-k in
    right c.args.slots.now (as_merge c.args.step) (its k) {b = false} (sym c.if-not-open3.true ∙ c.open3.ensures ∙ same k)

pub returns : goal.returns
returns c =
    let k = (goal.at.returns c).Else-i-k in
    right c.args.slots.now (as_merge c.args.step) (its k) {b = true} (sym c.if-not-open3.false ∙ c.open3.ensures ∙ same k)
