-- `plans::check_plan` meets its contract: the loop keeps `Checking`. Assumes nothing.
use Rattle.std.specs.Prelude.{◌≡◌, ◌≢◌, ◌+◌, ◌*◌, ◌/◌, ◌%◌, ◌<◌, ◌≤◌, Result, Ok, Err}
use Rattle.std.specs.Simd.{first_chunks}
use Rattle.std.specs.Result.{is_err}
use Rattle.theory.specs.Prelude.{refl, sym, ap, ◌∙◌, List, [], ℕ, zero, suc, arith}
use Rattle.theory.specs.Prelude.{true, false, length, take, subst, get_or, get_or-take, get_or-drop, drop, eqb-true, eqb-false}
use Rattle.theory.specs.Merge.{Merge, merge, OpenAt, final}
use Rattle.theory.specs.Plan.{ascending}
use Rattle.theory.specs.Rule.{refusal}
use Rattle.theory.specs.Rule.Laws.{rule-some}
use Rattle.theory.specs.declared.Rule.{Rule}
use Rattle.merges.specs.Run.{most_steps}
use Rattle.merges.specs.Going.Laws.{slots_long, used-few, steps_are, steps-few, below-i, below-j, below-k, going-fewer}
use Rattle.plans.specs.Check.{step_fault}
use Rattle.plans.proofs.Checking.{named, fault-12, Checking, checking-start, open-here, refuses, checking-next, last-fault, saved, checks}
use Rattle.plans.proofs.check_plan.Goals as goal
use Rattle.plans.proofs.check_plan.Goals.{Else-not-is_empty, After-check_step-outcome, After-loop-steps}

-- ---- three numbers a step

number : (k q r : ℕ) (l : List ℕ) → q < k → r < 3 → get_or (get_or (first_chunks 3 k l) q []) r 0 ≡ get_or l (3 * q + r) 0
number zero q r l h m = absurd (omega arith)
number (suc k) zero r l h m = get_or-take 3 l r 0 m ∙ ap (λ (i : ℕ). get_or l i 0) {x = r} {y = 3 * 0 + r} (omega arith)
number (suc k) (suc q) r l h m =
    number k q r (drop 3 l) (omega arith) m ∙ get_or-drop 3 l (3 * q + r) 0
    ∙ ap (λ (i : ℕ). get_or l i 0) {x = 3 + (3 * q + r)} {y = 3 * suc q + r} (omega arith)

-- whether a rule refuses
refused : (o : Result (Unit {0}) Rule) → is_err o ≡ true → refusal o ≢ 0
refused (Ok x) e = absurd (cc)
refused (Err r) e = rule-some r

passed : (o : Result (Unit {0}) Rule) → is_err o ≡ false → refusal o ≡ 0
passed (Ok x) e = refl
passed (Err r) e = absurd (cc)

-- the step m that is named, and whether a rule refuses it
module _ {cs : List ℕ} {e : ℕ} {l slots parts joints : List ℕ} {steps at : ℕ} (w : Checking cs e l slots parts joints steps at) {m : Merge}
    (same : m ≡ named l at) (o : Result (Unit {0}) Rule) (f : refusal o ≡ step_fault slots m) where
  fault-is : refusal o ≡ step_fault slots (named l at)
  fault-is = f ∙ ap (step_fault slots) same

  -- none does
  module _ (none : is_err o ≡ false) {r : Merge} (a : r ≡ ascending m) where
    none_here : 0 ≡ step_fault slots (named l at)
    none_here = sym (passed o none) ∙ fault-is

    opens : OpenAt (final cs w.p) (named l at)
    opens = open-here w none_here

    up : ascending (named l at) ≡ r
    up = sym (a ∙ ap ascending same)

    few : steps < most_steps
    few = going-fewer w.going opens up

-- ---- the numbers are a multiple of three

whole : (c : Else-not-is_empty) → length c.args.plan.now % 3 ≡ 0
whole c = sym c.as_chunks.ensures.back_len ∙ eqb-true _ _ (sym c.is_empty.ensures ∙ c.if-not-is_empty.false)

pub lay-requires : goal.lay-requires
lay-requires c = (c.requires.starts, c.requires.lent.slots_blank)

pub returns-then-not-is_empty : goal.returns-then-not-is_empty
returns-then-not-is_empty c =
    let some : length c.as_chunks.result.1.now ≢ 0 = eqb-false _ _ (sym c.is_empty.ensures ∙ c.if-not-is_empty.true) in
    checks (checking-start c.requires.starts c.requires.lent c.lay.ensures)
    (λ fine. fault-12 _ _ (λ e. some (c.as_chunks.ensures.back_len ∙ e))) (λ z. absurd (omega arith))

pub loop-steps-init : goal.loop-steps-init
loop-steps-init c = checking-start c.requires.starts c.requires.lent c.lay.ensures

-- ---- a step

module _ (c : After-check_step-outcome) where
  abbrev l : List ℕ
  l = c.args.plan.now

  more : 3 * c.loop-steps.steps < length l
  more = omega (arith, c.loop-steps-test.true, c.as_chunks.ensures.front_len)

  its : (r : ℕ) → r < 3 → get_or (get_or c.as_chunks.result.0.now c.loop-steps.steps []) r 0 ≡ get_or l (3 * c.loop-steps.steps + r) 0
  its r m =
      ap (λ (f : List (List ℕ)). get_or (get_or f c.loop-steps.steps []) r 0) c.as_chunks.ensures.front
      ∙ number (length l / 3) c.loop-steps.steps r l (omega (arith, c.loop-steps-test.true, c.as_chunks.ensures.front_len)) m

  named-is : merge c.from.result c.from-in-loop-steps.result c.from-in-loop-steps-2.result ≡ named l (3 * c.loop-steps.steps)
  named-is =
      let q = its 0 (omega arith) ∙ ap (λ (i : ℕ). get_or l i 0) {x = 3 * c.loop-steps.steps + 0} {y = 3 * c.loop-steps.steps} (omega arith) in
      λ t. merge ((c.from.ensures ∙ q) t) ((c.from-in-loop-steps.ensures ∙ its 1 (omega arith)) t)
      ((c.from-in-loop-steps-2.ensures ∙ its 2 (omega arith)) t)

pub check_step-outcome-requires : goal.check_step-outcome-requires
check_step-outcome-requires c = slots_long c.loop-steps.invariant.going.clusters

pub returns-then-is_err : goal.returns-then-is_err
returns-then-is_err c =
    let w = c.loop-steps.invariant in
    let k = (goal.at.returns-then-is_err c).After-check_step-outcome in
    let n = refused c.check_step-outcome.result (sym c.is_err.ensures.value ∙ c.if-is_err.true) in
    let mult = whole (goal.at.returns-then-is_err c).Else-not-is_empty in
    let fault = fault-is w (named-is k) c.check_step-outcome.result c.check_step-outcome.ensures in
    checks w (λ fine. refuses w mult (more k) fault n)
    (λ z. absurd (n z))

pub step-requires : goal.step-requires
step-requires c =
    let w = c.loop-steps.invariant in
    let same = named-is (goal.at.step-requires c).After-check_step-outcome in
    let none = sym c.is_err.ensures.value ∙ c.if-is_err.false in
    let o = opens w same c.check_step-outcome.result c.check_step-outcome.ensures none c.ascend-p.ensures in
    let u = up w same c.check_step-outcome.result c.check_step-outcome.ensures none c.ascend-p.ensures in
    let l = few w same c.check_step-outcome.result c.check_step-outcome.ensures none c.ascend-p.ensures in
    (below-i w.going o u, below-j w.going o u, below-k w.going o u, omega (arith, l, c.requires.starts.few), l)

pub loop-steps-preserved : goal.loop-steps-preserved
loop-steps-preserved c =
    let w = c.loop-steps.invariant in
    let k = (goal.at.loop-steps-preserved c).After-check_step-outcome in
    let none = sym c.is_err.ensures.value ∙ c.if-is_err.false in
    let h = none_here w (named-is k) c.check_step-outcome.result c.check_step-outcome.ensures none c.ascend-p.ensures in
    let u = up w (named-is k) c.check_step-outcome.result c.check_step-outcome.ensures none c.ascend-p.ensures in
    let next : 3 * (c.loop-steps.steps + 1) ≡ 3 * c.loop-steps.steps + 3 = omega arith in
    rw next (checking-next w (whole (goal.at.loop-steps-preserved c).Else-not-is_empty) (more k) h u c.step.ensures)

-- ---- after the last step

module _ (c : After-loop-steps) where
  abbrev steps : ℕ
  steps = length c.as_chunks.result.0.now

  all : Checking (take c.args.e c.args.start.now) c.args.e c.args.plan.now c.loop-steps.slots c.loop-steps.parts c.loop-steps.joints steps (3 * steps)
  all =
      let e : c.loop-steps.steps ≡ steps = omega (arith, c.loop-steps-test.false, c.loop-steps.auto.steps-end) in
      let a = c.args in
      let l = c.loop-steps in
      subst (λ (n : ℕ). Checking (take a.e a.start.now) a.e a.plan.now l.slots l.parts l.joints n (3 * n)) e l.invariant

pub check_end-requires : goal.check_end-requires
check_end-requires c =
    let g = (all c).going in
    (omega (arith, steps_are g, steps-few g.clusters), used-few g.clusters)

pub returns : goal.returns
returns c =
    let w = all (goal.at.returns c).After-loop-steps in
    let mult = whole (goal.at.returns c).Else-not-is_empty in
    let done : length c.args.plan.now ≤ 3 * length c.as_chunks.result.0.now = omega (arith, c.as_chunks.ensures.front_len, mult) in
    checks w (λ fine. c.check_end.ensures _ w.p fine w.going.size w.going.clusters ∙ last-fault w mult done) (λ z. saved w mult done)
