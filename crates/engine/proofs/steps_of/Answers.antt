-- `engine::steps_of` meets its contract: the steps passed stand, and the rest is blank. Assumes nothing.
use Rattle.std.specs.Prelude.{◌≡◌, ◌+◌, ◌<◌}
use Rattle.theory.specs.Prelude.{sym, subst, ap, ◌∙◌, List, ℕ, arith, ℕ_discrete, ℤ, length, get_or, set}
use Rattle.theory.specs.Prelude.{replicate, length-set, get_or-set_same, get_or-set_other}
use Rattle.theory.specs.Block.Laws.{get_or-blank}
use Rattle.theory.specs.declared.Step.{Step}
use Rattle.engine.specs.Steps.{step_at, blank_step, Stepped}
use Rattle.engine.proofs.steps_of.Goals as goal

-- none stands
none : (lines e : ℕ) (sizes : List ℤ) (cs parts joints : List ℕ) (steps : List Step) → steps ≡ replicate 62 blank_step
    → Stepped lines e sizes cs parts joints 0 steps
none lines e sizes cs parts joints steps same = record {
  long = ap length same;
  each = λ k h. absurd (omega arith);
  blank = λ k h. ap (λ (l : List Step). get_or l k blank_step) same ∙ get_or-blank k blank_step 62 k;
}

-- one more stands
one_more : {lines e : ℕ} {sizes : List ℤ} {cs parts joints : List ℕ} {t : ℕ} {steps : List Step} → Stepped lines e sizes cs parts joints t steps
    → t < 62 → (v : Step) → v ≡ step_at lines e sizes cs parts joints t → Stepped lines e sizes cs parts joints (t + 1) (set steps t v)
one_more {lines} {e} {sizes} {cs} {parts} {joints} {t} {steps} w l v is = record {
  long = length-set steps t v ∙ w.long;
  each = λ k h. at_each k h (ℕ_discrete k t);
  blank = λ k h. get_or-set_other steps t k v blank_step (λ z. omega arith) ∙ w.blank k (omega arith);
}
  where
    at_each : (k : ℕ) → k < t + 1 → Dec (k ≡ t) → get_or (set steps t v) k blank_step ≡ step_at lines e sizes cs parts joints k
    at_each k h (yes z) =
        ap (λ (n : ℕ). get_or (set steps t v) n blank_step) z ∙ get_or-set_same steps t v blank_step (omega (arith, w.long)) ∙ is
        ∙ ap (step_at lines e sizes cs parts joints) (sym z)
    at_each k h (no n) = get_or-set_other steps t k v blank_step n ∙ w.each k (omega arith)

pub loop-t-init : goal.loop-t-init
loop-t-init c = none _ _ _ _ _ _ _ c.no_steps-steps.ensures

pub loop-t-preserved : goal.loop-t-preserved
loop-t-preserved c = one_more c.loop-t.invariant (omega arith) _ c.step_at.ensures

pub returns : goal.returns
returns c = let a = c.args in
    subst (λ (t : ℕ). Stepped a.lines a.e a.sizes.now a.start.now a.parts.now a.joints.now t c.loop-t.steps) (omega arith) c.loop-t.invariant
