-- `engine::rings::ringed` meets its contract: a turn does not change the answer, and one that takes nothing off ends it. Assumes nothing.
use Rattle.theory.specs.Prelude.{refl, sym, ap, ◌∙◌, ℕ, arith, ones}
use Rattle.theory.specs.Ring.{ringed}
use Rattle.engine.specs.Turns.Laws.{strip-fewer, ringed-strip, ringed-same, ringed-none}
use Rattle.engine.proofs.rings.ringed.Goals as goal

pub loop-l-init : goal.loop-l-init
loop-l-init c = refl

pub returns-then-next-l : goal.returns-then-next-l
returns-then-next-l c = let l = c.loop-l in
    ringed-same l.l _ c.loop-l-test.true (sym c.strip_lines-next.ensures ∙ c.if-next-l.true) ∙ l.invariant

pub loop-l-smaller : goal.loop-l-smaller
loop-l-smaller c = let l = c.loop-l in
    let next = c.strip_lines-next in
    omega (arith, ap ones next.ensures, strip-fewer _ l.l (λ e. c.if-next-l.false (next.ensures ∙ e)))

pub loop-l-preserved : goal.loop-l-preserved
loop-l-preserved c = let l = c.loop-l in
    let s = c.args.clusters.now in
    ap (λ (k : ℕ). ringed k s) c.strip_lines-next.ensures ∙ ringed-strip l.l s ∙ l.invariant

pub returns : goal.returns
returns c = ringed-none c.loop-l.l _ c.loop-l-test.false ∙ c.loop-l.invariant
