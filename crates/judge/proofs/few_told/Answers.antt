-- `judge::few_told` meets its contract: what peels off to the last element is well, what is found over is over, and else no angle makes it under.
-- Assumes nothing.
use Rattle.theory.specs.Prelude.{arith, sym, ap, ◌∙◌}
use Rattle.theory.specs.Finding.{found}
use Rattle.graph.specs.Lent.Sheets.{counted}
use Rattle.judge.specs.Judged.Short.{fine-tells, fewer-is, few-peeled}
use Rattle.judge.proofs.few_told.Goals as goal

pub returns-then-h : goal.returns-then-h
returns-then-h c = let (d, few) = c.requires in
    let k = (c.core_of.ensures.1 _ d.sound.simple d.near_is).0 in
    few-peeled _ d.sound (omega (arith, c.if-h.true, counted d)) k (omega arith) few

pub returns-in-Some : goal.returns-in-Some
returns-in-Some c = (_, sym c.over_of.ensures ∙ ap found c.in-Some.is)

pub returns-in-None : goal.returns-in-None
returns-in-None c = let (d, few) = c.requires in
    let q = sym c.over_of.ensures ∙ ap found c.in-None.is in
    fine-tells _ d.sound q (sym (fewer-is _ d.sound few q (λ e. c.if-h.false (omega (arith, e, counted d)))))
