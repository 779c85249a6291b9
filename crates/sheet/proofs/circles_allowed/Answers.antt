-- `sheet::circles_allowed` meets its contract: PF01 allows no circle. Assumes nothing.
use Rattle.theory.specs.Prelude.{sym, ap, ◌∙◌, eqb}
use Rattle.sheet.specs.Rules.{kinds_allowed}
use Rattle.sheet.specs.Rules.Kinds.{straight-allowed, all-allowed}
use Rattle.sheet.proofs.circles_allowed.Goals as goal

pub returns-in-Pf01 : goal.returns-in-Pf01
returns-in-Pf01 c = λ es e.
    ap (λ m. eqb m 0) e ∙ straight-allowed es ∙ sym (ap (λ o. kinds_allowed o es) c.in-Pf01.is)

pub returns-in-Pf02 : goal.returns-in-Pf02
returns-in-Pf02 c = λ es e. sym (ap (λ o. kinds_allowed o es) c.in-Pf02.is ∙ all-allowed es)
