-- `judge::verdict_of` meets its contract: more than 2n-3 constraints are over, and else it is the verdict told. Assumes nothing.
use Rattle.theory.specs.Prelude.{arith, sym, ◌∙◌, ltb-true}
use Rattle.graph.specs.Lent.Sheets.{counted}
use Rattle.judge.specs.Judged.Short.{more-is, told-verdict}
use Rattle.judge.proofs.verdict_of.Goals as goal

pub returns-then-crowded : goal.returns-then-crowded
returns-then-crowded c =
    let d = c.requires in
    sym (more-is _ d.sound (omega (arith, ltb-true _ _ (sym c.crowded.ensures ∙ c.if-crowded.true), counted d)))

pub returns : goal.returns
returns c = c.unwrap_or.ensures ∙ told-verdict _ c.requires.sound c.tell.result c.tell.ensures
