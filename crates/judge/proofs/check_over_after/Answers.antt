-- `judge::check_over_after` meets its contract: 11 of more than 2n-3 constraints, none where one cluster is left, else what is found decides.
-- Assumes nothing.
use Rattle.theory.specs.Prelude.{arith, sym, ap, ◌∙◌, ltb-true, ltb-false}
use Rattle.theory.specs.Finding.{found}
use Rattle.sheet.specs.Graph.Laws.{fine-fault, first-fault}
use Rattle.graph.specs.Lent.{graph_in}
use Rattle.graph.specs.Lent.Sheets.{counted}
use Rattle.merges.specs.Run.Laws.{one-left-true}
use Rattle.judge.specs.Judged.Short.{reached-few, one-fault, more-fault}
use Rattle.judge.proofs.check_over_after.Goals as goal

pub returns-then-crowded : goal.returns-then-crowded
returns-then-crowded c =
    let d = c.requires.0 in
    sym (more-fault _ d.sound (omega (arith, ltb-true _ _ (sym c.crowded.ensures ∙ c.if-crowded.true), counted d)))

pub one_left-requires : goal.one_left-requires
one_left-requires c =
    let d = c.requires.0 in
    let few = ltb-false _ _ (sym c.crowded.ensures ∙ c.if-crowded.false) in
    omega (arith, reached-few (graph_in c.args.h c.args.start.now) d.sound c.requires.1, counted d, few, d.sound.most)

pub returns-then-one_left : goal.returns-then-one_left
returns-then-one_left c =
    let d = c.requires.0 in
    sym (one-fault _ d.sound c.requires.1 (one-left-true _ _ (sym c.one_left.ensures ∙ c.if-one_left.true) ∙ sym (counted d)))

pub returns-in-Some : goal.returns-in-Some
returns-in-Some c = sym (first-fault _ (sym c.over_of.ensures ∙ ap found c.in-Some.is))

pub returns-in-None : goal.returns-in-None
returns-in-None c = sym (fine-fault _ (sym c.over_of.ensures ∙ ap found c.in-None.is))
