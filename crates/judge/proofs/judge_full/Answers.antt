-- `judge::judge_full` meets its contract: one cluster left shows that it is not over, else what is found decides. Assumes nothing.
use Rattle.theory.specs.Prelude.{arith, sym, ap, ◌∙◌}
use Rattle.theory.specs.Finding.{found}
use Rattle.graph.specs.Lent.Sheets.{found-fine}
use Rattle.judge.specs.Judged.Laws.{starts}
use Rattle.judge.proofs.judge_full.Goals as goal

pub merged-found-requires : goal.merged-found-requires
merged-found-requires c = let d = c.requires.0 in (starts d (omega (arith, c.requires.1, d.sound.most)), d.sound, c.requires.2)

pub returns-then-found : goal.returns-then-found
returns-then-found c = let m = c.merged-found.ensures in m.judged (m.fine c.if-found.true)

pub returns-in-Some : goal.returns-in-Some
returns-in-Some c = sym c.over_of.ensures ∙ ap found c.in-Some.is

pub returns-in-None : goal.returns-in-None
returns-in-None c = c.merged-found.ensures.judged (found-fine c.requires.0.sound (sym c.over_of.ensures ∙ ap found c.in-None.is))
