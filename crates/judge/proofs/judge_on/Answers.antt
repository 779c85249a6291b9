-- `judge::judge_on` meets its contract: what is found decides. Assumes nothing.
use Rattle.theory.specs.Prelude.{sym, ap, ◌∙◌}
use Rattle.theory.specs.Finding.{found}
use Rattle.graph.specs.Lent.Sheets.{found-fine}
use Rattle.judge.specs.Judged.Laws.{fine-starts}
use Rattle.judge.proofs.judge_on.Goals as goal

pub merged-requires : goal.merged-requires
merged-requires c =
    let (d, blank) = c.requires in
    (fine-starts d (found-fine d.sound (sym c.over_of.ensures ∙ ap found c.in-None.is)), d.sound, blank)

pub returns-in-Some : goal.returns-in-Some
returns-in-Some c = sym c.over_of.ensures ∙ ap found c.in-Some.is

pub returns-in-None : goal.returns-in-None
returns-in-None c = c.merged.ensures.judged (found-fine c.requires.0.sound (sym c.over_of.ensures ∙ ap found c.in-None.is))
