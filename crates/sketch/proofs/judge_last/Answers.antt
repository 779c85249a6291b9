-- `sketch::judge_last` meets its contract: what is told decides. Assumes nothing.
use Rattle.sketch.specs.Placing.Laws.{last-fine, first-listed, last-first}
use Rattle.sketch.proofs.judge_last.Goals as goal

pub returns-in-Ok : goal.returns-in-Ok
returns-in-Ok c = last-fine _ c.in-Ok.ensures.1 c.in-Ok.ensures.0

pub last_rule-requires : goal.last_rule-requires
last_rule-requires c = first-listed c.requires c.in-Err.ensures.1

pub returns-in-Err : goal.returns-in-Err
returns-in-Err c = last-first c.requires c.last_rule.ensures c.in-Err.ensures.1
