-- `steps::check_room` meets its contract: each return by the tests that led there. Assumes nothing.
use Rattle.steps.specs.Records.Laws.{taken-many, taken-short, taken-all}
use Rattle.steps.proofs.check_room.Goals.{then-count-gt-STEPS-via-then-count-gt-STEPS, then-count-gt-STEPS-via-else-count-gt-STEPS+then-len-count}
use Rattle.steps.proofs.check_room.Goals as goal

pub returns-then-count-gt-STEPS : goal.returns-then-count-gt-STEPS
returns-then-count-gt-STEPS c = elim c.then-count-gt-STEPS.branch [
  | then-count-gt-STEPS-via-then-count-gt-STEPS w ↦ taken-many _ _ w.if-count-gt-STEPS.true
  | then-count-gt-STEPS-via-else-count-gt-STEPS+then-len-count w ↦ taken-short _ _ w.if-len-count.true
]

pub returns : goal.returns
returns c = taken-all _ _ c.if-count-gt-STEPS.false c.if-len-count.false
