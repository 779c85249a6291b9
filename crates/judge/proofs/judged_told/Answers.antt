-- `judge::judged_told` meets its contract: it is what is found. Assumes nothing.
use Rattle.theory.specs.Prelude.{refl}
use Rattle.judge.specs.Found.Laws.{found-tells}
use Rattle.judge.proofs.judged_told.Goals as goal

pub judge_on-requires : goal.judge_on-requires
judge_on-requires c = (c.requires, record { slots_blank = refl; parts_blank = refl; joints_blank = refl })

pub returns-in-Ok : goal.returns-in-Ok
returns-in-Ok c = found-tells _ c.requires.sound c.in-Ok.ensures

pub returns-in-Err : goal.returns-in-Err
returns-in-Err c = (_, c.in-Err.ensures)
