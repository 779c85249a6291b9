-- `judge::tell` meets its contract: each way is one function's. Assumes nothing.
use Rattle.theory.specs.Prelude.{arith}
use Rattle.judge.proofs.tell.Goals as goal

pub few_told-requires : goal.few_told-requires
few_told-requires c = (c.requires, omega arith)
