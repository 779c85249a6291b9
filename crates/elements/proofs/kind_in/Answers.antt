-- `elements::kind_in` meets its contract: a shift and a remainder are two bits. Assumes nothing.
use Rattle.std.specs.Prelude.{◌%◌}
use Rattle.theory.specs.Prelude.{arith}
use Rattle.elements.specs.Round.Laws.{two-bits}
use Rattle.elements.proofs.kind_in.Goals as goal

pub returns : goal.returns
returns c = two-bits (c.args.i % 4) c.args.b (omega arith)
