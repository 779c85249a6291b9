-- `single` meets its contract. Assumes nothing.
use Rattle.std.specs.Prelude.{◌^◌}
use Rattle.theory.specs.Prelude.{◌∙◌, one-mul, lt-suc_self, arith, shl_exact}
use Rattle.sets.proofs.single.Goals as goal

pub returns : goal.returns
returns c = shl_exact 1 c.args.x 64 (lt-suc_self 1) (omega arith) ∙ one-mul (2 ^ c.args.x)
