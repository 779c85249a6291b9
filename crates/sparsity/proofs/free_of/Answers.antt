-- `free_of` meets its contract. Assumes nothing.
use Rattle.theory.specs.Prelude.{arith}
use Rattle.std.proofs.lemmas.Bool.Decides.{nat_tests}
use Rattle.sparsity.specs.Freedoms.{same}
use Rattle.sparsity.proofs.free_of.Goals as goal

pub returns : goal.returns
unfolding same
returns c = grind (arith, nat_tests)
