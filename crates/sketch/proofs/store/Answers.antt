-- `sketch::store`
use Rattle.theory.specs.Prelude.{refl}
use Rattle.sketch.specs.Sketch.{stored}
use Rattle.sketch.proofs.store.Goals as goal

pub returns : goal.returns
unfolding stored
returns c = refl
