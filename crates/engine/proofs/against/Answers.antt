-- `engine::against` meets its contract: the order decides. Assumes nothing.
use Rattle.std.specs.Prelude.{◌≡◌, ◌<◌}
use Rattle.std.proofs.lemmas.Cmp.{ranked}
use Rattle.theory.specs.Prelude.{arith, lt-ltb, le-ltb}
use Rattle.theory.specs.Placement.{against}
use Rattle.engine.proofs.against.Goals as goal

pub returns-in-Greater : goal.returns-in-Greater
unfolding against
returns-in-Greater c = let more : c.args.y < c.args.x = ranked _ _ _ c.in-Greater.ensures in simp (lt-ltb c.args.y c.args.x more)

pub returns-in-Equal : goal.returns-in-Equal
unfolding against
returns-in-Equal c =
    let same : c.args.x ≡ c.args.y = ranked _ _ _ c.in-Equal.ensures in
    simp (le-ltb c.args.x c.args.y (omega arith), le-ltb c.args.y c.args.x (omega arith))

pub returns-in-Less : goal.returns-in-Less
unfolding against
returns-in-Less c =
    let less : c.args.x < c.args.y = ranked _ _ _ c.in-Less.ensures in
    simp (le-ltb c.args.y c.args.x (omega arith), lt-ltb c.args.x c.args.y less)
