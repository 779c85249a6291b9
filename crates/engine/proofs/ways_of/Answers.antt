-- `engine::ways_of` meets its contract: known only if all three parts are initial clusters. Assumes nothing.
use Rattle.theory.specs.Prelude.{lt-ltb, le-ltb, pos, get_or, arith}
use mir.Syntax.{w32}
use mir.Val.{SFits}
use mir.Facts.{to_z-of_z}
use Rattle.engine.specs.Steps.{ways_by}
use Rattle.engine.proofs.ways_of.Goals as goal
use Rattle.engine.proofs.ways_of.Goals.{then-e-i-via-then-e-i, then-e-i-via-else-e-i+then-e-j, then-e-i-via-else-e-i+else-e-j+then-e-k}

pub returns-then-e-i : goal.returns-then-e-i
unfolding ways_by
returns-then-e-i c = elim c.then-e-i.branch [
  | then-e-i-via-then-e-i w ↦ simp (ways_by, le-ltb _ _ w.if-e-i.true)
  | then-e-i-via-else-e-i+then-e-j w ↦ simp (ways_by, lt-ltb _ _ w.if-e-i.false, le-ltb _ _ w.if-e-j.true)
  | then-e-i-via-else-e-i+else-e-j+then-e-k w ↦ simp (ways_by, lt-ltb _ _ w.if-e-i.false, lt-ltb _ _ w.if-e-j.false, le-ltb _ _ w.if-e-k.true)
]

pub returns : goal.returns
unfolding ways_by
returns c =
    let a = c.args in
    let x : SFits w32 (get_or a.sizes.now a.i (pos 0)) = record { sfits = omega arith } in
    let y : SFits w32 (get_or a.sizes.now a.j (pos 0)) = record { sfits = omega arith } in
    let z : SFits w32 (get_or a.sizes.now a.k (pos 0)) = record { sfits = omega arith } in
    simp (
      ways_by,
      c.placements.ensures,
      to_z-of_z x,
      to_z-of_z y,
      to_z-of_z z,
      lt-ltb _ _ c.if-e-i.false,
      lt-ltb _ _ c.if-e-j.false,
      lt-ltb _ _ c.if-e-k.false,
    )
