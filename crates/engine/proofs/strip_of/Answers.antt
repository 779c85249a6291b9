-- `engine::strip_of` meets its contract: which constraint is of the two points decides. Assumes nothing.
use mir.Facts.{to_z-of_z}
use Rattle.theory.specs.Prelude.{eq-eqb, ne_eqb}
use Rattle.theory.specs.Set.{◌∩◌}
use Rattle.theory.specs.Placement.{strip, strip_of}
use Rattle.engine.proofs.strip_of.Goals as goal

pub returns-then-a-lines-eq0 : goal.returns-then-a-lines-eq0
unfolding ◌∩◌ strip_of strip
returns-then-a-lines-eq0 c = let f = c.ranges in
    simp (
      strip_of,
      strip,
      eq-eqb _ _ c.if-a-lines-eq0.true,
      c.against.ensures,
      c.apart.ensures,
      c.size_of.ensures.0,
      to_z-of_z f.x,
      to_z-of_z f.y,
      to_z-of_z f.z,
    )

pub returns-then-b-lines-eq0 : goal.returns-then-b-lines-eq0
unfolding ◌∩◌ strip_of strip
returns-then-b-lines-eq0 c = let f = c.ranges in
    simp (
      strip_of,
      strip,
      ne_eqb _ _ c.if-a-lines-eq0.false,
      eq-eqb _ _ c.if-b-lines-eq0.true,
      c.against-then-b-lines-eq0.ensures,
      c.apart-then-b-lines-eq0.ensures,
      c.size_of-then-b-lines-eq0.ensures.0,
      to_z-of_z f.x,
      to_z-of_z f.y,
      to_z-of_z f.z,
    )

pub returns-else-b-lines-eq0 : goal.returns-else-b-lines-eq0
unfolding ◌∩◌ strip_of strip
returns-else-b-lines-eq0 c = let f = c.ranges in
    simp (
      strip_of,
      strip,
      ne_eqb _ _ c.if-a-lines-eq0.false,
      ne_eqb _ _ c.if-b-lines-eq0.false,
      c.against-else-b-lines-eq0.ensures,
      c.apart-else-b-lines-eq0.ensures,
      c.size_of-else-b-lines-eq0.ensures.0,
      to_z-of_z f.x,
      to_z-of_z f.y,
      to_z-of_z f.z,
    )
