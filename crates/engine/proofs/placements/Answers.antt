-- `engine::placements` meets its contract: the kind decides. Assumes nothing.
use mir.Facts.{to_z-of_z}
use Rattle.theory.specs.Placement.{placed}
use Rattle.engine.proofs.placements.Goals as goal

pub returns-in-Ppp : goal.returns-in-Ppp
unfolding placed
returns-in-Ppp c = let f = c.ranges in
    simp (
      c.in-Ppp.is,
      c.triangle.ensures,
      c.size_of.ensures.0,
      c.size_of-in-Ppp.ensures.0,
      c.size_of-in-Ppp-2.ensures.0,
      to_z-of_z f.x,
      to_z-of_z f.y,
      to_z-of_z f.z,
    )

pub returns-in-Ppl : goal.returns-in-Ppl
unfolding placed
returns-in-Ppl c = let f = c.ranges in
    simp (c.in-Ppl.is, c.strip_of.ensures, to_z-of_z f.x, to_z-of_z f.y, to_z-of_z f.z)

pub returns-in-Pll : goal.returns-in-Pll
unfolding placed
returns-in-Pll c = simp c.in-Pll.is

pub returns-in-Lll : goal.returns-in-Lll
unfolding placed
returns-in-Lll c = simp c.in-Lll.is
