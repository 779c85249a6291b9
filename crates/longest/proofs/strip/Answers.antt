-- `longest::strip` meets its contract. The loop's invariant: the front of the block is the strip for as many k as have been passed. Assumes nothing.
use Rattle.std.specs.Prelude.{◌∷◌}
use Rattle.theory.specs.Prelude.{refl, ap, [], arith, length-set}
use Rattle.sheet.specs.declared.Constraint.{Constraint}
use Rattle.longest.specs.Longest.{strip}
use Rattle.longest.specs.Longest.Block.{strip-next}
use Rattle.longest.proofs.strip.Goals as goal

pub loop-j-init : goal.loop-j-init
unfolding strip
loop-j-init c = (refl, ap (λ (x : Constraint). x ∷ []) c.distance-cs.ensures)

pub loop-j-preserved : goal.loop-j-preserved
loop-j-preserved c = (
  rw (length-set, length-set) c.loop-j.invariant.0,
  rw (c.distance.ensures, c.distance-in-loop-j.ensures)
      (strip-next c.loop-j.cs c.loop-j.j (omega arith) c.loop-j.invariant.1),
)
