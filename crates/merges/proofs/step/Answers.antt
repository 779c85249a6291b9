-- `merges::step` meets its contract: what it stores is what `Made` says. Assumes nothing.
use Rattle.theory.specs.Prelude.{refl, ap, set}
use Rattle.theory.specs.Set.{◌∪◌}
use Rattle.theory.specs.Merge.{union, cleared, merge, three}
use Rattle.merges.proofs.step.Goals as goal

pub returns : goal.returns
unfolding union cleared ◌∪◌
returns c = let a = c.args in
    record {
      union_is = refl;
      slots_are = refl;
      parts_are = refl;
      joints_are = ap (set a.joints.now a.steps) (c.joint3.ensures (three a.slots.now (merge a.i a.j a.k)) refl refl refl);
    }
