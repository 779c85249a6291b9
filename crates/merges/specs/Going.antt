-- Merges one after another in arrays that a caller lends. Assumes nothing.
use Rattle.std.specs.Prelude.{◌≡◌, ◌+◌, ◌*◌, ◌≤◌}
use Rattle.theory.specs.Prelude.{List, map, ℕ, length, set}
use Rattle.theory.specs.Block.{block}
use Rattle.theory.specs.Constraints.{Pairs}
use Rattle.theory.specs.Merge.{Merge, three, union, joint, cleared, Valid, final, joints as jointsOf}
use Rattle.theory.specs.Plan.{ascending}
use Rattle.merges.specs.Run.{most_constraints, places, flat}
pub mod Laws

-- slots hold the clusters that the merges p of the constraints cs leave; `used` numbers are in use
pub record Slots (cs : List ℕ) (p : List Merge) (slots : List ℕ) (used : ℕ) : Type 0 where
  pub few : length cs ≤ most_constraints
  pub pairs : Pairs cs
  pub valid : Valid cs p
  pub count : used ≡ length cs + length p
  pub are : slots ≡ block places 0 (final cs p)

-- the arrays hold the merges p of the e constraints cs: the clusters they leave, their parts, each ascending, and their joints
pub record Going (cs : List ℕ) (e : ℕ) (p : List Merge) (slots parts joints : List ℕ) (steps : ℕ) : Type 0 where
  pub size : length cs ≡ e
  pub clusters : Slots cs p slots (e + steps)
  pub parts_are : parts ≡ block places 0 (flat (map ascending p))
  pub joints_are : joints ≡ block 64 0 (jointsOf cs p)

-- the merge r noted as step n and made: its three clusters die, and their union u is cluster `used`
pub record Made (slots parts joints : List ℕ) (used n : ℕ) (r : Merge) (u : ℕ) (slots' parts' joints' : List ℕ) : Type 0 where
  pub union_is : u ≡ union (three slots r)
  pub slots_are : slots' ≡ set (cleared slots r) used u
  pub parts_are : parts' ≡ set (set (set parts (3 * n) r.i) (3 * n + 1) r.j) (3 * n + 2) r.k
  pub joints_are : joints' ≡ set joints n (joint (three slots r))
