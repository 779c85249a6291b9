-- `chain::spread` meets its contract: the layers passed stand in the array, and the distance is that from here on.
-- Assumes nothing.
use Rattle.std.specs.Prelude.{◌≡◌, ◌-◌, ◌<◌}
use Rattle.theory.specs.Prelude.{List, ℕ}
use Rattle.theory.specs.Prelude.{get_or}
use Rattle.chain.specs.Layers.{reached, distance_from, distance}
use Rattle.chain.proofs.spread.Given as goal

pub record Spreading (s : List ℕ) (u v : ℕ) (layers : List ℕ) (d t : ℕ) : Type 0 where
  pub is : d ≡ reached s v t
  pub held : (m : ℕ) → m < t → get_or layers m 0 ≡ reached s v m
  pub on : distance_from s u v (64 - t) t ≡ distance s u v

abbrev pub invariant-loop-t : goal.invariant-loop-t
invariant-loop-t l = Spreading l.s l.from l.to l.layers l.d l.t
