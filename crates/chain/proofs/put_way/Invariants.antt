-- `chain::put_way` meets its contract: what is left of the way makes the rest of the space. Assumes nothing.
use Rattle.std.specs.Prelude.{◌≡◌, ◌-◌, ◌^◌}
use Rattle.theory.specs.Prelude.{List, ℕ}
use Rattle.theory.specs.Prelude.{length, sets}
use Rattle.chain.specs.Layers.{way}
use Rattle.chain.specs.Kept.{Far}
use Rattle.chain.proofs.put_way.Given as goal

pub record Going (s : List ℕ) (u v t : ℕ) (out₀ out : List ℕ) (a i : ℕ) : Type 0 where
  pub long : length out ≡ length out₀
  pub far : Far s v (t - i) a
  pub on : sets out i (way s v (t - i) a) ≡ sets out₀ 0 (way s v t (2 ^ u))

abbrev pub invariant-loop-i : goal.invariant-loop-i
invariant-loop-i l = Going l.s l.from l.to l.t l.initial.out l.out l.a l.i
