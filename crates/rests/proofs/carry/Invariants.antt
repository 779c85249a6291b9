-- `rests::carry` meets its contract: after each step the words are those of the clusters that live then. Assumes nothing.
use Rattle.theory.specs.Prelude.{take}
use Rattle.rests.specs.Words.{Listed, Told}
use Rattle.rests.proofs.carry.Given as goal

abbrev pub invariant-loop-t : goal.invariant-loop-t
invariant-loop-t l = (m : Listed l.e l.parts l.steps) → Told 0 m.cs (take l.t m.p) l.low × Told 1 m.cs (take l.t m.p) l.high
