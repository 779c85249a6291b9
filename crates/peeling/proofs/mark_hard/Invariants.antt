-- `mark_hard` meets its contract. The loop's invariant: left is the core of the first c constraints, and those from c on are noted. Assumes nothing.
use Rattle.theory.specs.Prelude.{List, ℕ, take}
use Rattle.peeling.specs.Hard.{Left, Marks}
use Rattle.peeling.proofs.mark_hard.Given as goal

pub record Kept (cs : List ℕ) (c : ℕ) (rest : List ℕ) (left : ℕ) (old needs : List ℕ) : Type 0 where
  pub core : Left cs c rest left
  pub marks : Marks cs c old needs

abbrev pub invariant-loop-c : goal.invariant-loop-c
invariant-loop-c l = Kept (take l.e l.start) l.c l.rest l.left l.initial.needs l.needs
