-- `longest::strip` meets its contract. The loop's invariant: the front of the block is the strip for as many k as have been passed. Assumes nothing.
use Rattle.std.specs.Prelude.{◌≡◌, ◌+◌, ◌*◌}
use Rattle.theory.specs.Prelude.{length, take}
use Rattle.longest.specs.Longest.{strip}
use Rattle.longest.proofs.strip.Given as goal

abbrev pub invariant-loop-j : goal.invariant-loop-j
invariant-loop-j l = (length l.cs ≡ 200) × (take (2 * l.j + 1) l.cs ≡ strip l.j)
