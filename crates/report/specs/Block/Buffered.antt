-- Lines put into a buffer that has room for them, then its part up to their end into lent space. Assumes nothing.
use Rattle.std.specs.Prelude.{◌≤◌, ◌≡◌}
use Rattle.theory.specs.Prelude.{ℕ, arith, List, length, take}
use Rattle.space.specs.Written.{Written}
use Rattle.space.specs.Space.{answer, after}
use Rattle.report.specs.Block.{Stands}

module _ {items buffer filled : List ℕ} {len : ℕ} (room : length items ≤ length buffer) (p : Stands buffer 0 items len filled) where
  kept : take len filled ≡ items
  kept = p.front_is (omega (arith, p.next_is))

  pub buffered : (space : List ℕ) {left : List ℕ} {r : Written}
      → (r ≡ answer (take len filled) space) × (left ≡ after (take len filled) space)
      → (r ≡ answer items space) × (left ≡ after items space)
  buffered space q = rw kept at q
