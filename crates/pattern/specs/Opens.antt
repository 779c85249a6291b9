-- What is promised of the merges that are open, over the bytes of a sheet that may be held. Document 02, 2026-07. `opens` Shown says what is listed.
use Rattle.std.specs.Prelude.{◌≡◌}
use Rattle.theory.specs.Prelude.{ℕ, List, []}
use Rattle.sheet.specs.Facts.{Facts}
use Rattle.sheet.specs.Field.{value, Bytes}
use Rattle.sheet.specs.Graph.{graph_of}
use Rattle.merges.specs.Run.{flat}
use Rattle.opens.specs.Opens.{open_after}
use Rattle.opens.specs.Shown.{Shown}
use Rattle.pattern.specs.Entries.{held_sheet, open_merges_field}
pub mod Proof

pub record Opens : Type 0 where
  -- any number of steps gets an answer
  pub taken : (bytes rest : List ℕ) (f : Facts) (steps : ℕ) → held_sheet bytes ≡ value f rest
      → open_merges_field bytes steps ≡ value (flat (open_after (graph_of f) steps)) []
  pub shown : (bytes rest : List ℕ) (f : Facts) (steps : ℕ) → Bytes bytes → held_sheet bytes ≡ value f rest → Shown (graph_of f) steps
