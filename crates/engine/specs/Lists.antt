-- The lists that an answer is written as. Document 01, "Clusters and merges" and "Every order of merging": those living at the end are final.
-- Assumes nothing.
use Rattle.std.specs.Prelude.{List, [], ◌∷◌, ℕ, zero, suc}
pub mod Laws

-- the clusters that live, by number: a dead one is the empty set, 0
unfoldable pub living_of : List ℕ → List ℕ
living_of [] = []
living_of (zero ∷ s) = living_of s
living_of (suc x ∷ s) = suc x ∷ living_of s
