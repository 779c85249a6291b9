-- What clusters rest on. Document 02, 2026-04: every cluster carries the set of constraint numbers it came from. A set of constraint numbers is a
-- bit mask, as a set of elements is. Assumes nothing.
use Rattle.std.specs.Prelude.{◌≡◌, ◌≢◌, ◌↔◌, List, [], ◌∷◌, ℕ, zero, suc, ◌+◌, ◌*◌, ◌^◌, ◌<◌, length}
use Rattle.std.specs.Int.Count.{ones}
use Rattle.theory.specs.Set.{◌∈◌, ◌⊑◌}
use Rattle.theory.specs.Merge.{Merge, slot, final}
pub mod Laws

-- k initial clusters, from number i on: each came from the constraint of its own number
unfoldable pub alone_from : ℕ → ℕ → List ℕ
alone_from i zero = []
alone_from i (suc k) = 2 ^ i ∷ alone_from (suc i) k

-- what the clusters of e constraints rest on after the merges p: a merged one on the union of what its three rest on, and a dead one on nothing
unfoldable pub rests_on : ℕ → List Merge → List ℕ
rests_on e p = final (alone_from 0 e) p

-- what is promised of it, for the constraints cs
pub record Rests (cs : List ℕ) (p : List Merge) : Type 0 where
  -- no constraint is in two living clusters, and every constraint is in one
  pub once : (i m n : ℕ) → i ∈ slot (rests_on (length cs) p) m → i ∈ slot (rests_on (length cs) p) n → m ≡ n
  pub every : (i : ℕ) → i < length cs → (n : ℕ) × (slot (final cs p) n ≢ 0) × (i ∈ slot (rests_on (length cs) p) n)
  -- a cluster of m elements has 2m-3 of them
  pub count : (n : ℕ) → slot (final cs p) n ≢ 0 → ones (slot (rests_on (length cs) p) n) + 3 ≡ 2 * ones (slot (final cs p) n)
  -- they are exactly the constraints whose two ends lie in it
  pub exactly : (n : ℕ) → slot (final cs p) n ≢ 0
      → (i : ℕ) → (i ∈ slot (rests_on (length cs) p) n) ↔ ((i < length cs) × (slot cs i ⊑ slot (final cs p) n))
