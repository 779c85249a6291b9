-- The chain from one element to another. Document 02, 2026-08: "the shortest run of final clusters from one element to
-- another, each sharing an element with the next". Clusters are named by number, s lists them; a dead one is the empty
-- set, which shares no element with any. Assumes nothing.
use Rattle.std.specs.Prelude.{◌≡◌, ◌≢◌, List, [], ◌∷◌, ℕ, ◌≤◌, ◌<◌, length}
use Rattle.std.proofs.Math.Option.{Option, none, some}
use Rattle.theory.specs.Set.{◌∈◌, ◌∩◌}
use Rattle.theory.specs.Merge.{slot}
pub mod Laws

-- two sets share an element: the set of what they share (2026-09) is not empty
pub record Share (a b : ℕ) : Type 0 where
  pub some : a ∩ b ≢ 0

-- clusters that go on from the set a: it shares an element with the first, each with the next, and the last holds the
-- end
abbrev pub From : List ℕ → ℕ → ℕ → List ℕ → Type 0
From s end a [] = end ∈ a
From s end a (k ∷ r) = Share a (slot s k) × From s end (slot s k) r

-- a run: the first cluster holds the start, and the last the end; from an element to itself it has no clusters
abbrev pub Run : List ℕ → ℕ → ℕ → List ℕ → Type 0
Run s start end [] = start ≡ end
Run s start end (k ∷ r) = (start ∈ slot s k) × From s end (slot s k) r

-- compared place by place: the first comes first, or they are the same
pub data First : List ℕ → List ℕ → Type 0 where
  same : First [] []
  here : {i j : ℕ} {r q : List ℕ} → i < j → First (i ∷ r) (j ∷ q)
  next : (i : ℕ) {r q : List ℕ} → First r q → First (i ∷ r) (i ∷ q)

-- the fewest clusters and, among such runs, the one whose numbers come first place by place
pub record Shortest (s : List ℕ) (start end : ℕ) (r : List ℕ) : Type 0 where
  pub run : Run s start end r
  pub fewest : (q : List ℕ) → Run s start end q → length r ≤ length q
  pub first : (q : List ℕ) → Run s start end q → length q ≡ length r → First r q

-- the chain: that run, or none where the two are not connected
abbrev pub Chain : List ℕ → ℕ → ℕ → Option (List ℕ) → Type 0
Chain s start end (some r) = Shortest s start end r
Chain s start end none = (r : List ℕ) → Run s start end r → ⊥
