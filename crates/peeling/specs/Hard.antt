-- Which constraints can close an over set: those with both ends in the core of the constraints up to them. Assumes nothing.
use Rattle.std.specs.Prelude.{◌≡◌, ◌≢◌, ◌≤◌, ◌<◌}
use Rattle.theory.specs.Prelude.{List, ℕ, suc, length, take, get_or}
use Rattle.theory.specs.Set.{◌∈◌}
use Rattle.theory.specs.Constraints.{NotOver}
use Rattle.theory.specs.Near.{Near}
use Rattle.peeling.specs.Core.{Peeled}
pub mod Laws

-- constraint c closes no over set: where those before it are not over, those up to it are not
pub record Harmless (cs : List ℕ) (c : ℕ) : Type 0 where
  pub fine : NotOver (take c cs) → NotOver (take (suc c) cs)

-- what is noted of constraint c: 4 in place of what stood there, or it closes no over set
pub data Noted (cs : List ℕ) (c old : ℕ) : ℕ → Type 0 where
  hard : Noted cs c old 4
  easy : Harmless cs c → Noted cs c old old

-- within u, the second adjacency has every neighbour that the first, the real one, has
pub record Shown (real near : List ℕ) (u : ℕ) : Type 0 where
  pub shows : (x y : ℕ) → x ∈ u → y ∈ u → y ∈ get_or real x 0 → y ∈ get_or near x 0

-- the elements of a set are neighbours of each other
pub record Linked (near : List ℕ) (m : ℕ) : Type 0 where
  pub linked : (x y : ℕ) → x ∈ m → y ∈ m → x ≢ y → y ∈ get_or near x 0

-- u is what is left of the first c constraints, and the adjacency has their neighbours within it
pub record Left (cs : List ℕ) (c : ℕ) (near : List ℕ) (u : ℕ) : Type 0 where
  pub real : List ℕ
  pub is_near : Near (take c cs) real
  pub peeled : Peeled real u
  pub shown : Shown real near u
  pub places : length near ≡ 64

-- the constraints from c on are noted, and the places below c are as they were
pub record Marks (cs : List ℕ) (c : ℕ) (old new : List ℕ) : Type 0 where
  pub places : length new ≡ 200
  pub before : (k : ℕ) → k < c → get_or new k 0 ≡ get_or old k 0
  pub noted : (k : ℕ) → c ≤ k → k < length cs → Noted cs k (get_or old k 0) (get_or new k 0)
