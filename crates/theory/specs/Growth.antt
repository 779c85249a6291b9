-- More dimensions, never a smaller part, of constraint graphs. Document 02, 2026-13: if constraints are added to a sheet and it is still not over,
-- every final cluster of the old sheet lies inside one final cluster of the new, for each order of merging on either side. Shown by `grown-whole` of
-- Growth/Proof.antt. Assumes nothing.
use Rattle.std.specs.Prelude.{◌≡◌, ◌≢◌, ◌∷◌, ◌++◌}
use Rattle.theory.specs.Prelude.{List, [], ℕ, zero, suc, length}
use Rattle.theory.specs.Set.{◌∈◌, ◌⊑◌}
use Rattle.theory.specs.Constraints.{Perm}
use Rattle.theory.specs.Merge.{Merge, slot, final}
use Rattle.theory.specs.Graph.{Graph}
use Rattle.theory.specs.Rests.{rests_on}
pub mod Laws
pub mod Proof

-- ---- "constraints are added"

-- the new list has what the old one has and more, anywhere and in any order
pub record More {A : Type 0} (old new : List A) : Type 0 where
  pub added : List A
  pub order : Perm (old ++ added) new

-- the same elements; the initial clusters of the one and more
pub record GraphGrown (g h : Graph) : Type 0 where
  pub count : h.n ≡ g.n
  pub kinds : h.lines ≡ g.lines
  pub more : More g.clusters h.clusters

-- ---- "lies inside one final cluster of the new"

-- the set x lies inside one of the living clusters s, and inside no other
pub record InsideOne (s : List ℕ) (x : ℕ) : Type 0 where
  pub number : ℕ
  pub lives : slot s number ≢ 0
  pub holds : x ⊑ slot s number
  pub only : (k : ℕ) → slot s k ≢ 0 → x ⊑ slot s k → k ≡ number

-- ---- what a cluster rests on (2026-04), by the constraints themselves: their numbers change with their places in the list

-- constraint i of the list is c
abbrev pub Numbered : {A : Type 0} → List A → ℕ → A → Type 0
Numbered [] i c = ⊥
Numbered (x ∷ l) zero c = c ≡ x
Numbered (x ∷ l) (suc i) c = Numbered l i c

-- cluster n of the sheet with these constraints, after the merges p, rests on c
pub record RestsOn {A : Type 0} (constraints : List A) (p : List Merge) (n : ℕ) (c : A) : Type 0 where
  pub number : ℕ
  pub is : Numbered constraints number c
  pub carries : number ∈ slot (rests_on (length constraints) p) n

-- ---- a part already cut stays whole: p are merges of the clusters cs of the old constraints, q of the clusters ds of the new

pub record Whole {A : Type 0} (old new : List A) (cs ds : List ℕ) (p q : List Merge) : Type 0 where
  -- every cluster of the old sheet lies inside exactly one of the new
  pub inside : (n : ℕ) → slot (final cs p) n ≢ 0 → InsideOne (final ds q) (slot (final cs p) n)
  -- and what it rests on stays in that part
  pub rests : (n k : ℕ) → slot (final cs p) n ≢ 0 → slot (final ds q) k ≢ 0 → slot (final cs p) n ⊑ slot (final ds q) k
      → (c : A) → RestsOn old p n c → RestsOn new q k c

-- of a graph, whose constraints are its initial clusters
abbrev pub GraphWhole : Graph → Graph → List Merge → List Merge → Type 0
GraphWhole g h p q = Whole g.clusters h.clusters g.clusters h.clusters p q
