-- Clusters, merges and lists of merges. Document 01, "Clusters and merges" and "Every order of merging"; document 001
-- (Fudos and Hoffmann), Definition 3.0, whose reduction is the merge of three clusters. Assumes nothing.
--
-- The clusters are a list of sets, the slots: cluster n stands at place n, and a dead cluster is the empty set, 0. The initial slots are the
-- constraints, each the set of its two ends. A merge is the numbers of three clusters.
use Rattle.std.specs.Prelude.{◌≡◌, ◌≢◌, ◌↔◌, ◌⊎◌, Bool, true, false, ◌||◌, List, [], ◌∷◌, ◌++◌, ℕ, zero, suc, ◌+◌, ◌-◌, ◌*◌, ◌≤◌, eqb, length, get_or, set}
use Rattle.std.specs.Int.Count.{ones}
use Rattle.theory.specs.Set.{◌∩◌, ◌∪◌}
pub mod Threes
pub mod Family
pub mod Numbered
pub mod Count
pub mod Either
pub mod One

-- ---- clusters and merges

-- cluster n, the empty set if it is dead or not yet made
abbrev pub slot : List ℕ → ℕ → ℕ
slot s n = get_or s n 0

-- the numbers of three clusters
pub record Merge : Type 0 where
  pub i : ℕ
  pub j : ℕ
  pub k : ℕ

abbrev pub merge : ℕ → ℕ → ℕ → Merge
merge i j k = record { i = i; j = j; k = k }

-- three sets
pub record Three : Type 0 where
  pub a : ℕ
  pub b : ℕ
  pub c : ℕ

abbrev pub three : List ℕ → Merge → Three
three s m = record { a = slot s m.i; b = slot s m.j; c = slot s m.k }

-- each two share exactly one element, and the three shared elements are three different ones
pub record Open (a b c : ℕ) : Type 0 where
  pub ab : ones (a ∩ b) ≡ 1
  pub bc : ones (b ∩ c) ≡ 1
  pub ac : ones (a ∩ c) ≡ 1
  pub ab≢bc : a ∩ b ≢ b ∩ c
  pub bc≢ac : b ∩ c ≢ a ∩ c
  pub ab≢ac : a ∩ b ≢ a ∩ c

-- an open merge: three different living clusters that are open
pub record OpenAt (s : List ℕ) (m : Merge) : Type 0 where
  pub i≢j : m.i ≢ m.j
  pub j≢k : m.j ≢ m.k
  pub i≢k : m.i ≢ m.k
  pub livei : slot s m.i ≢ 0
  pub livej : slot s m.j ≢ 0
  pub livek : slot s m.k ≢ 0
  pub open3 : Open (slot s m.i) (slot s m.j) (slot s m.k)

unfoldable pub union : Three → ℕ
union t = t.a ∪ t.b ∪ t.c

-- the three shared elements, the geometry triple of the merge (Definition 4.1 of Fudos and Hoffmann)
unfoldable pub joint : Three → ℕ
joint t = (t.a ∩ t.b) ∪ (t.b ∩ t.c) ∪ (t.a ∩ t.c)

-- the merge removes the three and puts in their union, as the next number: step k, from 0, makes cluster e+k
unfoldable pub cleared : List ℕ → Merge → List ℕ
cleared s m = set (set (set s m.i 0) m.j 0) m.k 0

unfoldable pub put : List ℕ → Merge → List ℕ
put s m = cleared s m ++ (union (three s m) ∷ [])

-- ---- lists of merges

-- each merge is open among the clusters that the one before it left
abbrev pub Valid : List ℕ → List Merge → Type 0
Valid s [] = Unit {0}
Valid s (m ∷ p) = OpenAt s m × Valid (put s m) p

-- the clusters at the end
abbrev pub final : List ℕ → List Merge → List ℕ
final s [] = s
final s (m ∷ p) = final (put s m) p

-- two different living clusters share at most one element
pub record ShareOne (s : List ℕ) : Type 0 where
  pub share : (i j : ℕ) → i ≢ j → slot s i ≢ 0 → slot s j ≢ 0 → ones (slot s i ∩ slot s j) ≤ 1

-- none is open
unfoldable pub Ended : List ℕ → Type 0
Ended s = (m : Merge) → OpenAt s m → ⊥

-- a list of merges that ends when none is open: what it leaves is a normal form (Definition 3.2 of Fudos and Hoffmann)
pub record Maximal (s : List ℕ) (p : List Merge) : Type 0 where
  pub valid : Valid s p
  pub ended : Ended (final s p)

-- the merges' joints
unfoldable pub joints : List ℕ → List Merge → List ℕ
joints s [] = []
joints s (m ∷ p) = joint (three s m) ∷ joints (put s m) p

-- x is a living cluster
abbrev pub live : List ℕ → ℕ → Type 0
live s x = (n : ℕ) × (slot s n ≡ x) × (x ≢ 0)

-- a sum over the slots
unfoldable pub total : (ℕ → ℕ) → List ℕ → ℕ
total f [] = 0
total f (x ∷ s) = f x + total f s

-- how many clusters live
abbrev pub living : ℕ → ℕ
living zero = 0
living (suc x) = 1

unfoldable pub left : List ℕ → ℕ
left s = total living s

-- the sum of 2m-3 over living clusters, m being a cluster's elements
abbrev pub weight : ℕ → ℕ
weight x = 2 * ones x - 3

unfoldable pub weights : List ℕ → ℕ
weights s = total weight s

-- ---- either way round

-- n is one of the three
abbrev pub Part : ℕ → Merge → Type 0
Part n m = (n ≡ m.i) ⊎ (n ≡ m.j) ⊎ (n ≡ m.k)

abbrev pub is_part : ℕ → Merge → Bool
is_part n m = eqb n m.i || (eqb n m.j || eqb n m.k)

-- the number that stands for cluster n once m is made: the union's, if n is one of its three
unfoldable pub stand : List ℕ → Merge → ℕ → ℕ
stand s m n = elim (is_part n m) [ true ↦ length s | false ↦ n ]

-- the merge r once m is made, the union standing in for a cluster in common
unfoldable pub moved : List ℕ → Merge → Merge → Merge
moved s m r = merge (stand s m r.i) (stand s m r.j) (stand s m r.k)

-- different threes
abbrev pub Differ : Merge → Merge → Type 0
Differ m r = ((n : ℕ) → Part n m ↔ Part n r) → ⊥

-- once either is made, the other is still open, with the joint it had; and after both the same clusters live
pub record EitherWay (s : List ℕ) (m r : Merge) : Type 0 where
  pub still : OpenAt (put s m) (moved s m r)
  pub still' : OpenAt (put s r) (moved s r m)
  pub same_joint : joint (three (put s m) (moved s m r)) ≡ joint (three s r)
  pub same_joint' : joint (three (put s r) (moved s r m)) ≡ joint (three s m)
  pub ends : (x : ℕ) → live (put (put s m) (moved s m r)) x ↔ live (put (put s r) (moved s r m)) x
