-- Angles that run round. Document 02, 2026-03: a ring of four or more different final clusters, each sharing a line with the next and the last with
-- the first, those lines all different. First as a relation, then by a test that computes; `Laws` shows that the two agree on the final clusters of
-- every sheet that is not over. Assumes nothing.
use Rattle.std.specs.Prelude.{◌≡◌, Bool, cond, not, List, [], ◌∷◌, ℕ, zero, suc, ◌≤◌, ◌<◌, leb, eqb}
use Rattle.std.specs.Int.Count.{ones}
use Rattle.theory.specs.Set.{◌∈◌, ◌∩◌, ◌∪◌}
use Rattle.theory.specs.Merge.{live}
pub mod Strip
pub mod Walk
pub mod Laws

-- ---- as a relation

-- `count` different living clusters, each sharing a line with the next and the last with the first, those lines all different; line i is the one
-- that cluster i shares with the next
pub record Ring (s : List ℕ) (lines count : ℕ) : Type 0 where
  pub cluster : ℕ → ℕ
  pub line : ℕ → ℕ
  pub lives : (i : ℕ) → i < count → live s (cluster i)
  pub is_a_line : (i : ℕ) → i < count → line i ∈ lines
  pub leaves : (i : ℕ) → i < count → line i ∈ cluster i
  pub enters : (i : ℕ) → i < count → line i ∈ cluster (suc i)
  pub closed : cluster count ≡ cluster 0
  pub clusters_differ : (i j : ℕ) → i < j → j < count → cluster i ≡ cluster j → ⊥
  pub lines_differ : (i j : ℕ) → i < j → j < count → line i ≡ line j → ⊥

-- a ring of four or more
abbrev pub AngleRing : List ℕ → ℕ → Type 0
AngleRing s lines = (count : ℕ) × (4 ≤ count) × Ring s lines count

-- ---- by a test: lines that lie in fewer than two of the clusters that hold two or more of them are stripped off, as often as there are lines

-- the lines of l that the cluster holds, none if there is only one
unfoldable pub linked : ℕ → ℕ → ℕ
linked l c = cond (leb 2 (ones (c ∩ l))) (c ∩ l) 0

-- those in some of the clusters, and those in two or more
unfoldable pub once : ℕ → List ℕ → ℕ
once l [] = 0
once l (c ∷ s) = linked l c ∪ once l s

unfoldable pub strip : ℕ → List ℕ → ℕ
strip l [] = 0
strip l (c ∷ s) = (linked l c ∩ once l s) ∪ strip l s

unfoldable pub stripped : ℕ → List ℕ → ℕ → ℕ
stripped zero s l = l
stripped (suc k) s l = stripped k s (strip l s)

-- something is left
unfoldable pub ringed : ℕ → List ℕ → Bool
ringed lines s = not (eqb (stripped (ones lines) s lines) 0)
