-- Sets of cluster numbers below 192 in three words, and what the functions say. Assumes nothing.
use Rattle.std.specs.Prelude.{Option, Some, None, ◌≡◌, ◌≢◌, ◌+◌, ◌*◌, ◌/◌, ◌%◌, ◌^◌, ◌<◌}
use Rattle.theory.specs.Prelude.{List, ℕ, bit_or, length, get_or}
use Rattle.theory.specs.Set.{◌∈◌, at}
use Rattle.search.specs.State.{linked, waits, beyond, Linking}
use Rattle.search.specs.declared.Reaching.{Reaching}

-- the cluster found, or 192
abbrev pub cluster_of : Option Reaching → ℕ
cluster_of (Some r) = r.cluster
cluster_of None = 192

-- n is one of the numbers
abbrev pub Listed : List ℕ → ℕ → Type 0
Listed numbers n = (k : ℕ) × (k < length numbers) × (get_or numbers k 0 ≡ n)

-- the words are the set of the numbers below 192 that have the property
pub record SetOf (words : List ℕ) (P : ℕ → Type 0) : Type 0 where
  pub only : (n : ℕ) → n < 192 → waits words n ≡ 1 → P n
  pub every : (n : ℕ) → n < 192 → P n → waits words n ≡ 1

-- what stands at base + z for the elements z of o is a part of r
pub record Gathered (hold : List ℕ) (base o r : ℕ) : Type 0 where
  pub every : (z x : ℕ) → z ∈ o → x ∈ get_or hold (base + z) 0 → x ∈ r

-- the elements of r lie in edge and are linked within u alone
pub record Inner (links : List ℕ) (edge u r : ℕ) : Type 0 where
  pub inside : (p : ℕ) → p ∈ r → p ∈ edge
  pub alone : (p q : ℕ) → p ∈ r → q ∈ linked links p → q ∈ u

-- a word without those of dead and with those of made
abbrev pub replaced : ℕ → ℕ → ℕ → ℕ
replaced dead made x = bit_or (beyond x dead) made

-- the same for word w
abbrev pub replaced_at : List ℕ → List ℕ → ℕ → ℕ → ℕ
replaced_at dead made w = replaced (get_or dead w 0) (get_or made w 0)

-- the waiting clusters with those of dead out, those of made in, and each holder of an element of o
pub record Calls (hold todo dead made : List ℕ) (o : ℕ) (todo' : List ℕ) : Type 0 where
  pub long : length todo' ≡ 3
  pub kept : (w x : ℕ) → w < 3 → x ∈ replaced_at dead made w (get_or todo w 0) → x ∈ get_or todo' w 0
  pub called : (w : ℕ) → w < 3 → Gathered hold (64 * w) o (get_or todo' w 0)

-- what stands at base + p becomes its f for the elements p of edge, and stays for every other p below 64
pub record Stored (f : ℕ → ℕ) (base edge : ℕ) (list list' : List ℕ) : Type 0 where
  pub inside : (p : ℕ) → p ∈ edge → get_or list' (base + p) 0 ≡ f (get_or list (base + p) 0)
  pub outside : (p : ℕ) → p < 64 → at p edge ≡ 0 → get_or list' (base + p) 0 ≡ get_or list (base + p) 0

-- the elements of edge are linked to all of u, and held by the clusters of made in the place of those of dead
pub record Rejoined (links hold : List ℕ) (edge u : ℕ) (dead made links' hold' : List ℕ) : Type 0 where
  pub fits : edge < 2 ^ 64
  pub links_long : length links' ≡ 64
  pub hold_long : length hold' ≡ 192
  pub linking : Linking links edge u links'
  pub words : (w : ℕ) → w < 3 → Stored (replaced_at dead made w) (64 * w) edge hold hold'

-- the elements of x are linked with one another and held by cluster c too; what else is held stays
pub record Entered (links hold : List ℕ) (x c : ℕ) (links' hold' : List ℕ) : Type 0 where
  pub links_long : length links' ≡ 64
  pub hold_long : length hold' ≡ 192
  pub linking : Linking links x x links'
  pub noted : Stored (λ y. bit_or y (2 ^ (c % 64))) (64 * (c / 64)) x hold hold'
  pub others : (i : ℕ) → ((p : ℕ) → p < 64 → 64 * (c / 64) + p ≢ i) → get_or hold' i 0 ≡ get_or hold i 0
