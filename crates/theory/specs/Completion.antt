-- The cheapest missing dimensions (document 02, 2026-02): a price for each pair, the pairs that may be measured, the
-- lists of them that bring the sheet to 2n-3 constraints without making it over, and the cheapest, first among equals.
-- Assumes nothing.
use Rattle.std.specs.Prelude.{◌≡◌, ◌≢◌, ◌⊎◌, List, [], ◌∷◌, ◌++◌, map, ℕ, zero, suc, ◌+◌, ◌*◌, ◌≤◌, ◌<◌, length, drop}
use Rattle.theory.specs.Set.{◌⊑◌}
use Rattle.theory.specs.Constraints.{pair, Among, NotOver}
use Rattle.theory.specs.Graph.{Graph}
pub mod Rank
pub mod Laws

-- a pair and its price
pub record Offer : Type 0 where
  pub price : ℕ
  pub u : ℕ
  pub v : ℕ

infix 4 ◌∈◌
abbrev pub ◌∈◌ : Offer → List Offer → Type 0
o ∈ [] = ⊥
o ∈ (p ∷ l) = (o ≡ p) ⊎ (o ∈ l)

abbrev pub cluster : Offer → ℕ
cluster o = pair o.u o.v

abbrev pub clusters : List Offer → List ℕ
clusters l = map cluster l

-- ---- "a 16-bit price for each pair, pairs in dictionary order"

-- (u, v), (u, v + 1) .., k of them, each with the next price
unfoldable pub row : ℕ → ℕ → ℕ → List ℕ → List Offer
row u v zero ps = []
row u v (suc k) [] = []
row u v (suc k) (p ∷ ps) = record { price = p; u = u; v = v } ∷ row u (suc v) k ps

-- the pairs of k elements, of which u is the first
unfoldable pub rows : ℕ → ℕ → List ℕ → List Offer
rows u zero ps = []
rows u (suc k) ps = row u (suc u) k ps ++ rows (suc u) k (drop k ps)

-- all pairs of n elements with their prices
unfoldable pub priced : ℕ → List ℕ → List Offer
priced n ps = rows 0 n ps

-- "65,535 for a pair that can't be measured. Pairs of two lines and pairs already constrained are passed over."
pub record Permitted (g : Graph) (prices : List ℕ) (o : Offer) : Type 0 where
  pub listed : o ∈ priced g.n prices
  pub not_lines : cluster o ⊑ g.lines → ⊥
  pub not_constrained : Among (cluster o) g.clusters → ⊥
  pub measurable : o.price ≢ 65535

-- ---- "sorted by price then pair"

-- pairs in dictionary order
abbrev pub PairBefore : Offer → Offer → Type 0
PairBefore a b = (a.u < b.u) ⊎ ((a.u ≡ b.u) × (a.v < b.v))

abbrev pub Before : Offer → Offer → Type 0
Before a b = (a.price < b.price) ⊎ ((a.price ≡ b.price) × PairBefore a b)

-- each comes before all that follow it; so none stands twice, and a sorted list is a set
abbrev pub Sorted : List Offer → Type 0
Sorted [] = Unit {0}
Sorted (a ∷ l) = ((b : Offer) → b ∈ l → Before a b) × Sorted l

-- ---- "the pairs that bring the sheet to 2n-3 constraints without making it over"

pub record Completion (g : Graph) (prices : List ℕ) (l : List Offer) : Type 0 where
  pub sorted : Sorted l
  pub permitted : (o : Offer) → o ∈ l → Permitted g prices o
  pub not_over : NotOver (g.clusters ++ clusters l)
  pub full : length g.clusters + length l + 3 ≡ 2 * g.n

-- ---- "at the least total price. Among equals it gives the list, sorted by price then pair, that comes first place by place."

abbrev pub total : List Offer → ℕ
total [] = 0
total (a ∷ l) = a.price + total l

abbrev pub prices_of : List Offer → List ℕ
prices_of [] = []
prices_of (a ∷ l) = a.price ∷ prices_of l

-- the first list is the same, or comes first when their pairs are compared place by place
pub data First : List Offer → List Offer → Type 0 where
  same : First [] []
  here : {a b : Offer} {l k : List Offer} → PairBefore a b → First (a ∷ l) (b ∷ k)
  next : (a : Offer) {l k : List Offer} → First l k → First (a ∷ l) (a ∷ k)

pub record Cheapest (g : Graph) (prices : List ℕ) (l : List Offer) : Type 0 where
  pub completion : Completion g prices l
  pub least : (k : List Offer) → Completion g prices k → total l ≤ total k
  pub first : (k : List Offer) → Completion g prices k → total l ≡ total k → First l k
  -- equals have the same prices place by place: compared by price and pair the same list comes first
  pub same_prices : (k : List Offer) → Completion g prices k → total l ≡ total k → prices_of l ≡ prices_of k
