-- Elements that no minimal over set has, and the core that is left without them, the 3-core. Assumes nothing.
use Rattle.std.specs.Prelude.{◌≡◌, ◌+◌, ◌*◌, ◌-◌, ◌^◌, ◌≤◌, ◌<◌}
use Rattle.theory.specs.Prelude.{List, ℕ, ones, take, get_or}
use Rattle.theory.specs.Set.{◌∈◌, ◌∩◌, ◌⊑◌, at, full}
use Rattle.theory.specs.Constraints.{carried, NotOver}
pub mod Neighbours
pub mod Peeling
pub mod Merging

-- within u, element x has at most k constraints
pub record Few (cs : List ℕ) (u x k : ℕ) : Type 0 where
  pub few : (a : ℕ) → a ⊑ u → x ∈ a → carried cs a ≤ carried cs (a - 2 ^ x) + k

-- every set has an element with at most two constraints in it
pub record Loose (cs : List ℕ) : Type 0 where
  pub least : (a : ℕ) → a < 2 ^ 64 → 1 ≤ ones a → (x : ℕ) × (x ∈ a) × (carried cs a ≤ carried cs (a - 2 ^ x) + 2)

-- the sets within u tell whether the first c constraints are over, and a set's part within u carries all but two for each element that it lacks;
-- where nothing is left, the constraints are loose
pub record Core (cs : List ℕ) (u : ℕ) : Type 0 where
  pub small : u < 2 ^ 64
  pub fine : (c : ℕ) → ((a : ℕ) → a ⊑ u → 2 ≤ ones a → carried (take c cs) a + 3 ≤ 2 * ones a) → NotOver (take c cs)
  pub cut : (c a : ℕ) → carried (take c cs) a + 2 * ones (a ∩ u) ≤ carried (take c cs) (a ∩ u) + 2 * ones a
  pub loose : u ≡ 0 → Loose cs

-- each element of u has three neighbours in it
pub record Dense (near : List ℕ) (u : ℕ) : Type 0 where
  pub three : (x : ℕ) → x ∈ u → 3 ≤ ones (get_or near x 0 ∩ u)

-- and u is the largest such set
pub record Largest (near : List ℕ) (u : ℕ) : Type 0 where
  pub dense : Dense near u
  pub largest : (a : ℕ) → a < 2 ^ 64 → Dense near a → a ⊑ u

-- ---- taking elements away

-- elements from n on have no neighbours
pub record Beyond (near : List ℕ) (n : ℕ) : Type 0 where
  pub none : (x : ℕ) → n ≤ x → x < 64 → get_or near x 0 ≡ 0

-- elements of u with at most two neighbours in u
pub record Light (near : List ℕ) (u todo : ℕ) : Type 0 where
  pub light : (x : ℕ) → x ∈ todo → (x ∈ u) × (ones (get_or near x 0 ∩ u) ≤ 2)

-- those of who that are not in the work list have three neighbours in u
pub record Heavy (near : List ℕ) (u who todo : ℕ) : Type 0 where
  pub heavy : (x : ℕ) → x ∈ who → at x todo ≡ 0 → 3 ≤ ones (get_or near x 0 ∩ u)

-- neighbours are so both ways, and below 64
pub record Mutual (near : List ℕ) : Type 0 where
  pub below : (x y : ℕ) → x < 64 → y ∈ get_or near x 0 → y < 64
  pub back : (x y : ℕ) → x < 64 → y < 64 → y ∈ get_or near x 0 → x ∈ get_or near y 0

-- what is left when elements with at most two neighbours among those left are taken away one by one
pub data Peeled (near : List ℕ) : ℕ → Type 0 where
  whole : Peeled near (full 64)
  less : {u : ℕ} (x : ℕ) → Peeled near u → x ∈ u → ones (get_or near x 0 ∩ u) ≤ 2 → Peeled near (u - 2 ^ x)
