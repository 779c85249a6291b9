-- Each element brings two freedoms, and each constraint uses up one (document 01, "Clusters and merges"): the pebbles
-- of the pebble game. In the table `own` an entry of element x holds x while that freedom is free, and else the other
-- end of the constraint that uses it. Assumes nothing.
use Rattle.std.specs.Prelude.{◌≡◌, ◌+◌, ◌*◌, ◌-◌, ◌<◌}
use Rattle.theory.specs.Prelude.{List, [], ℕ, length, get_or, set}
use Rattle.theory.specs.Set.{◌∈◌, ◌⊑◌, at}
use Rattle.theory.specs.Sum.{sum}
use Rattle.theory.specs.Constraints.{carried}
pub mod Sums
pub mod Stores
pub mod Laws

-- what entry s of element x holds
abbrev pub entry : List (List ℕ) → ℕ → ℕ → ℕ
entry own x s = get_or (get_or own x []) s 0

-- the table with y in entry s of element x
abbrev pub stored : List (List ℕ) → ℕ → ℕ → ℕ → List (List ℕ)
stored own x s y = set own x (set (get_or own x []) s y)

-- 1 where y is x, else 0
unfoldable pub same : ℕ → ℕ → ℕ
same y x = 1 - ((y - x) + (x - y))

-- the free entries of element x
unfoldable pub free : List (List ℕ) → ℕ → ℕ
free own x = same (entry own x 0) x + same (entry own x 1) x

-- the sum of f over the elements of a set
unfoldable pub over : ℕ → (ℕ → ℕ) → ℕ
over a f = sum 64 (λ x. at x a * f x)

-- the free entries of a set's elements
unfoldable pub frees : List (List ℕ) → ℕ → ℕ
frees own a = over a (free own)

-- the entries of a set's elements that hold an element of the set
unfoldable pub kept : List (List ℕ) → ℕ → ℕ
kept own a = over a (λ x. at (entry own x 0) a + at (entry own x 1) a)

-- 64 rows of two elements
pub record Table (own : List (List ℕ)) : Type 0 where
  pub rows : length own ≡ 64
  pub two : (x : ℕ) → x < 64 → length (get_or own x []) ≡ 2
  pub low : (x s : ℕ) → x < 64 → s < 2 → entry own x s < 64

-- the constraints that lie in u are those that the elements of u use freedoms for: in each set there are as many as entries used within it
pub record Balanced (cs : List ℕ) (u : ℕ) (own : List (List ℕ)) : Type 0 where
  pub all : (a : ℕ) → a ⊑ u → carried cs a + frees own a ≡ kept own a

-- a set whose elements use no freedom towards another element
pub record Closed (own : List (List ℕ)) (a : ℕ) : Type 0 where
  pub stays : (x s : ℕ) → x ∈ a → s < 2 → entry own x s ∈ a

-- 64 rows of two entries, and the freedoms of the elements below n are free
pub record FreeBelow (n : ℕ) (own : List (List ℕ)) : Type 0 where
  pub rows : length own ≡ 64
  pub two : (x : ℕ) → x < 64 → length (get_or own x []) ≡ 2
  pub own_free : (x s : ℕ) → x < n → s < 2 → entry own x s ≡ x
