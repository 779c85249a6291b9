-- What the search keeps between two constraints, and what one more gives. Assumes nothing.
use Rattle.std.specs.Prelude.{◌≡◌, ◌≢◌, ◌+◌, ◌*◌, ◌^◌, ◌≤◌, ◌<◌, Result, MatchResult}
use Rattle.theory.specs.Prelude.{List, ℕ, ones, get_or}
use Rattle.theory.specs.Set.{◌∩◌, ◌⊑◌}
use Rattle.theory.specs.Constraints.{pair, has, carried, NotOver}
use Rattle.theory.specs.Over.{IsOver, Smallest}
use Rattle.sparsity.specs.Freedoms.{free, Table, Balanced, Closed}
pub mod Laws

-- a and b are the two elements of constraint c
pub record EndsAt (cs : List ℕ) (c a b : ℕ) : Type 0 where
  pub low : a < 64
  pub high : b < 64
  pub apart : a ≢ b
  pub is : get_or cs c 0 ≡ pair a b

-- the constraints that lie in u use the freedoms of the table, and the list is not over
pub record Using (cs : List ℕ) (u : ℕ) (own : List (List ℕ)) : Type 0 where
  pub table : Table own
  pub closed : Closed own u
  pub balanced : Balanced cs u own
  pub fine : NotOver cs

-- and a and b have as many free entries as are needed
pub record Ready (cs : List ℕ) (u need a b : ℕ) (own : List (List ℕ)) : Type 0 where
  pub uses : Using cs u own
  pub enough : need ≤ free own a + free own b

-- a list and one constraint m more, which lies in u, where the sets within u tell whether it is over and which set is tight
pub record More (old new : List ℕ) (m u : ℕ) : Type 0 where
  pub small : u < 2 ^ 64
  pub inside : m ⊑ u
  pub carries : (x : ℕ) → carried new x ≡ carried old x + has m x
  pub fine : ((x : ℕ) → x ⊑ u → 2 ≤ ones x → carried new x + 3 ≤ 2 * ones x) → NotOver new
  pub cut : (x : ℕ) → carried old x + 2 * ones (x ∩ u) ≤ carried old (x ∩ u) + 2 * ones x

-- what taking m gives: the table with m among the constraints, where no set is over; or the constraints without m, and the smallest set that m makes
-- over
abbrev pub Took : List ℕ → List ℕ → ℕ → ℕ → Result (List (List ℕ)) (List (List ℕ) × ℕ) → Type 0
Took old new m u taken = MatchResult taken (λ own. Using new u own) (λ r. Using old u r.0 × IsOver new × Smallest old m r.1)
