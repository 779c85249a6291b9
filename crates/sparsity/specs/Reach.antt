-- What the search reaches from two elements a and b along the freedoms in use, and what it does with it. Assumes nothing.
use Rattle.std.specs.Prelude.{◌≡◌, ◌≢◌, ◌⊎◌, ◌+◌, ◌^◌, ◌≤◌, ◌<◌, Result, MatchResult, Ok, Err}
use Rattle.theory.specs.Prelude.{List, ℕ, zero, suc, ones, length, get_or}
use Rattle.theory.specs.Set.{◌∈◌, ◌⊑◌}
use Rattle.sparsity.specs.Freedoms.{entry, stored, free, Table, Balanced, Closed}
pub mod Visits
pub mod Laws
pub mod Back

-- what stands at place i of a list
abbrev pub item : List ℕ → ℕ → ℕ
item l i = get_or l i 0

-- the two lists that the search is lent have 64 places
pub record Lent (queue from : List ℕ) : Type 0 where
  pub places : length queue ≡ 64
  pub places' : length from ≡ 64

-- the queue has the elements reached so far, each but the first two with the place of an earlier one that uses a freedom towards it;
-- seen is their set
pub record Reached (own : List (List ℕ)) (a b : ℕ) (queue from : List ℕ) (seen count : ℕ) : Type 0 where
  pub lent : Lent queue from
  pub low : 2 ≤ count
  pub start : item queue 0 ≡ a
  pub start' : item queue 1 ≡ b
  pub inside : (i : ℕ) → i < count → item queue i < 64
  pub back : (i : ℕ) → 2 ≤ i → i < count → item from i < i
  pub link : (i : ℕ) → 2 ≤ i → i < count → (s : ℕ) × (s < 2) × (entry own (item queue (item from i)) s ≡ item queue i)
  pub apart : (i j : ℕ) → i < j → j < count → item queue i ≢ item queue j
  pub marked : (i : ℕ) → i < count → item queue i ∈ seen
  pub queued : (x : ℕ) → x ∈ seen → (i : ℕ) × (i < count) × (item queue i ≡ x)
  pub size : ones seen ≡ count
  pub small : seen < 2 ^ 64

-- the elements at the first p places use freedoms towards reached elements only
pub record Scanned (own : List (List ℕ)) (queue : List ℕ) (seen p : ℕ) : Type 0 where
  pub stays : (i s : ℕ) → i < p → s < 2 → entry own (item queue i) s ∈ seen

-- none of the reached elements but the first two has a free entry
pub record Shut (own : List (List ℕ)) (queue : List ℕ) (count : ℕ) : Type 0 where
  pub none : (i : ℕ) → 2 ≤ i → i < count → free own (item queue i) ≡ 0

-- another use of the same freedoms for the same constraints, within every closed set that holds a and b
pub record Rebalanced (own : List (List ℕ)) (a b : ℕ) (new : List (List ℕ)) : Type 0 where
  pub table : Table new
  pub balanced : (cs : List ℕ) (u : ℕ) → Balanced cs u own → Balanced cs u new
  pub closed : (u : ℕ) → a ∈ u → b ∈ u → Closed own u → Closed new u

-- the way back from place p to the first two, and a free entry at its end
pub record Way (own : List (List ℕ)) (queue from : List ℕ) (p : ℕ) : Type 0 where
  pub table : Table own
  pub far : 2 ≤ p
  pub room : p < 64
  pub inside : (i : ℕ) → i ≤ p → item queue i < 64
  pub back : (i : ℕ) → 2 ≤ i → i ≤ p → item from i < i
  pub link : (i : ℕ) → 2 ≤ i → i ≤ p → (s : ℕ) × (s < 2) × (entry own (item queue (item from i)) s ≡ item queue i)
  pub apart : (i j : ℕ) → i < j → j ≤ p → item queue i ≢ item queue j
  pub open_at : 0 < free own (item queue p)

-- the freedoms on the way from place p to place i are turned, and the element there has a free entry; the first two have one more once the way ends
pub record Walked (own : List (List ℕ)) (queue : List ℕ) (p i : ℕ) (new : List (List ℕ)) : Type 0 where
  pub inside : i ≤ p
  pub again : Rebalanced own (item queue 0) (item queue 1) new
  pub open_at : 0 < free new (item queue i)
  pub kept : (j s : ℕ) → j < i → entry new (item queue j) s ≡ entry own (item queue j) s
  pub gain : i < 2 → free new (item queue 0) + free new (item queue 1) ≡ free own (item queue 0) + free own (item queue 1) + 1

-- one free entry more on a and b
pub record Gained (own : List (List ℕ)) (a b : ℕ) (new : List (List ℕ)) : Type 0 where
  pub again : Rebalanced own a b new
  pub gain : free new a + free new b ≡ free own a + free own b + 1

-- no more can be had: the smallest closed set that holds a and b, and no free entry but theirs
pub record Stuck (own : List (List ℕ)) (a b set : ℕ) : Type 0 where
  pub first : a ∈ set
  pub second : b ∈ set
  pub closed : Closed own set
  pub none : (x : ℕ) → x ∈ set → x ≢ a → x ≢ b → free own x ≡ 0
  pub least : (w : ℕ) → a ∈ w → b ∈ w → Closed own w → set ⊑ w

-- the whole search: the place of an element with a free entry, from which there is a way back to a and b; or the set of all that is reached, where
-- no more can be had
pub record Found (own : List (List ℕ)) (a b : ℕ) (queue from : List ℕ) (found : Result ℕ ℕ) : Type 0 where
  pub start : item queue 0 ≡ a
  pub start' : item queue 1 ≡ b
  pub outcome : MatchResult found (λ place. Way own queue from place) (λ seen. Stuck own a b seen)

-- a table, and 0; or a table, and the set that is told beside it
abbrev pub told : List (List ℕ) → ℕ → Result (List (List ℕ)) (List (List ℕ) × ℕ)
told own zero = Ok own
told own (suc k) = Err (own, suc k)

-- a table with need free entries on a and b; or one with fewer, and the set where no more can be had
abbrev pub Gathered : List (List ℕ) → ℕ → ℕ → ℕ → Result (List (List ℕ)) (List (List ℕ) × ℕ) → Type 0
Gathered own need a b result =
    MatchResult result
    (λ new. Rebalanced own a b new × (need ≤ free new a + free new b))
    (λ r. Rebalanced own a b r.0 × (free r.0 a + free r.0 b < need) × Stuck r.0 a b r.1)

-- a free entry of one of a and b is used towards the other
pub record Placed (own : List (List ℕ)) (a b : ℕ) (new : List (List ℕ)) : Type 0 where
  pub from : ℕ
  pub to : ℕ
  pub slot : ℕ
  pub ends : ((from ≡ a) × (to ≡ b)) ⊎ ((from ≡ b) × (to ≡ a))
  pub two : slot < 2
  pub was_free : entry own from slot ≡ from
  pub stores : new ≡ stored own from slot to
