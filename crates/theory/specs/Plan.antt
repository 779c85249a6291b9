-- The engine's own plan. Document 01, "Clusters and merges": it always takes the open merge whose three numbers, ascending, come first when
-- compared place by place, lists them ascending, and goes on until none is open. The plan computes; `First` and `IsPlan` say the same as
-- relations. Assumes nothing.
use Rattle.std.specs.Prelude.{◌≡◌, ◌⊎◌, Bool, true, false, not, ◌&&◌, List, [], ◌∷◌, ℕ, zero, suc, ◌≤◌, ◌<◌, min, max, eqb, length}
use Rattle.std.proofs.Math.Option.{Option, none, some}
use Rattle.std.specs.Int.Count.{ones}
use Rattle.theory.specs.Set.{◌∩◌}
use Rattle.theory.specs.Merge.{Merge, merge, OpenAt, put, Ended}
pub mod Order
pub mod Search
pub mod Laws

-- ---- by tests that compute

-- each two share exactly one element, and the three shared elements are three different ones
unfoldable pub open_test : ℕ → ℕ → ℕ → Bool
open_test a b c =
    eqb (ones (a ∩ b)) 1
    && (eqb (ones (b ∩ c)) 1 && (eqb (ones (a ∩ c)) 1 && (not (eqb (a ∩ b) (b ∩ c)) && (not (eqb (b ∩ c) (a ∩ c)) && not (eqb (a ∩ b) (a ∩ c))))))

-- the first third, second and first number of an open merge; the list holds the clusters from that number on
unfoldable pub third_of : ℕ → ℕ → ℕ → List ℕ → Option ℕ
third_of a b k [] = none
third_of a b k (c ∷ s) = elim (open_test a b c) [ true ↦ some k | false ↦ third_of a b (suc k) s ]

unfoldable pub second_of : ℕ → ℕ → ℕ → List ℕ → Option Merge
second_of a i j [] = none
second_of a i j (b ∷ s) = elim (third_of a b (suc j) s) [ some k ↦ some (merge i j k) | none ↦ second_of a i (suc j) s ]

unfoldable pub first_of : ℕ → List ℕ → Option Merge
first_of i [] = none
first_of i (a ∷ s) = elim (second_of a i (suc i) s) [ some m ↦ some m | none ↦ first_of (suc i) s ]

-- is there one?
abbrev pub is_some : Option Merge → Bool
is_some none = false
is_some (some m) = true

-- the plan, at most f steps of it
unfoldable pub plan : ℕ → List ℕ → List Merge
plan zero s = []
plan (suc f) s = elim (first_of 0 s) [ none ↦ [] | some m ↦ m ∷ plan f (put s m) ]

-- the plan of a sheet's constraints, which has fewer steps than they are
unfoldable pub plan_of : List ℕ → List Merge
plan_of cs = plan (length cs) cs

-- ---- by relations

-- the three numbers in ascending order
unfoldable pub ascending : Merge → Merge
ascending m = merge (min (min m.i m.j) m.k) (max (min m.i m.j) (min (max m.i m.j) m.k)) (max (max m.i m.j) m.k)

-- m is r or comes before it, compared place by place
unfoldable pub NotAfter : Merge → Merge → Type 0
NotAfter m r = (m.i < r.i) ⊎ ((m.i ≡ r.i) × ((m.j < r.j) ⊎ ((m.j ≡ r.j) × (m.k ≤ r.k))))

-- the open merge that comes first, its numbers ascending
pub record First (s : List ℕ) (m : Merge) : Type 0 where
  pub i<j : m.i < m.j
  pub j<k : m.j < m.k
  pub isopen : OpenAt s m
  pub least : (r : Merge) → OpenAt s r → NotAfter m (ascending r)

-- each step is the first open merge, and it goes on until none is open
abbrev pub IsPlan : List ℕ → List Merge → Type 0
IsPlan s [] = Ended s
IsPlan s (m ∷ p) = First s m × IsPlan (put s m) p
