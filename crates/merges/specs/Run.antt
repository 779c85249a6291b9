-- A list of merges in arrays, and what a run of merges begins from and answers. Assumes nothing.
use Rattle.std.specs.Prelude.{◌≡◌, Bool, List, [], ◌∷◌, map, ℕ, ◌+◌, ◌*◌, ◌≤◌, eqb, length, take, replicate}
use Rattle.theory.specs.Block.{block}
use Rattle.theory.specs.Constraints.{Pairs, NotOver}
use Rattle.theory.specs.Merge.{Merge, Valid, final, joints}
use Rattle.theory.specs.Plan.{ascending, plan_of}
pub mod Laws

-- 2n-3 constraints on 64 elements, half as many merges, and room for the clusters of both
abbrev pub most_constraints : ℕ
most_constraints = 125

abbrev pub most_steps : ℕ
most_steps = 62

abbrev pub places : ℕ
places = 192

-- the numbers of the merges, three a merge
unfoldable pub flat : List Merge → List ℕ
flat [] = []
flat (m ∷ p) = m.i ∷ m.j ∷ m.k ∷ flat p

-- one cluster is left of e: each merge takes two away
abbrev pub one_is_left : ℕ → ℕ → Bool
one_is_left e steps = eqb (2 * steps + 1) e

-- a list of merges in arrays: the parts of each, ascending, their joints, and the clusters at the end, a dead one 0; places beyond are 0
pub record Run : Type 0 where
  pub steps : ℕ
  pub parts : List ℕ
  pub joints : List ℕ
  pub slots : List ℕ

-- the list of merges p of the constraints cs
unfoldable pub run_of : List ℕ → List Merge → Run
run_of cs p = record {
  steps = length p;
  parts = block places 0 (flat (map ascending p));
  joints = block 64 0 (joints cs p);
  slots = block places 0 (final cs p);
}

-- a list of merges in arrays that a caller lends
abbrev pub run_in : ℕ → List ℕ → List ℕ → List ℕ → Run
run_in steps parts joints slots = record { steps = steps; parts = parts; joints = joints; slots = slots }

-- arrays with nothing in them
pub record Blank (slots parts joints : List ℕ) : Type 0 where
  pub slots_blank : slots ≡ replicate places 0
  pub parts_blank : parts ≡ replicate places 0
  pub joints_blank : joints ≡ replicate 64 0

-- what a run begins from: e constraints, each a set of two elements
pub record Start (start : List ℕ) (e : ℕ) : Type 0 where
  pub few : e ≤ most_constraints
  pub count : length (take e start) ≡ e
  pub pairs : Pairs (take e start)

-- r holds a list of merges of the constraints cs
pub record Merged (cs : List ℕ) (r : Run) : Type 0 where
  pub p : List Merge
  pub valid : Valid cs p
  pub is : r ≡ run_of cs p

-- and where these are not over, it is the engine's plan
pub record Planned (cs : List ℕ) (r : Run) : Type 0 where
  pub merged : Merged cs r
  pub plan : NotOver cs → merged.p ≡ plan_of cs
