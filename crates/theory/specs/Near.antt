-- The adjacency of the constraint graph: for each element the set of the elements that it shares a constraint with.
-- Document 01, "Refused", rules 6 and 7. Assumes nothing.
use Rattle.std.specs.Prelude.{◌≡◌, ◌↔◌, ◌∷◌, ◌≤◌, ◌<◌}
use Rattle.theory.specs.Prelude.{List, [], ℕ, length, take, get_or}
use Rattle.theory.specs.Set.{◌∈◌}
use Rattle.theory.specs.Constraints.{pair, Among, Pairs, Below}
pub mod Laws

-- none stands twice (Refused, rule 7)
abbrev pub Once : List ℕ → Type 0
Once [] = Unit {0}
Once (m ∷ cs) = (Among m cs → ⊥) × Once cs

-- each is a set of two elements below 64, and none stands twice
pub record Simple (cs : List ℕ) : Type 0 where
  pub pairs : Pairs cs
  pub below : Below 64 cs
  pub once : Once cs

-- the first e of an array's 200 places are such a list
pub record Standing (start : List ℕ) (e : ℕ) : Type 0 where
  pub places : length start ≡ 200
  pub few : e ≤ 200
  pub simple : Simple (take e start)

-- item x of the adjacency is the set of the elements that are constrained with x: y belongs to it if and only if the
-- list has x and y for a constraint
pub record Near (cs near : List ℕ) : Type 0 where
  pub places : length near ≡ 64
  pub says : (x y : ℕ) → x < 64 → (y ∈ get_or near x 0) ↔ Among (pair x y) cs
