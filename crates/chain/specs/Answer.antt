-- What a call for the chain answers over lent space, one place a cluster. Document 02, 2026-08; document 01, "Refused",
-- rule 17: "none" is another answer than the empty run, and neither needs space.
use Rattle.std.specs.Prelude.{◌≡◌, ◌&&◌, cond, List, [], ℕ, ltb}
use Rattle.std.proofs.Math.Option.{Option, none, some}
use Rattle.theory.specs.Merge.{final}
use Rattle.theory.specs.Plan.{plan_of}
use Rattle.theory.specs.Graph.{Graph}
use Rattle.space.specs.Written.{Written}
use Rattle.space.specs.Written.{Done, Refused as Not}
use Rattle.space.specs.Space.{answer, after}
use Rattle.sheet.specs.Field.{Field, value, refused}
use Rattle.sheet.specs.Answer.{by_rule}
use Rattle.chain.specs.Layers.{chain_of}
use Rattle.chain.specs.Says.{Answer}
use Rattle.chain.specs.Says.{Run, None, Refused}
pub mod Laws
pub mod Finals

abbrev pub as_run : Written → Answer
as_run (Done n) = Run n
as_run (Not k) = Refused k

abbrev pub chain_answer : Option (List ℕ) → List ℕ → Answer
chain_answer none space = None
chain_answer (some r) space = as_run (answer r space)

-- the space after that call
abbrev pub chain_after : Option (List ℕ) → List ℕ → List ℕ
chain_after none space = space
chain_after (some r) space = after r space

-- ---- of a constraint graph

-- the final clusters of the engine's plan, by number, a dead one 0
abbrev pub finals_of : Graph → List ℕ
finals_of g = final g.clusters (plan_of g.clusters)

-- rule 25: the start or the end is not below n. Its number, 0 where it does not refuse
abbrev pub ends_fault : ℕ → ℕ → ℕ → ℕ
ends_fault n start end = cond (ltb start n && ltb end n) 0 25

-- the chain of its final clusters
abbrev pub asked : Graph → ℕ → ℕ → Field (Option (List ℕ))
asked g start end = by_rule (ends_fault g.n start end) (value (chain_of (finals_of g) start end) [])

abbrev pub chain_to : Field (Option (List ℕ)) → List ℕ → Answer
chain_to (value c rest) space = chain_answer c space
chain_to (refused k) space = Refused k

-- the space after that call
abbrev pub chain_left : Field (Option (List ℕ)) → List ℕ → List ℕ
chain_left (value c rest) space = chain_after c space
chain_left (refused k) space = space

-- a call that gives the chain, or the rule that refuses, answers r and leaves this in the space
pub record ChainAnswers (x : Field (Option (List ℕ))) (space : List ℕ) (r : Answer) (left : List ℕ) : Type 0 where
  pub answer_is : r ≡ chain_to x space
  pub left_is : left ≡ chain_left x space
