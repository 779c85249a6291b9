-- A cluster number of a graph that is not over, and what the answer is then. Assumes nothing.
use Rattle.std.specs.Prelude.{◌+◌, ◌≤◌, ◌<◌, ◌≡◌}
use Rattle.theory.specs.Prelude.{ℕ, lt-ltb, le-ltb, ap, ◌∙◌, Bool, cond, [], length}
use Rattle.theory.specs.Plan.{plan_of}
use Rattle.theory.specs.Graph.{SizedGraph}
use Rattle.sheet.specs.Field.{value, refused}
use Rattle.sheet.specs.Answer.{by_rule}
use Rattle.sheet.specs.Graph.{over_fault}
use Rattle.part.specs.Part.{cluster_steps, cluster_field, held_field}

module _ (g : SizedGraph) (none : over_fault g.graph ≡ 0) (c : ℕ) where
  pub number-taken : c < length g.graph.clusters + length (plan_of g.graph.clusters) → held_field g c ≡ value (cluster_steps g c) []
  number-taken b =
      ap (λ (k : ℕ). by_rule k (cluster_field g c)) none
      ∙ ap (λ (t : Bool). by_rule (cond t 0 26) (value (cluster_steps g c) [])) (lt-ltb c _ b)

  pub number-refused : length g.graph.clusters + length (plan_of g.graph.clusters) ≤ c → held_field g c ≡ refused 26
  number-refused b =
      ap (λ (k : ℕ). by_rule k (cluster_field g c)) none
      ∙ ap (λ (t : Bool). by_rule (cond t 0 26) (value (cluster_steps g c) [])) (le-ltb c _ b)
