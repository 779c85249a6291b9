-- What is asked of a held sketch beside one constraint more, by value and in a record alike: how many constraints it holds (document 02, 2026-05:
-- placing takes that number), its clusters and what they rest on (2026-04: in the held sketch). A record that stands for no sheet that may be held is
-- refused by 27 (2026-05).
use Rattle.std.specs.Prelude.{List, [], ℕ, length}
use Rattle.theory.specs.Graph.{Graph}
use Rattle.space.specs.Written.{Written}
use Rattle.space.specs.Written.{Done, Refused}
use Rattle.sheet.specs.declared.Sheet.{Sheet}
use Rattle.sheet.specs.Facts.{Facts, facts_of}
use Rattle.sheet.specs.Field.{Field, value, refused, next}
use Rattle.sheet.specs.Graph.{graph_of}
use Rattle.sheet.specs.Answer.{by_rule}
use Rattle.sketch.specs.Sketch.{by27}
use Rattle.sketch.specs.Runs.{hold_fault}
pub mod Laws

-- the facts that a sketch by value holds; those in a record are `records` Record.`held_record`
unfoldable pub held_value : Sheet → Field Facts
held_value s = by_rule (by27 (hold_fault s)) (value (facts_of s) [])

-- how many constraints are held: no space is lent, so 17 is not met
abbrev pub held_count_of : Field Facts → Written
held_count_of (value f rest) = Done (length f.constraints)
held_count_of (refused k) = Refused k

-- the items that the graph of the facts gives
abbrev pub held_items_of : (Graph → List ℕ) → Field Facts → Field (List ℕ)
held_items_of what x = next x (λ f rest. value (what (graph_of f)) [])
