-- The page of the held sketch, beside Promises: what is answered of it after any run of asks and placings. Document 02, 2026-04: every cluster carries
-- the set of constraint numbers it came from, in the held sketch too; 2026-05: placing answers as asking would. Shown by `held-page` of
-- Held/Proof.antt; the contracts of the entry points cite the same fields.
use Rattle.std.specs.Prelude.{◌+◌, ◌≤◌, ◌≡◌, ◌↔◌}
use Rattle.theory.specs.Prelude.{ℕ, List, [], length}
use Rattle.theory.specs.Constraints.{Among}
use Rattle.theory.specs.Merge.{Merge, Valid, Maximal, final, live, left}
use Rattle.theory.specs.Plan.{plan_of}
use Rattle.space.specs.Written.{Done}
use Rattle.sheet.specs.declared.Constraint.{Constraint}
use Rattle.sheet.specs.Facts.{Facts, sheet_of, facts_of}
use Rattle.sheet.specs.Field.{Field, value}
use Rattle.sheet.specs.Answer.{after_to}
use Rattle.sheet.specs.Graph.{graph_of}
use Rattle.theory.specs.Rests.{rests_on, Rests}
use Rattle.judge.specs.Judged.{final_clusters}
use Rattle.account.specs.Resting.{words_of, rest_numbers}
use Rattle.sketch.specs.Runs.{Event, answers_to, after_all, placed_in}
use Rattle.records.specs.Record.{record_bytes, held_record}
use Rattle.records.specs.Runs.{answers_in, all_in, PlacesAnyLength, others_than17, with_room}
use Rattle.held.specs.Held.{held_value, held_count_of, held_items_of}
use Rattle.pattern.specs.Entries.{hold_field}
pub mod Proof

-- the initial clusters of the facts
abbrev pub clusters_of : Facts → List ℕ
clusters_of g = (graph_of g).clusters

-- ---- what is answered of a sketch whose facts are g, by value or in a record

pub record SketchTold (x : Field Facts) (g : Facts) : Type 0 where
  pub holds : x ≡ value g []
  pub count : held_count_of x ≡ Done (length g.constraints)
  -- what clusters rest on, after any list of merges; `held_rests` answers it of the engine's plan, in words
  pub rests : (p : List Merge) → Valid (clusters_of g) p → Rests (clusters_of g) p
  pub words : held_items_of rest_numbers x
      ≡ value (words_of (final (clusters_of g) (plan_of (clusters_of g))) (rests_on (length (clusters_of g)) (plan_of (clusters_of g)))) []
  -- `held_clusters` answers the sets that live at its end, each one as often as it lives
  pub plan : Maximal (clusters_of g) (plan_of (clusters_of g))
  pub clusters : (finals : List ℕ) × (held_items_of final_clusters x ≡ value finals [])
      × ((y : ℕ) → Among y finals ↔ live (final (clusters_of g) (plan_of (clusters_of g))) y)
      × (length finals ≡ left (final (clusters_of g) (plan_of (clusters_of g))))

-- ---- after any run of asks and placings on the sketch held from an accepted sheet, with its facts f, that isn't over

-- in a record with room for that sheet: the run answers as one on the value, without the placings that 17 refuses
pub record RecordTold (f : Facts) (lent : List ℕ) (events : List Event) : Type 0 where
  pub answers : others_than17 (answers_in lent events) ≡ answers_to (sheet_of f) (with_room lent events)
  pub sketch : SketchTold (held_record (all_in lent events)) (facts_of (after_all (sheet_of f) (with_room lent events)))
  -- and placing then, by the number held, answers as asking would, or by 17 with not one byte changed, exactly where the record is too short
  pub places : (c : Constraint) → PlacesAnyLength (all_in lent events) (facts_of (after_all (sheet_of f) (with_room lent events))) c

pub record HeldPage (bytes : List ℕ) (f : Facts) (events : List Event) : Type 0 where
  pub by_value : SketchTold (held_value (after_all (sheet_of f) events)) (facts_of (after_all (sheet_of f) events))
  pub number : held_count_of (held_value (after_all (sheet_of f) events)) ≡ Done (length f.constraints + length (placed_in (sheet_of f) events))
  pub in_record : (lent : List ℕ) → length (record_bytes f) ≤ length lent → RecordTold f (after_to (hold_field bytes) lent) events
