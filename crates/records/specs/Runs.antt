-- Runs of asks and placings on a record in lent bytes (document 02, 2026-05): they answer as the same run on a value that holds the same facts, and so
-- as a plain list of constraints would (`sketch` Runs); in a record that is too short a placing is refused by 17 (document 01, "Refused") and changes
-- nothing. `RecordRuns` is shown of every record and every run by `record-runs` of Runs/Proof.antt.
use Rattle.std.specs.Prelude.{◌≤◌, ◌<◌, ◌≡◌, ◌↔◌, ◌∷◌}
use Rattle.theory.specs.Prelude.{ℕ, cond, eqb, List, [], map, length}
use Rattle.sheet.specs.declared.Constraint.{Constraint}
use Rattle.sheet.specs.declared.Sheet.{Sheet}
use Rattle.sheet.specs.Facts.{Facts, facts_of}
use Rattle.sheet.specs.Field.{value, refused}
use Rattle.sheet.specs.Answer.{after_to}
use Rattle.sketch.specs.Judgement.{Judgement}
use Rattle.sketch.specs.Judgement.{Is, Refused}
use Rattle.sketch.specs.Runs.{Event, asks, places, answers_to, after_all, Held}
use Rattle.records.specs.Record.{record_bytes, record_sheet, as_judgement, ask_field, place_field, written_field, placed_in, held_record}
pub mod Proof

-- ---- what the code answers, event after event, and the record then

abbrev pub answer_in : List ℕ → Event → Judgement
answer_in lent (asks c) = as_judgement (ask_field lent c)
answer_in lent (places c held) = placed_in (place_field lent c held) lent

abbrev pub after_in : List ℕ → Event → List ℕ
after_in lent (asks c) = lent
after_in lent (places c held) = after_to (written_field (place_field lent c held)) lent

unfoldable pub answers_in : List ℕ → List Event → List Judgement
answers_in lent [] = []
answers_in lent (e ∷ events) = answer_in lent e ∷ answers_in (after_in lent e) events

unfoldable pub all_in : List ℕ → List Event → List ℕ
all_in lent [] = lent
all_in lent (e ∷ events) = all_in (after_in lent e) events

-- ---- a record that is too short

-- no rule refuses the constraint, and the record with it is longer than the lent bytes
pub record NoRoom (lent : List ℕ) (c : Constraint) (held : ℕ) : Type 0 where
  pub facts : Facts
  pub takes : place_field lent c held ≡ value facts []
  pub longer : length lent < length (record_bytes facts)

-- placing by the number held in a record of any length that holds the facts f
pub record PlacesAnyLength (lent : List ℕ) (f : Facts) (c : Constraint) : Type 0 where
  -- answers as asking would, or by 17
  pub as_asked : (NoRoom lent c (length f.constraints) → ⊥) → answer_in lent (places c (length f.constraints)) ≡ answer_in lent (asks c)
  pub short : (answer_in lent (places c (length f.constraints)) ≡ Refused 17) ↔ NoRoom lent c (length f.constraints)
  -- and then not one byte changes
  pub unchanged : NoRoom lent c (length f.constraints) → after_in lent (places c (length f.constraints)) ≡ lent

-- what is not answered by 17: of the answers, and of the events
abbrev pub unless17 : {A : Type 0} → Judgement → A → List A → List A
unless17 (Is v) x xs = x ∷ xs
unless17 (Refused k) x xs = cond (eqb k 17) xs (x ∷ xs)

unfoldable pub others_than17 : List Judgement → List Judgement
others_than17 [] = []
others_than17 (a ∷ answers) = unless17 a a (others_than17 answers)

unfoldable pub with_room : List ℕ → List Event → List Event
with_room lent [] = []
with_room lent (e ∷ events) = unless17 (answer_in lent e) e (with_room (after_in lent e) events)

-- ---- the theorem

-- the record and the value hold the same facts
abbrev pub SameFacts : List ℕ → Sheet → Type 0
SameFacts lent s = record_sheet lent ≡ value (facts_of s) []

pub record RecordRuns : Type 0 where
  -- with room for every held sketch
  pub run : (lent : List ℕ) (s : Sheet) → 1155 ≤ length lent → Held s → SameFacts lent s → (events : List Event)
      → (answers_in lent events ≡ answers_to s events) × SameFacts (all_in lent events) (after_all s events)
  -- of any length: without the placings that are answered by 17, the run is one on the value
  pub any_length : (lent : List ℕ) (s : Sheet) → Held s → SameFacts lent s → (events : List Event)
      → (others_than17 (answers_in lent events) ≡ answers_to s (with_room lent events)) × SameFacts (all_in lent events) (after_all s (with_room lent events))
  pub places : (lent : List ℕ) (f : Facts) → held_record lent ≡ value f [] → (c : Constraint) → PlacesAnyLength lent f c
  -- a record that stands for no sheet that may be held: 27 to all, and no change
  pub never : (lent : List ℕ) → held_record lent ≡ refused 27 → (events : List Event)
      → (answers_in lent events ≡ map (λ (e : Event). Refused 27) events) × (all_in lent events ≡ lent)
