-- Runs of asks and placings on a held sketch, in any mix. Document 02, 2026-05: any run must answer as a plain list of constraints would; the sketch is
-- altered by placing and by nothing else. `Runs` is shown of every value of the code and every run by `runs` of Runs/Proof.antt. Assumes nothing.
use Rattle.std.specs.Prelude.{◌≡◌, ◌≢◌, ◌∷◌, ◌++◌}
use Rattle.theory.specs.Prelude.{ℕ, List, [], map, length}
use Rattle.theory.specs.Constraints.{Among}
use Rattle.theory.specs.declared.Verdict.{Verdict}
use Rattle.theory.specs.Graph.{verdict_of}
use Rattle.sheet.specs.declared.Constraint.{Constraint}
use Rattle.sheet.specs.declared.Sheet.{Sheet}
use Rattle.sheet.specs.Facts.{Facts, facts_of}
use Rattle.sheet.specs.Rules.{or_else, sheet_fault}
use Rattle.sheet.specs.Graph.{graph_of, over_fault}
use Rattle.sketch.specs.Judgement.{Judgement}
use Rattle.sketch.specs.Judgement.{Is, Refused}
use Rattle.sketch.specs.Sketch.{extended, next_fault, ask_answer, place_answer, place_after}
pub mod Proof
pub mod Growth

pub data Event : Type 0 where
  asks : Constraint → Event
  -- with the number of constraints held
  places : Constraint → ℕ → Event

-- ---- what the code answers, event after event, and the record then

abbrev pub answer_of : Sheet → Event → Judgement
answer_of s (asks c) = ask_answer s c
answer_of s (places c held) = place_answer s c held

abbrev pub after_of : Sheet → Event → Sheet
after_of s (asks c) = s
after_of s (places c held) = place_after s c held

unfoldable pub answers_to : Sheet → List Event → List Judgement
answers_to s [] = []
answers_to s (e ∷ events) = answer_of s e ∷ answers_to (after_of s e) events

unfoldable pub after_all : Sheet → List Event → Sheet
after_all s [] = s
after_all s (e ∷ events) = after_all (after_of s e) events

-- ---- what a plain list of constraints answers

-- one constraint more: the verdict of the list with it, where no rule refuses, or the rule
pub data Told (f : Facts) (c : Constraint) : Judgement → Type 0 where
  takes : next_fault f c ≡ 0 → Told f c (Is (verdict_of (graph_of (extended f c))))
  refuses : (k : ℕ) → Among k (6 ∷ 7 ∷ 8 ∷ 20 ∷ 9 ∷ 11 ∷ []) → next_fault f c ≡ k → Told f c (Refused k)

-- from the list of f, by these answers, to the list of g
pub data Plain : Facts → List Event → List Judgement → Facts → Type 0 where
  ends : (f : Facts) → Plain f [] [] f
  -- asking changes nothing
  asked : (f : Facts) (c : Constraint) (a : Judgement) (es : List Event) (as' : List Judgement) (g : Facts) → Told f c a → Plain f es as' g
      → Plain f (asks c ∷ es) (a ∷ as') g
  -- placing answers as asking would, and the constraint is then the last; a refusal changes nothing
  placed : (f : Facts) (c : Constraint) (held : ℕ) (v : Verdict) (es : List Event) (as' : List Judgement) (g : Facts)
      → held ≡ length f.constraints → Told f c (Is v) → Plain (extended f c) es as' g → Plain f (places c held ∷ es) (Is v ∷ as') g
  refused : (f : Facts) (c : Constraint) (held k : ℕ) (es : List Event) (as' : List Judgement) (g : Facts)
      → held ≡ length f.constraints → Told f c (Refused k) → Plain f es as' g → Plain f (places c held ∷ es) (Refused k ∷ as') g
  -- another number is refused by 24
  another : (f : Facts) (c : Constraint) (held : ℕ) (es : List Event) (as' : List Judgement) (g : Facts)
      → held ≢ length f.constraints → Plain f es as' g → Plain f (places c held ∷ es) (Refused 24 ∷ as') g

-- ---- the theorem

-- the writer's order, then 11: what refuses to hold the facts of a record
unfoldable pub hold_fault : Sheet → ℕ
hold_fault s = or_else (sheet_fault s) (over_fault (graph_of (facts_of s)))

-- a value of the code that stands for a sheet that may be held
pub record Held (s : Sheet) : Type 0 where
  pub elements_long : length s.elements ≡ 64
  pub constraints_long : length s.constraints ≡ 200
  pub no_fault : hold_fault s ≡ 0

-- the constraints that were placed, in their order
abbrev pub placed_by : Event → Judgement → List Constraint
placed_by (asks c) a = []
placed_by (places c held) (Is v) = c ∷ []
placed_by (places c held) (Refused k) = []

unfoldable pub placed_in : Sheet → List Event → List Constraint
placed_in s [] = []
placed_in s (e ∷ events) = placed_by e (answer_of s e) ++ placed_in (after_of s e) events

pub record Run (s : Sheet) (events : List Event) : Type 0 where
  pub plain : Plain (facts_of s) events (answers_to s events) (facts_of (after_all s events))
  -- the record after it is the sheet with the placed ones in that order, and may be held
  pub opening : (facts_of (after_all s events)).opening ≡ (facts_of s).opening
  pub elements : (facts_of (after_all s events)).elements ≡ (facts_of s).elements
  pub constraints : (facts_of (after_all s events)).constraints ≡ (facts_of s).constraints ++ placed_in s events
  pub held : Held (after_all s events)
  -- placing then with the number of an ask before it: the asked answer, or 24 and no change where the number is an old one
  pub same_number : (c : Constraint) → (after_all s events).e ≡ s.e → place_answer (after_all s events) c s.e ≡ ask_answer s c
  pub old_number : (c : Constraint) → (after_all s events).e ≢ s.e
      → (place_answer (after_all s events) c s.e ≡ Refused 24) × (place_after (after_all s events) c s.e ≡ after_all s events)

pub record Runs : Type 0 where
  pub run : (s : Sheet) → Held s → (events : List Event) → Run s events
  -- a record that stands for no sheet that may be held: 27 to all, and no change
  pub never : (s : Sheet) → hold_fault s ≢ 0 → (events : List Event)
      → (answers_to s events ≡ map (λ (e : Event). Refused 27) events) × (after_all s events ≡ s)
