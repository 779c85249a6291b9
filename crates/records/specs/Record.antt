-- A held sketch in the record that its owner lends, as bytes (document 02, 2026-05): two bytes, lowest first, say how many bytes of a sheet follow;
-- what stands beyond them has no influence. It holds facts alone.
use Rattle.std.specs.Prelude.{ℕ, List, [], ◌++◌, leb, length, take}
use Rattle.theory.specs.declared.Verdict.{Verdict}
use Rattle.theory.specs.Graph.{verdict_of}
use Rattle.space.specs.Written.{Written}
use Rattle.space.specs.Written as written
use Rattle.space.specs.Space.{answer}
use Rattle.sheet.specs.declared.Constraint.{Constraint}
use Rattle.sheet.specs.Facts.{Facts}
use Rattle.sheet.specs.Field.{Field, value, refused, next, demand, digits, field}
use Rattle.sheet.specs.Decode.{read_sheet}
use Rattle.sheet.specs.Encode.{sheet_bytes}
use Rattle.sheet.specs.Graph.{graph_of, over_fault}
use Rattle.sheet.specs.Answer.{by_rule}
use Rattle.sketch.specs.Judgement.{Judgement}
use Rattle.sketch.specs.Judgement.{Is, Refused}
use Rattle.sketch.specs.Sketch.{extended, by27, ask_fault, place_fault}
pub mod Laws
pub mod Room

unfoldable pub record_bytes : Facts → List ℕ
record_bytes f = digits 2 (length (sheet_bytes f)) ++ sheet_bytes f

-- ---- the sheet in a record

-- whatever refuses the bytes, 27 refuses the record
abbrev pub as27 : {A : Type 0} → Field A → Field A
as27 (value a rest) = value a rest
as27 (refused k) = refused 27

-- the sheet of the n bytes that follow
abbrev pub counted : ℕ → List ℕ → Field Facts
counted n rest = demand (leb n (length rest)) 2 (read_sheet (take n rest))

unfoldable pub record_sheet : List ℕ → Field Facts
record_sheet lent = as27 (next (field 2 lent) counted)

-- ---- what a call answers

abbrev pub as_judgement : Field Verdict → Judgement
as_judgement (value v rest) = Is v
as_judgement (refused k) = Refused k

-- asking: the verdict of the sheet with that constraint
abbrev pub ask_field : List ℕ → Constraint → Field Verdict
ask_field lent c = next (record_sheet lent) (λ f rest. by_rule (ask_fault f c) (value (verdict_of (graph_of (extended f c))) []))

-- placing: the facts with that constraint
abbrev pub place_field : List ℕ → Constraint → ℕ → Field Facts
place_field lent c held = next (record_sheet lent) (λ f rest. by_rule (place_fault f c held) (value (extended f c) []))

-- and their record
abbrev pub written_field : Field Facts → Field (List ℕ)
written_field x = next x (λ f rest. value (record_bytes f) [])

-- a verdict once it is written, 17 where it has no room
abbrev pub place_judged : Written → Judgement → Judgement
place_judged (written.Done n) a = a
place_judged (written.Refused k) a = Refused k

abbrev pub placed_in : Field Facts → List ℕ → Judgement
placed_in (value f rest) lent = place_judged (answer (record_bytes f) lent) (Is (verdict_of (graph_of f)))
placed_in (refused k) lent = Refused k

-- ---- what is asked of the sketch in it

-- its facts: 27 of an over sheet too, from which no sketch is held
unfoldable pub held_record : List ℕ → Field Facts
held_record lent = next (record_sheet lent) (λ f rest. by_rule (by27 (over_fault (graph_of f))) (value f []))

-- the sheet in it again
abbrev pub sheet_field : List ℕ → Field (List ℕ)
sheet_field lent = next (held_record lent) (λ f rest. value (sheet_bytes f) [])
