-- `pattern::part` meets its contract: 11, 26 and 17 of the graph that is read. Assumes nothing.
use Rattle.std.specs.Prelude.{◌≡◌, Err}
use Rattle.theory.specs.Rule.{by_number, rule_number}
use Rattle.theory.specs.Prelude.{rules, ℕ, refl, subst, List}
use Rattle.space.specs.Written.{Written}
use Rattle.theory.specs.Graph.{SizedGraph}
use Rattle.sheet.specs.Answer.{Answers}
use Rattle.sheet.specs.Answer.Laws.{answers-refused}
use Rattle.part.specs.Part.{held_field, lines_field}
use Rattle.pattern.specs.Entries.{held_sheet}
use Rattle.pattern.specs.Entries.Reading.{facts-read}
use Rattle.pattern.specs.Entries.Parts.{part_held}
use Rattle.pattern.proofs.part.Goals as goal

-- the answer goes by the graph alone
by-graph : (number : ℕ) {g g' : SizedGraph} {space left : List ℕ} {r : Written} → g ≡ g' → Answers (lines_field (held_field g number)) space r left
    → Answers (lines_field (held_field g' number)) space r left
by-graph number {space = space} {left} {r} e h = subst (λ (x : SizedGraph). Answers (lines_field (held_field x number)) space r left) e h

pub read_graph-requires : goal.read_graph-requires
read_graph-requires c = (refl, refl, refl)

pub returns-in_err-head : goal.returns-in_err-head
unfolding held_sheet
returns-in_err-head c =
    let passed : by_number c.from_residual.result ≡ Err (rule_number c.in_err-head.field-0.0) = search rules in
    rw passed (answers-refused (rw c.in_err-head.ensures))

pub list-requires : goal.list-requires
list-requires c = (facts-read c.in_ok-head.ensures).drawn_is

pub returns : goal.returns
returns c =
    let read = facts-read c.in_ok-head.ensures in
    let a = c.args in
    let f = read in
    rw (part_held a.bytes.now a.number f.reads) (by-graph a.number f.sized_read c.list.ensures)
