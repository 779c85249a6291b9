-- `pattern::part_size` meets its contract: 11 and 26 of the graph that is read. Assumes nothing.
use Rattle.std.specs.Prelude.{◌≡◌, Err}
use Rattle.theory.specs.Rule.{by_number, rule_number}
use Rattle.theory.specs.Prelude.{rules, ℕ, refl, sym, ap, ◌∙◌, List}
use Rattle.theory.specs.Graph.{SizedGraph}
use Rattle.sheet.specs.Facts.{Facts}
use Rattle.sheet.specs.Field.{value}
use Rattle.sheet.specs.Decode.{read_sheet}
use Rattle.sheet.specs.Graph.{sized_of}
use Rattle.graph.specs.Lent.{sized_in}
use Rattle.part.specs.Measured.{Measured}
use Rattle.part.specs.Part.{held_field}
use Rattle.part.specs.Tallies.{measure_of}
use Rattle.pattern.specs.Entries.{held_sheet, part_of}
use Rattle.pattern.specs.Entries.Reading.{facts-read}
use Rattle.pattern.specs.Entries.Parts.{part_held}
use Rattle.pattern.proofs.part_size.Goals as goal

-- measured by the graph that is read
measured : (bytes : List ℕ) (number : ℕ) (g : SizedGraph) {f : Facts} {rest : List ℕ} {r : Measured}
    → r ≡ measure_of (held_field g number) → g ≡ sized_of f → read_sheet bytes ≡ value f rest → r ≡ measure_of (part_of bytes number)
measured bytes number g is same reads =
    is ∙ ap (λ (g : SizedGraph). measure_of (held_field g number)) same ∙ ap measure_of (sym (part_held bytes number reads))

pub read_graph-requires : goal.read_graph-requires
read_graph-requires c = (refl, refl, refl)

pub returns-in_err-head : goal.returns-in_err-head
unfolding held_sheet
returns-in_err-head c =
    let passed : by_number c.from_residual.result ≡ Err (rule_number c.in_err-head.field-0.0) = search rules in
    rw (passed, c.in_err-head.ensures)

pub measure-requires : goal.measure-requires
measure-requires c = (facts-read c.in_ok-head.ensures).drawn_is

pub returns : goal.returns
returns c =
    let f = facts-read c.in_ok-head.ensures in
    let a = c.args in
    measured a.bytes.now a.number (sized_in c.in_ok-head.head c.read_graph.new.start c.read_graph.new.sizes) c.measure.ensures f.sized_read f.reads
