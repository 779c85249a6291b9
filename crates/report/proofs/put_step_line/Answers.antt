-- `report::put_step_line` meets its contract: its pieces make the line. Assumes nothing.
use Rattle.theory.specs.Prelude.{ℕ, sym, List}
use Rattle.theory.specs.declared.Step.{Step}
use Rattle.space.specs.Text.{ascii}
use Rattle.report.specs.Elements.{elements}
use Rattle.report.specs.Report.{step_line}
use Rattle.report.specs.Pieces.{numbers, parts_words, kind_words, ways_words}
use Rattle.report.specs.Block.{Stands}
use Rattle.report.specs.Block.Laws.{stands-as, ◌then◌}
use Rattle.report.specs.Report.Laws.{step-pieces}
use Rattle.report.proofs.put_step_line.Goals as goal

-- the pieces put one after another
line-put : (s : Step) {b0 b1 b2 b3 b4 b5 : List ℕ} {a0 a1 a2 a3 a4 a5 : ℕ}
    → Stands b0 a0 (parts_words s.made s.i s.j s.k) a1 b1 → Stands b1 a1 (ascii " joint") a2 b2
    → Stands b2 a2 (numbers (elements s.joint)) a3 b3 → Stands b3 a3 (kind_words s.kind) a4 b4
    → Stands b4 a4 (ways_words s.ways) a5 b5 → Stands b0 a0 (step_line s) a5 b5
line-put s parts word set kind ways =
    stands-as (sym (step-pieces s)) (parts then (word then (set then (kind then ways))))

pub returns : goal.returns
returns c = let kind = c in
    let set = kind in
    let word = set in
    let parts = word in
    line-put parts.args.s parts.put_parts-a1.ensures.0 word.put_word-a2.ensures
    set.put_set-a3.ensures.0 kind.put_kind-a4.ensures.0 c.put_ways.ensures
