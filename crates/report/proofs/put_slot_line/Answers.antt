-- `report::put_slot_line` meets its contract: no line for a dead cluster, else its pieces. Assumes nothing.
use Rattle.theory.specs.Prelude.{rules, sym}
use Rattle.report.specs.Block.Laws.{stands-none, stands-as, ◌then◌}
use Rattle.report.specs.Report.Laws.{slot-dead, slot-living}
use Rattle.report.proofs.put_slot_line.Goals as goal

pub returns-then-a-eq0 : goal.returns-then-a-eq0
returns-then-a-eq0 c = let a = c.args in
    stands-as (sym (slot-dead a.c a.a _ c.if-a-eq0.true)) (stands-none _ _)

pub returns : goal.returns
returns c = let set = c in
    let word = set in
    let number = word in
    let living = number in
    let a = living.args in
    stands-as (sym (slot-living a.c a.a a.low a.high living.if-a-eq0.false (search rules) (search rules)))
    (number.put_entry-a1.ensures.0 then (word.put_word-a2.ensures then (set.put_set-a3.ensures.0 then c.put_rests.ensures)))
