-- `report::put_elements` meets its contract: the word, the set's elements and byte 10. Assumes nothing.
use borrow.Author.Rules.{rules}
use Rattle.report.specs.Block.Laws.{◌then◌}
use Rattle.report.proofs.put_elements.Goals as goal

pub returns : goal.returns
returns c = let set = c in
    (set.put_word-a1.ensures then (set.put_set-a2.ensures.0 then c.put_word.ensures), search rules)
