-- `report::put_entry` meets its contract: the word, then the number. Assumes nothing.
use borrow.Author.Rules.{rules}
use Rattle.report.specs.Block.Laws.{◌then◌}
use Rattle.report.proofs.put_entry.Goals as goal

pub returns : goal.returns
returns c = (c.put_word-a1.ensures then c.put_number.ensures.0, search rules)
