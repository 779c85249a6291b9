-- `card::entry` meets its contract, by the test over the whole card. Assumes nothing.
use borrow.Author.Rules.{rules}
use Rattle.card.specs.Card.Table.{right-at}
use Rattle.card.proofs.entry.Goals as goal

pub returns : goal.returns
returns c = right-at c.card-card.result c.card-card.ensures c.args.i (search rules)
