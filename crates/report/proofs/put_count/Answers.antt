-- `report::put_count` meets its contract: a count has at most three digits. Assumes nothing.
use Rattle.theory.specs.Prelude.{rules, arith}
use Rattle.space.specs.Text.Laws.{decimal-length}
use Rattle.report.specs.Block.Laws.{stands-put, ◌then◌}
use Rattle.report.proofs.put_count.Goals as goal

pub put_decimal-requires : goal.put_decimal-requires
put_decimal-requires c = let word = c in
    (search rules, omega (arith, decimal-length word.args.n, word.put_word-a1.ensures.next_is))

pub returns : goal.returns
returns c = let word = c in
    let put = word.put_word-a1.ensures then stands-put c.put_decimal.ensures in
    (put, omega (arith, put.next_is, decimal-length word.args.n))
