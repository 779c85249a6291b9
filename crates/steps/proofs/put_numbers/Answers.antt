-- `steps::put_numbers` meets its contract: the rule that refused, 17, or the numbers of the records. Assumes nothing.
use Rattle.std.specs.Prelude.{◌≡◌}
use Rattle.theory.specs.Prelude.{arith, length}
use Rattle.steps.specs.Records.Laws.{numbers-short, numbers-put}
use Rattle.steps.proofs.put_numbers.Goals as goal

pub overflow_mul-count : goal.overflow_mul-count
overflow_mul-count c = omega (arith, c.min-count.ensures)

pub returns-then-out-count : goal.returns-then-out-count
returns-then-out-count c =
    let long : length c.args.f.list ≡ 62 = omega arith in
    numbers-short _ long _ c.in_ok-n.was c.min-count.ensures c.if-out-count.true

pub put_records-next-requires : goal.put_records-next-requires
put_records-next-requires c = omega (arith, c.min-count.ensures)

pub returns : goal.returns
returns c =
    let long : length c.args.f.list ≡ 62 = omega arith in
    numbers-put _ long _ c.in_ok-n.was c.min-count.ensures c.if-out-count.false c.put_records-next.ensures
