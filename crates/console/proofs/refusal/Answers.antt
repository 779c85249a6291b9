-- `console::refusal` meets its contract: its pieces make the line, and a number has at most three digits.
use native.Mathlib.Omega.{arith}
use Rattle.space.specs.Space.Laws.{put-stands, ◌then◌}
use Rattle.space.specs.Text.Laws.{decimal-length}
use Rattle.console.proofs.refusal.Goals as goal

pub put_decimal-a2-requires : goal.put_decimal-a2-requires
put_decimal-a2-requires c = (omega arith, omega (arith, decimal-length c.args.rule, c.put_text-a1.ensures.next_is))

pub put_item-requires : goal.put_item-requires
put_item-requires c = omega (arith, decimal-length c.args.rule, c.put_decimal-a2.ensures.next_is, c.put_text-a1.ensures.next_is)

pub returns : goal.returns
returns c =
    let put = c.put_text-a1.ensures then (c.put_decimal-a2.ensures then c.put_item.ensures) in
    let three = decimal-length c.args.rule in
    let b = c.put_decimal-a2.ensures.next_is in (
      omega (arith, put.length_is, c.requires, three, c.put_text-a1.ensures.next_is, b, c.put_item.ensures.next_is),
      put-stands (omega (arith, put.next_is, c.requires, three, c.put_text-a1.ensures.next_is, b, c.put_item.ensures.next_is)) put,
    )
