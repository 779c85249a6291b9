-- `writer::kind_numbers` meets its contract. Assumes nothing.
use Rattle.std.specs.Prelude.{◌≤◌}
use Rattle.theory.specs.Prelude.{arith, ap, ◌∙◌, length, take, length-take}
use Rattle.sheet.specs.Facts.{kinds_number}
use Rattle.writer.proofs.Spread.{take-least, drop-least, allowed-take, allowed-drop, rest-few}
use Rattle.writer.proofs.kind_numbers.Goals as goal

pub kinds_number-requires : goal.kinds_number-requires
kinds_number-requires c =
    let all = take c.args.s.now.n c.args.s.now.elements in (
      omega (arith, c.split_at.ensures.front_len, c.min.ensures, c.kinds_in_eight.ensures),
      rw c.split_at.ensures.front (allowed-take c.args.s.now.opening c.min.result all c.requires.1),
    )

pub kinds_number-requires-2 : goal.kinds_number-requires-2
kinds_number-requires-2 c =
    let all = take c.args.s.now.n c.args.s.now.elements in
    let few : length all ≤ 64 = omega (arith, length-take c.args.s.now.n c.args.s.now.elements, c.requires.0) in (
      omega (arith, c.split_at.ensures.back_len, c.min.ensures, c.kinds_in_eight.ensures, rest-few c.args.s.now.opening (length all) few),
      rw c.split_at.ensures.back (allowed-drop c.args.s.now.opening c.min.result all c.requires.1),
    )

pub returns : goal.returns
returns c =
    let all = take c.args.s.now.n c.args.s.now.elements in
    let number = kinds_number c.args.s.now.opening in
    record {
      low_is = c.kinds_number.ensures ∙ ap number (c.split_at.ensures.front ∙ rw (c.min.ensures, c.kinds_in_eight.ensures) (take-least all _));
      high_is = c.kinds_number-2.ensures ∙ ap number (c.split_at.ensures.back ∙ rw (c.min.ensures, c.kinds_in_eight.ensures) (drop-least all _));
    }
