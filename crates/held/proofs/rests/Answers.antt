-- `held::rests` meets its contract: the sketch that is read, and what is asked of its graph. Assumes nothing.
use Rattle.std.specs.Prelude.{◌≡◌, Err}
use Rattle.theory.specs.Prelude.{rules, refl, ap}
use Rattle.theory.specs.Rule.{rule_number, by_number}
use Rattle.sheet.specs.Answer.Laws.{answers-refused, answers-items}
use Rattle.account.specs.Resting.{rest_numbers}
use Rattle.held.specs.Held.{held_items_of}
use Rattle.held.specs.Held.Laws.{head-drawn, items-are}
use Rattle.held.proofs.rests.Goals as goal

pub read-requires : goal.read-requires
read-requires c = (refl, refl, refl, refl)

pub returns-in_err-front : goal.returns-in_err-front
returns-in_err-front c =
    let passed : by_number c.from_residual.result ≡ Err (rule_number c.in_err-front.field-0.0) = search rules in
    rw passed (answers-refused (ap (held_items_of rest_numbers) c.in_err-front.ensures))

pub rests-requires : goal.rests-requires
rests-requires c = head-drawn c.in_ok-front.ensures.2 c.in_ok-front.ensures.3 c.head_of.ensures

pub returns : goal.returns
returns c =
    answers-items c.rests.ensures (items-are c.in_ok-front.ensures.2 c.in_ok-front.ensures.3 c.head_of.ensures rest_numbers)
