-- `records::write` meets its contract: the sheet after two bytes, and then its length in them. Assumes nothing.
use Rattle.std.specs.Prelude.{◌≡◌, Err}
use Rattle.theory.specs.Prelude.{arith, rules, refl, ap, length}
use Rattle.theory.specs.Rule.{rule_number, by_number}
use Rattle.space.specs.Space.Laws.{put_refused}
use Rattle.sheet.specs.Facts.{facts_of}
use Rattle.records.specs.Record.{record_bytes}
use Rattle.records.specs.Record.Laws.{record-length, record-refused, record-done, record-counted}
use Rattle.records.proofs.write.Goals as goal

pub returns-then-out-lt2 : goal.returns-then-out-lt2
returns-then-out-lt2 c =
    let f = facts_of c.args.s in put_refused (record_bytes f) c.args.out.now (omega (arith, c.if-out-lt2.true, record-length f))

pub returns-in_err-length : goal.returns-in_err-length
returns-in_err-length c =
    let a = c.args in
    let passed : by_number c.from_residual.result ≡ Err (rule_number c.in_err-length.field-0.0) = search rules in
    rw passed (record-refused (facts_of a.s) a.out.now c.if-out-lt2.false c.in_err-length.ensures refl)

pub overflow_cast-length : goal.overflow_cast-length
overflow_cast-length c = omega (arith, record-counted c.args.s c.requires c.args.out.now c.in_ok-length.ensures refl)

pub overflow_add-result : goal.overflow_add-result
overflow_add-result c =
    omega (
      arith,
      record-counted c.args.s c.requires c.args.out.now c.in_ok-length.ensures refl,
      c.put_text-front.ensures.next_is,
      ap length c.to_le_bytes.ensures,
    )

pub returns : goal.returns
returns c =
    let a = c.args in
    record-done (facts_of a.s) a.out.now c.if-out-lt2.false c.in_ok-length.ensures refl c.to_le_bytes.ensures c.put_text-front.ensures
