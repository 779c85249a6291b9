-- `records::read` meets its contract: the count in the first two bytes, and the sheet of so many that follow. Assumes nothing.
use Rattle.std.specs.Prelude.{◌+◌, ◌-◌, ◌≤◌, ◌≡◌}
use Rattle.theory.specs.Prelude.{ℕ, arith, sym, ap, ◌∙◌, List, length, take, drop}
use Rattle.sheet.specs.Decode.{read_sheet}
use Rattle.records.specs.Record.{as27, record_sheet}
use Rattle.records.specs.Record.Laws.{told, record-short, record-cut, record-whole, read-as27}
use Rattle.records.proofs.read.Goals as goal

-- the bytes that follow
whole : (lent : List ℕ) (n : ℕ) → n ≡ told lent → 2 ≤ length lent → 2 + n ≤ length lent
    → record_sheet lent ≡ as27 (read_sheet (take (2 + n - 2) (drop 2 lent)))
whole lent n e two l =
    let m : 2 + n - 2 ≡ told lent = omega (arith, e) in
    record-whole lent two (omega (arith, e)) ∙ ap (λ (k : ℕ). as27 (read_sheet (take k (drop 2 lent)))) (sym m)

pub returns-then-lent-lt2 : goal.returns-then-lent-lt2
returns-then-lent-lt2 c = record-short _ c.if-lent-lt2.true

pub returns-then-lent-end : goal.returns-then-lent-end
returns-then-lent-end c =
    record-cut _ c.if-lent-lt2.false (omega (arith, c.if-lent-end.true, c.from-end.ensures, c.from_le_bytes.ensures))

pub returns : goal.returns
returns c =
    let same = whole c.args.lent.now c.from-end.result (omega (arith, c.from-end.ensures, c.from_le_bytes.ensures)) c.if-lent-lt2.false c.if-lent-end.false in
    rw (c.or.ensures, same) (read-as27 _ _ _ _ _ c.read_codes.result c.read_codes.ensures)
