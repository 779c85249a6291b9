-- `reader::read_front` meets its contract: the fields before the constraints, one after another. Assumes nothing.
use Rattle.theory.specs.Prelude.{arith, sym}
use Rattle.sheet.specs.Rules.Laws.{elements-range, constraints-most}
use Rattle.sheet.specs.Decode.{read_sheet}
use Rattle.reader.proofs.Sheets.{count-out, elements-cut, listed-cut, listed-out, front-read}
use Rattle.reader.proofs.read_front.Goals as goal

pub returns-in_default : goal.returns-in_default
unfolding read_sheet
returns-in_default c = rw (← c.read_opening-first.ensures, c.unwrap_err.ensures)

pub returns-in_default-count : goal.returns-in_default-count
unfolding read_sheet
returns-in_default-count c = rw (← c.in-Ok.ensures, ← c.read_byte-count.ensures, c.unwrap_err-in_default-count.ensures)

pub returns-then-not-elements_in_range : goal.returns-then-not-elements_in_range
returns-then-not-elements_in_range c =
    count-out c.args.s.now c.in-Ok.ensures c.in-Ok-count.ensures c.from-n.ensures c.if-not-elements_in_range.ensures

pub read_elements-got-requires : goal.read_elements-got-requires
read_elements-got-requires c = let h = elements-range _ (sym c.if-not-elements_in_range.ensures) in (omega (arith, h), h.1)

pub returns-in_default-got : goal.returns-in_default-got
returns-in_default-got c =
    elements-cut c.args.s.now c.in-Ok.ensures c.in-Ok-count.ensures c.from-n.ensures c.if-not-elements_in_range.ensures
    (rw c.unwrap_err-in_default-got.ensures at c.read_elements-got.ensures)

pub returns-in_default-listed : goal.returns-in_default-listed
returns-in_default-listed c =
    listed-cut c.args.s.now c.in-Ok.ensures c.in-Ok-count.ensures c.from-n.ensures c.if-not-elements_in_range.ensures c.in-Ok-got.ensures.1
    (sym (rw c.unwrap_err-in_default-listed.ensures at c.read_byte-listed.ensures))

pub returns-then-not-constraints_in_range : goal.returns-then-not-constraints_in_range
returns-then-not-constraints_in_range c =
    listed-out c.args.s.now c.in-Ok.ensures c.in-Ok-count.ensures c.from-n.ensures c.if-not-elements_in_range.ensures c.in-Ok-got.ensures.1
    c.in-Ok-listed.ensures c.from-e.ensures c.if-not-constraints_in_range.ensures

pub returns : goal.returns
returns c = record {
  elements = c.in-Ok-got.ensures.0;
  rest =
      front-read c.args.s.now c.in-Ok.ensures c.in-Ok-count.ensures c.from-n.ensures c.if-not-elements_in_range.ensures c.in-Ok-got.ensures.1
      c.in-Ok-listed.ensures c.from-e.ensures c.if-not-constraints_in_range.ensures;
  count = c.in-Ok-got.ensures.2;
  kinds_in = c.in-Ok-got.ensures.3;
  most = (elements-range _ (sym c.if-not-elements_in_range.ensures)).1;
  few = constraints-most _ (sym c.if-not-constraints_in_range.ensures);
}
