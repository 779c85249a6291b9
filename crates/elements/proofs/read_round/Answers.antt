-- `elements::read_round` meets its contract: rules 2, 4 and 18 of the kinds, then the radii. Assumes nothing.
use Rattle.theory.specs.Prelude.{sym, ◌∙◌, leb-true, leb-false}
use Rattle.elements.specs.Answers.Laws.{round-cut, round-unused, round-unknown, round-known, round_whole}
use Rattle.elements.proofs.read_round.Goals as goal

pub returns-then-not-enough : goal.returns-then-not-enough
returns-then-not-enough c =
    round-cut c.args.s.now c.args.c.at c.args.n c.requires.0 (leb-false _ _ (sym c.if-not-enough.ensures))

pub returns-then-not-round_bits_used : goal.returns-then-not-round_bits_used
returns-then-not-round_bits_used c =
    round-unused c.args.s.now c.args.c.at c.args.n (leb-true _ _ (sym c.if-not-enough.ensures)) (sym c.if-not-round_bits_used.ensures)

pub returns-in_default : goal.returns-in_default
returns-in_default c =
    round-unknown c.args.s.now c.args.c.at c.args.n (leb-true _ _ (sym c.if-not-enough.ensures)) (sym c.if-not-round_bits_used.ensures)
    c.in_default.ensures

pub returns-in_default-end : goal.returns-in_default-end
returns-in_default-end c =
    round-known c.args.s.now c.args.c.at c.args.n (leb-true _ _ (sym c.if-not-enough.ensures)) (sym c.if-not-round_bits_used.ensures)
    c.in-Some.ensures.known
    ∙ (rw c.unwrap_err.ensures at c.read_radii-end.ensures)

pub returns : goal.returns
returns c =
    round_whole c.args.s.now c.args.c.at c.args.n c.in-Ok.after (leb-true _ _ (sym c.if-not-enough.ensures)) (sym c.if-not-round_bits_used.ensures)
    c.in-Some.ensures c.in-Ok.ensures
