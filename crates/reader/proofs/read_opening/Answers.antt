-- `reader::read_opening` meets its contract: one opening, else the other. Assumes nothing.
use Rattle.theory.specs.Prelude.{sym, ◌∙◌}
use Rattle.sheet.specs.declared.Opening.TheVariants.{Pf01, Pf02}
use Rattle.sheet.specs.Field.{opening_bytes}
use Rattle.sheet.specs.Decode.{opening}
use Rattle.reader.proofs.Opening.{starts-begins}
use Rattle.reader.proofs.read_opening.Goals as goal

pub returns-then-starts_with : goal.returns-then-starts_with
unfolding opening
returns-then-starts_with c = rw (sym (c.if-starts_with.ensures.value ∙ starts-begins (opening_bytes Pf01) c.args.s.now))

pub returns-then-starts_with-2 : goal.returns-then-starts_with-2
unfolding opening
returns-then-starts_with-2 c = rw (
  sym (c.if-starts_with.ensures.value ∙ starts-begins (opening_bytes Pf01) c.args.s.now),
  sym (c.if-starts_with-2.ensures.value ∙ starts-begins (opening_bytes Pf02) c.args.s.now),
)

pub returns : goal.returns
unfolding opening
returns c = rw (
  sym (c.if-starts_with.ensures.value ∙ starts-begins (opening_bytes Pf01) c.args.s.now),
  sym (c.if-starts_with-2.ensures.value ∙ starts-begins (opening_bytes Pf02) c.args.s.now),
)
