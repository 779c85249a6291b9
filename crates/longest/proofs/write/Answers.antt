-- `longest::write` meets its contract: rule 3 comes first. Assumes nothing.
use Rattle.theory.specs.Prelude.{sym, ◌∙◌}
use Rattle.sheet.specs.Answer.Laws.{answers-refused, answers-items}
use Rattle.sheet.specs.Rules.Laws.{elements-range}
use Rattle.longest.specs.Longest.{longest_field}
use Rattle.longest.proofs.write.Goals as goal

pub returns-then-not-elements_in_range : goal.returns-then-not-elements_in_range
unfolding longest_field
returns-then-not-elements_in_range c = answers-refused (rw (sym c.elements_in_range.ensures ∙ c.if-not-elements_in_range.true))

pub write_strip-requires : goal.write_strip-requires
write_strip-requires c = elements-range _ (sym c.elements_in_range.ensures ∙ c.if-not-elements_in_range.false)

pub returns : goal.returns
unfolding longest_field
returns c = answers-items c.write_strip.ensures (rw (sym c.elements_in_range.ensures ∙ c.if-not-elements_in_range.false))
