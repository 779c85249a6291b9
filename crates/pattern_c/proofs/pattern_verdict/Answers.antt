-- `pattern_c::pattern_verdict`
use Rattle.theory.specs.Prelude.{ap, ◌∙◌}
use Rattle.pattern_c.specs.Numbers.{as_number}
use Rattle.pattern_c.specs.Numbers.Laws.{counted}
use Rattle.pattern_c.proofs.pattern_verdict.Goals as goal

pub returns : goal.returns
returns c = let w = c.verdict_number in
    counted c.count.result _ _ (record { sfits = c.count.type_inv }) c.count.ensures
    (w.ensures ∙ ap as_number c.verdict.ensures)
