-- `sketch::unless_over` meets its contract: the verdict says whether the graph is over. Assumes nothing.
use Rattle.std.specs.Prelude.{◌≡◌}
use Rattle.theory.specs.Prelude.{rules, sym, ◌∙◌}
use Rattle.theory.specs.declared.Verdict.TheVariants.{Over}
use Rattle.sketch.specs.Placing.Laws.{over-fault, no-over-fault}
use Rattle.sketch.proofs.unless_over.Goals as goal

pub returns-then-eq : goal.returns-then-eq
returns-then-eq c =
    let over : c.verdict_of.result ≡ Over = search rules in
    rw (over-fault _ (sym c.verdict_of.ensures ∙ over))

pub returns-else-eq : goal.returns-else-eq
returns-else-eq c = rw (no-over-fault _ (λ v. let h = rw (c.verdict_of.ensures ∙ v) at c.if-eq.ensures in cc h))
