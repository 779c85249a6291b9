-- `chain::around` meets its contract: the clusters that are left add what is missing. Assumes nothing.
use Rattle.std.specs.Prelude.{◌+◌}
use Rattle.theory.specs.Prelude.{sym, ap, ◌∙◌, drop}
use Rattle.theory.specs.Prelude.{drop_of_length-le}
use Rattle.theory.specs.Set.{◌∪◌}
use Rattle.chain.specs.Layers.{grown}
use Rattle.chain.specs.Layers.Laws.{word-shares, word-apart, grown-yes, grown-no}
use Rattle.chain.proofs.around.Goals as goal
use Rattle.chain.proofs.around.Goals.{else-shared-ne0, then-shared-ne0}

pub loop-c-preserved : goal.loop-c-preserved
unfolding ◌∪◌
loop-c-preserved c = let s = c.args.s.now in
    let l = c.loop-c in
    let e = c.shared.ensures in
    elim c.if-shared-ne0.branch [
      | then-shared-ne0 w ↦ ap (grown (drop (l.c-index + 1) s) c.args.d) w.all-is
          ∙ sym (grown-yes s c.args.d l.all l.c-index c.loop-c-test.true (word-shares e w.if-shared-ne0.true)) ∙ l.invariant
      | else-shared-ne0 w ↦ ap (grown (drop (l.c-index + 1) s) c.args.d) w.all-is
          ∙ sym (grown-no s c.args.d l.all l.c-index c.loop-c-test.true (word-apart e w.if-shared-ne0.false)) ∙ l.invariant
    ]

pub returns : goal.returns
unfolding grown
returns c = let l = c.loop-c in
    sym (ap (λ x. grown x c.args.d l.all) (drop_of_length-le c.args.s.now {i = l.c-index} c.loop-c-test.false)) ∙ l.invariant
