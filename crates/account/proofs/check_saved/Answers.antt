-- `account::check_saved` meets its contract: 11 of an over graph, else what the check of the plan answers. Assumes nothing.
use Rattle.std.specs.Prelude.{◌≡◌, Err}
use Rattle.theory.specs.Prelude.{rules, arith, sym, ap, ◌∙◌}
use Rattle.theory.specs.Rule.{refusal}
use Rattle.theory.specs.Rule.Laws.{rule-some}
use Rattle.graph.specs.Lent.Sheets.{counted}
use Rattle.judge.specs.Judged.Laws.{starts}
use Rattle.judge.specs.Judged.Short.{more-fault}
use Rattle.account.specs.Saved.Laws.{merged-reached, saved-over, saved-refused, saved-checked}
use Rattle.account.proofs.check_saved.Goals as goal

pub returns-then-h : goal.returns-then-h
returns-then-h c =
    let d = c.requires.drawn in
    saved-over _ _ (sym (more-fault _ d.sound (omega (arith, c.if-h.true, counted d)))) (λ n. omega (arith, n))

pub check_plan-checked-requires : goal.check_plan-checked-requires
check_plan-checked-requires c = record {
  starts = starts c.requires.drawn (omega (arith, c.if-h.false, c.requires.drawn.sound.most));
  lent = c.requires.lent;
}

pub check_over_after-requires : goal.check_over_after-requires
check_over_after-requires c = (c.requires.drawn, merged-reached c.check_plan-checked.ensures.merged)

pub returns-in_err-check_over_after : goal.returns-in_err-check_over_after
returns-in_err-check_over_after c =
    let passed : c.from_residual.result ≡ Err c.in_err-check_over_after.field-0.0 = search rules in
    rw passed (saved-over _ _ c.in_err-check_over_after.ensures (rule-some _))

pub returns-in_err-checked : goal.returns-in_err-checked
returns-in_err-checked c =
    let passed : c.from_residual-in_err-checked.result ≡ Err c.in_err-checked.field-0.0 = search rules in
    rw passed (saved-refused _ _ c.requires.drawn.sound (sym c.in_ok-check_over_after.ensures) c.check_plan-checked.ensures ∙ ap refusal c.in_err-checked.was)

pub returns : goal.returns
returns c =
    saved-checked _ _ c.requires.drawn.sound (sym c.in_ok-check_over_after.ensures) c.check_plan-checked.ensures (ap refusal c.in_ok-checked.was)
