-- `sheet::check_constraints` meets its contract. The loop's invariant: the constraints before the one at hand are noted, and the faults from it on
-- are those of the whole list. Assumes nothing.
use Rattle.std.specs.Prelude.{◌<◌, ◌≤◌, ◌≡◌}
use Rattle.theory.specs.Prelude.{rules, arith, add-one, refl, sym, ◌∙◌, List, length, take, take-suc}
use Rattle.theory.specs.Prelude.{pos}
use Rattle.theory.specs.Rule.{refusal, rule_number}
use Rattle.theory.specs.Rule.Laws.{rule-some}
use Rattle.sheet.specs.declared.Element.{Element}
use Rattle.sheet.specs.declared.Size.TheVariants.{Given}
use Rattle.sheet.specs.declared.Constraint.{Constraint}
use Rattle.sheet.specs.Rules.{ends_ascend, constraint_fault}
use Rattle.sheet.specs.Rules.Laws.{ends-true, unless-none, or_else_some, faults-turn, faults-spent}
use Rattle.sheet.specs.Noted.Laws.{noted-none}
use Rattle.sheet.proofs.check_constraints.Goals as goal

-- what the code reads past the end of a block
abbrev zeros : Constraint
zeros = record { first = 0; second = 0; size = Given (pos 0) }

-- the ends of one that has no fault ascend, below 64
below : (es : List Element) (cs : List Constraint) (c : Constraint) → length es ≤ 64 → constraint_fault es cs c ≡ 0
    → (c.first < c.second) × (c.second < 64)
unfolding constraint_fault
below es cs c few e =
    let h = ends-true _ _ _ (unless-none (ends_ascend (length es) c.first c.second) 5 _ e).0 in (h.0, omega (arith, h))

pub loop-c-init : goal.loop-c-init
loop-c-init c = (noted-none, λ es p q. refl)

pub returns-in_err-check_constraint : goal.returns-in_err-check_constraint
returns-in_err-check_constraint c = λ es p q.
    let a = c.loop-c in
    let passed : refusal c.from_residual.result ≡ rule_number c.in_err-check_constraint.field-0.0 = search rules in
    passed ∙ sym (a.invariant.1 es p q ∙ faults-turn es _ _ zeros c.loop-c-test.true
    ∙ rw (← c.in_err-check_constraint.ensures es _ p q a.invariant.0) (or_else_some _ _ (rule-some _)))

pub note_pair-requires : goal.note_pair-requires
note_pair-requires c =
    let k = c.requires.1 in
    below k.0 (take c.loop-c.c-index c.args.cs.now) _ (omega (arith, c.requires.0, k.1))
    (sym (c.in_ok-check_constraint.ensures k.0 _ k.1 k.2 c.loop-c.invariant.0))

pub loop-c-preserved : goal.loop-c-preserved
loop-c-preserved c =
    let a = c.loop-c in
    let cs = c.args.cs.now in (
      rw (add-one, take-suc cs a.c-index zeros c.loop-c-test.true) (c.note_pair.ensures (take a.c-index cs) _ refl refl a.invariant.0),
      λ es p q. a.invariant.1 es p q ∙ faults-turn es cs a.c-index zeros c.loop-c-test.true
          ∙ rw (← c.in_ok-check_constraint.ensures es _ p q a.invariant.0),
    )

pub returns : goal.returns
returns c = λ es p q. sym (c.loop-c.invariant.1 es p q ∙ faults-spent es _ _ _ c.loop-c-test.false)
