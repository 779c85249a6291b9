-- `steps::plan_steps` meets its contract: 11 of an over sheet, else the steps of its plan. Assumes nothing.
use Rattle.theory.specs.Prelude.{arith, refl, sym, ap, ◌∙◌, List, []}
use Rattle.theory.specs.Merge.{Merge}
use Rattle.theory.specs.Graph.{steps_of}
use Rattle.theory.specs.declared.Rule.TheVariants.{OverSheet}
use Rattle.sheet.specs.Field.{value}
use Rattle.sheet.specs.Answer.Laws.{rule-none, rule-some}
use Rattle.sheet.specs.Graph.Laws.{first-fault, fine-fault}
use Rattle.graph.specs.Lent.{sized_in}
use Rattle.graph.specs.Lent.Sheets.{counted}
use Rattle.account.specs.Account.Laws.{room}
use Rattle.account.specs.Account.Answers.{plan-found}
use Rattle.steps.specs.Records.{plan_steps}
use Rattle.steps.specs.Records.Laws.{listed-are, as-listed, as-refused}
use Rattle.steps.proofs.plan_steps.Goals as goal

pub judge_on-requires : goal.judge_on-requires
judge_on-requires c = (c.requires, record { slots_blank = refl; parts_blank = refl; joints_blank = refl })

pub returns-in_default : goal.returns-in_default
returns-in_default c = as-refused OverSheet (rule-some _ 11 (sym (first-fault _ c.in_default.ensures)) (λ z. omega (arith, z)))

pub steps_of-steps-requires : goal.steps_of-steps-requires
steps_of-steps-requires c =
    let sound = c.requires.sound in
    let found = plan-found _ sound c.in-Ok.ensures in
    let few = room c.args.h c.args.start.now sound (counted c.requires) found.not_over found.merged in
    (few.1, few.3)

pub returns : goal.returns
unfolding plan_steps
returns c =
    let sound = c.requires.sound in
    let found = plan-found _ sound c.in-Ok.ensures in
    as-listed
    (listed-are c.args.h c.args.start.now c.args.sizes.now sound (counted c.requires) found.not_over found.merged c.steps_of-steps.ensures)
    (rule-none _ (fine-fault _ c.in-Ok.ensures.fine) ∙ ap (λ (p : List Merge). value (steps_of (sized_in c.args.h c.args.start.now c.args.sizes.now) p) []) (sym found.plan_is))
