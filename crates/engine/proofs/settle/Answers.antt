-- `engine::settle` meets its contract: the names are tried in the paper's order. Assumes nothing.
use Rattle.std.specs.Prelude.{◌≡◌, ◌+◌}
use Rattle.theory.specs.Prelude.{sym, ap, ◌∙◌, ℕ, take, eqb, eq-eqb, ne_eqb, List}
use Rattle.theory.specs.Merge.{left}
use Rattle.theory.specs.Ring.{ringed}
use Rattle.theory.specs.Verdict.{judged, angled, angle_bound}
use Rattle.merges.specs.Run.Laws.{one_left}
use Rattle.engine.proofs.settle.Goals as goal
use Rattle.engine.proofs.settle.Goals.{then-angled, else-angled, Joined-angled}

bound : (c : Joined-angled) → (finals : List ℕ) → take (c.args.e + c.args.steps) c.args.slots.now ≡ finals
    → angle_bound c.args.lines (take c.args.steps c.args.joints.now) finals ≡ c.if-angled.value
unfolding angled
bound c finals are = elim c.if-angled.branch [
  | then-angled w ↦ simp (sym c.angled.ensures ∙ w.if-angled.true) (sym w.if-angled.true ∙ sym w.value-is)
  | else-angled w ↦
      let turn : ringed c.args.lines finals ≡ w.ringed.result = sym (w.ringed.ensures ∙ ap (ringed c.args.lines) are) in
      simp (sym c.angled.ensures ∙ w.if-angled.false, turn) (sym w.value-is)
]

pub returns-then-ringed : goal.returns-then-ringed
unfolding judged angled
returns-then-ringed c finals are left_is = simp (bound (goal.at.returns-then-ringed c).Joined-angled finals are ∙ c.if-ringed.true)

pub returns-then-e-n : goal.returns-then-e-n
unfolding judged angled
returns-then-e-n c finals are left_is =
    simp (bound (goal.at.returns-then-e-n c).Joined-angled finals are ∙ c.if-ringed.false, ne_eqb _ _ c.if-e-n.true)

pub returns-then-one_left : goal.returns-then-one_left
unfolding judged angled
returns-then-one_left c finals are left_is =
    let no-angle = bound (goal.at.returns-then-one_left c).Joined-angled finals are ∙ c.if-ringed.false in
    let one : eqb (left finals) 1 ≡ c.one_left.result = sym (c.one_left.ensures ∙ one_left _ _ finals left_is) in
    simp (no-angle, eq-eqb _ _ c.if-e-n.false, one ∙ c.if-one_left.true)

pub returns-else-one_left : goal.returns-else-one_left
unfolding judged angled
returns-else-one_left c finals are left_is =
    let no-angle = bound (goal.at.returns-else-one_left c).Joined-angled finals are ∙ c.if-ringed.false in
    let one : eqb (left finals) 1 ≡ c.one_left.result = sym (c.one_left.ensures ∙ one_left _ _ finals left_is) in
    simp (no-angle, eq-eqb _ _ c.if-e-n.false, one ∙ c.if-one_left.false)
