-- `engine::joint_kind` meets its contract: the count of lines among the joint's elements decides. Assumes nothing.
use Rattle.std.specs.Prelude.{◌≡◌, ◌≢◌}
use Rattle.theory.specs.Prelude.{refl, sym, ap, ℕ, zero, suc, arith}
use Rattle.theory.specs.Set.{◌∩◌}
use Rattle.theory.specs.Placement.{with_lines, joint_kind}
use Rattle.theory.specs.declared.JointKind.TheVariants.{Lll}
use Rattle.engine.proofs.joint_kind.Goals as goal

-- three lines, if none of the other counts
lines-three : (k : ℕ) → k ≢ 0 → k ≢ 1 → k ≢ 2 → with_lines k ≡ Lll
lines-three zero a b c = absurd (a refl)
lines-three (suc zero) a b c = absurd (b refl)
lines-three (suc (suc zero)) a b c = absurd (c refl)
lines-three (suc (suc (suc k))) a b c = refl

pub returns-in-0 : goal.returns-in-0
unfolding joint_kind ◌∩◌
returns-in-0 c = sym (ap with_lines c.in-0.is)

pub returns-in-1 : goal.returns-in-1
unfolding joint_kind ◌∩◌
returns-in-1 c = sym (ap with_lines c.in-1.is)

pub returns-in-2 : goal.returns-in-2
unfolding joint_kind ◌∩◌
returns-in-2 c = sym (ap with_lines c.in-2.is)

pub returns-in_default : goal.returns-in_default
unfolding joint_kind ◌∩◌
returns-in_default c = sym (lines-three _ (omega arith) (omega arith) (omega arith))
