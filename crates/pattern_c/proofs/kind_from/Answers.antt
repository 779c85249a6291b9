-- `pattern_c::kind_from` meets its contract, by the kind's number. Assumes nothing.
use Rattle.std.specs.Prelude.{◌≡◌}
use Rattle.theory.specs.Prelude.{ℕ, zero, suc, refl, arith}
use Rattle.sheet.specs.declared.Kind.TheVariants.{Circle}
use Rattle.pattern_c.specs.Columns.{kind_from}
use Rattle.pattern_c.proofs.kind_from.Goals as goal

round : (k r : ℕ) → (k ≡ 0 → ⊥) → (k ≡ 1 → ⊥) → Circle r ≡ kind_from k r
round zero r a b = absurd (a refl)
round (suc zero) r a b = absurd (b refl)
round (suc (suc k)) r a b = refl

pub returns-in_default : goal.returns-in_default
returns-in_default c = round c.args.kind c.args.radius (omega arith) (omega arith)
