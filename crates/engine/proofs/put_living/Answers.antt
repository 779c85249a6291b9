-- `engine::put_living` meets its contract: nothing of a dead cluster, else its set. Assumes nothing.
use Rattle.std.specs.Prelude.{◌≡◌, ◌≢◌, ◌∷◌}
use Rattle.theory.specs.Prelude.{rules, refl, sym, ap, [], ℕ, zero, suc}
use Rattle.space.specs.Space.Laws.{put-none, put_as}
use Rattle.engine.specs.Lists.{living_of}
use Rattle.engine.proofs.put_living.Goals as goal

dead : (x : ℕ) → x ≡ 0 → living_of (x ∷ []) ≡ []
unfolding living_of
dead x e = ap (λ (x : ℕ). living_of (x ∷ [])) e

living : (x : ℕ) → x ≢ 0 → living_of (x ∷ []) ≡ x ∷ []
unfolding living_of
living zero n = absurd (n refl)
living (suc x) n = refl

pub returns-then-x-eq0 : goal.returns-then-x-eq0
returns-then-x-eq0 c = (put_as (sym (dead _ c.if-x-eq0.true)) (put-none _ _), search rules)

pub returns-else-x-eq0 : goal.returns-else-x-eq0
returns-else-x-eq0 c = (put_as (sym (living _ c.if-x-eq0.false)) c.put_item.ensures, search rules)
