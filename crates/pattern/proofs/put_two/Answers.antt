-- `pattern::put_two`
use Rattle.std.specs.Prelude.{◌∷◌}
use Rattle.theory.specs.Prelude.{lt-ltb, refl, []}
use Rattle.space.specs.Space.{answer, after}
use Rattle.pattern.specs.Entries.Reading.{stored-items}
use Rattle.pattern.proofs.put_two.Goals as goal

pub returns-then-out-lt2 : goal.returns-then-out-lt2
unfolding answer after
returns-then-out-lt2 c = rw (lt-ltb _ _ c.if-out-lt2.true) (refl, refl)

pub returns : goal.returns
returns c = let a = c.args in
    stored-items a.out.now (a.a ∷ a.b ∷ []) c.if-out-lt2.false
