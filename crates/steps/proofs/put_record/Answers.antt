-- `steps::put_record` meets its contract: seven numbers, one after another. Assumes nothing.
use Rattle.std.specs.Prelude.{◌∷◌}
use Rattle.theory.specs.Prelude.{ℕ, ap, []}
use Rattle.space.specs.Space.Laws.{put_as, ◌then◌}
use Rattle.steps.proofs.put_record.Goals as goal

pub returns : goal.returns
returns c =
    c.put_item-a1.ensures then (c.put_item-a2.ensures then (c.put_item-a3.ensures then (c.put_item-a4.ensures
    then (c.put_item-a5.ensures then (put_as (ap (λ (x : ℕ). x ∷ []) c.kind_number.ensures) c.put_item-a6.ensures
    then put_as (ap (λ (x : ℕ). x ∷ []) c.ways_number.ensures) c.put_item.ensures)))))
