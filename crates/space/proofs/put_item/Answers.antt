-- `space::put_item` meets its contract: a place past the end takes no item. Assumes nothing.
use mathlib.Core.Path.{sym, ◌∙◌}
use lib.Seq.{set_out}
use Rattle.space.specs.Space.Laws.{put_one}
use Rattle.space.proofs.put_item.Goals as goal
use Rattle.space.proofs.put_item.Goals.{else-at-out, then-at-out}

pub returns : goal.returns
returns g c = put_one (elim c.if-at-out.branch [ then-at-out w ↦ cc | else-at-out w ↦ w.out-is ∙ sym (set_out _ _ _ w.if-at-out.false) ])
