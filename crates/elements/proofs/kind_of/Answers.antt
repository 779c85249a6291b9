-- `elements::kind_of` meets its contract: the element's byte is one of the number's. Assumes nothing.
use Rattle.theory.specs.Prelude.{sym, ◌∙◌}
use Rattle.elements.specs.Round.Laws.{round-kind}
use Rattle.elements.proofs.kind_of.Goals as goal

pub returns : goal.returns
returns c = let a = c.args in
    λ n l room.
    c.kind_in.ensures ∙ sym (round-kind a.s.now (record { each = λ i. (c.type_inv.s i).fits }) a.at n a.i l)
