-- `sheet::elements_of` meets its contract: the elements before i stand in a blank block. Assumes nothing.
use Rattle.theory.specs.Prelude.{arith, add-one, sym, ap, ◌∙◌, take, length-take-le, take-suc, take_all}
use Rattle.theory.specs.Block.{block}
use Rattle.theory.specs.Block.Laws.{store-block}
use Rattle.sheet.specs.Facts.{blank_element}
use Rattle.sheet.specs.Facts.Laws.{kind-in}
use Rattle.sheet.proofs.elements_of.Goals as goal

pub loop-i-preserved : goal.loop-i-preserved
loop-i-preserved c = λ es l ks.
    let i = c.loop-i.i in
    rw (c.loop-i.invariant es l ks, c.kind_at.ensures, kind-in ks i, add-one, take-suc es i blank_element (omega arith))
    (store-block 64 blank_element (take i es) i _ (sym (length-take-le i es (omega arith))) (omega arith))

pub returns : goal.returns
returns c = λ es l ks. c.loop-i.invariant es l ks ∙ ap (block 64 blank_element) (take_all c.loop-i.i es (omega arith))
