-- `graph::sheet_of` meets its contract: the first i constraints of the facts stand in a blank block. Assumes nothing.
use Rattle.std.specs.Prelude.{◌<◌, ◌≡◌}
use Rattle.theory.specs.Prelude.{rules, arith, add-one, sym, ap, ◌∙◌, pos, length, take, get_or}
use Rattle.theory.specs.Prelude.{length-take-le, take-suc, take_all}
use mir.Facts.{to_z-of_z}
use mir.Syntax.{w32}
use Rattle.theory.specs.Block.{block}
use Rattle.theory.specs.Block.Laws.{store-block}
use Rattle.sheet.specs.Facts.{blank_constraint, sheet_of}
use Rattle.graph.specs.declared.Head.{Head}
use Rattle.graph.specs.Lent.{code_of}
use Rattle.graph.specs.Lent.Laws.{pair-in-start, code-in-codes, accepted-unpack}
use Rattle.graph.proofs.sheet_of.Goals as goal

pub loop-i-preserved : goal.loop-i-preserved
loop-i-preserved c = λ f near in-arrays.
    let i = c.loop-i.i in
    let cs = f.constraints in
    let m : i < length cs = omega (arith, ap (λ (x : Head). x.e) in-arrays.head_is) in
    let h = in-arrays.arrays in
    let d = blank_constraint in
    let z : code_of (get_or cs i d).size ≡ _ =
    sym (to_z-of_z {w = w32} {z = get_or c.args.codes.now i (pos 0)} (search rules) ∙ code-in-codes h i d m) in
    let got = c.constraint_in.ensures (get_or cs i d) (accepted-unpack f i d in-arrays.accepted m) (pair-in-start h i d m) z in
    rw (c.loop-i.invariant f near in-arrays, got, add-one, take-suc cs i d m)
    (store-block 200 d (take i cs) i _ (sym (length-take-le i cs (omega arith))) (omega (arith, c.requires.1)))

pub elements_of-requires : goal.elements_of-requires
elements_of-requires c = c.requires.0

pub returns : goal.returns
unfolding sheet_of
returns c = λ f near in-arrays.
    let is = in-arrays.head_is in
    let cs = c.loop-i.invariant f near in-arrays
    ∙ ap (block 200 blank_constraint) (take_all c.loop-i.i f.constraints (omega (arith, ap (λ (x : Head). x.e) is))) in
    let elements = c.elements_of.ensures f.elements (sym (ap (λ (x : Head). x.n) is)) in-arrays.kinds_in in
    rw (in-arrays.opening_is, elements, cs, ap (λ (x : Head). x.n) is, ap (λ (x : Head). x.e) is)
