-- `chain::chain_of` meets its contract: the rule that the judgement or the two numbers give, else the chain of the
-- final clusters in the slots. Assumes nothing.
use Rattle.theory.specs.Prelude.{⊎_elim, List, ℕ, arith}
use Rattle.graph.specs.declared.Head.{Head}
use Rattle.graph.specs.Lent.{graph_in, Drawn}
use Rattle.judge.specs.declared.Found.{Found}
use Rattle.judge.specs.Found.{FoundIn}
use Rattle.graph.specs.Lent.Sheets.{counted}
use Rattle.sheet.specs.Graph.Laws.{first-fault}
use Rattle.chain.specs.Answer.Laws.{FinalsIn, finals-in, over-refused, start-beyond, end-beyond, both_below}
use Rattle.chain.proofs.chain_of.Goals as goal

-- what is found, where it is not over
stands : {h : Head} {near start parts joints slots : List ℕ} {f : Found} (d : Drawn h near start)
    (j : FoundIn (graph_in h start) f parts joints slots)
    → FinalsIn (graph_in h start) d.sound j h.e
stands d j = finals-in _ d.sound j (counted d)

pub returns-in_default : goal.returns-in_default
returns-in_default c =
    let g = graph_in c.args.h c.args.start.now in
    over-refused g c.args.from c.args.to c.args.out.now (first-fault g c.in_default.ensures)

pub returns-then-h-from : goal.returns-then-h-from
returns-then-h-from c =
    let no_fault = (stands c.requires c.in-Ok.ensures).no_fault in
    ⊎_elim (start-beyond _ _ _ _ no_fault) (λ (l, m). end-beyond _ _ _ _ no_fault l m) c.then-h-from.either

pub overflow_add-used : goal.overflow_add-used
overflow_add-used c = omega (arith, (stands c.requires c.in-Ok.ensures).few)

pub slice_bounds-slots-end : goal.slice_bounds-slots-end
slice_bounds-slots-end c = (stands c.requires c.in-Ok.ensures).within

pub slice_bounds-find-end : goal.slice_bounds-find-end
slice_bounds-find-end c = (stands c.requires c.in-Ok.ensures).count

pub find-requires : goal.find-requires
find-requires c =
    let few = c.requires.sound.most in
    let w = stands c.requires c.in-Ok.ensures in
    (omega (arith, w.few, w.count), omega (arith, c.if-h-from.false, few), omega (arith, c.if-h-to.false, few))

pub returns : goal.returns
returns c =
    let w = stands c.requires c.in-Ok.ensures in
    both_below (graph_in c.args.h c.args.start.now) c.args.from c.args.to c.args.out.now w.no_fault c.if-h-from.false c.if-h-to.false
    (rw w.finals at c.find.ensures)
