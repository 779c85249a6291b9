-- `drop_pair` meets its contract. Assumes nothing.
use Rattle.peeling.specs.Hard.Laws.{two_pos, drop-first, drop-second, left-dropped, left-shrunk}
use Rattle.peeling.proofs.drop_pair.Goals as goal

pub lowest-a-requires : goal.lowest-a-requires
lowest-a-requires c = two_pos c.args.pair c.requires.0

pub overflow_sub-near : goal.overflow_sub-near
overflow_sub-near c = let a = c.lowest-a.ensures in
    drop-first c.requires.0 c.requires.2 (a.0, a.1) c.other_end-b.ensures c.from.ensures c.single.ensures

pub overflow_sub-near-2 : goal.overflow_sub-near-2
overflow_sub-near-2 c = let a = c.lowest-a.ensures in
    drop-second c.requires.0 c.requires.2 (a.0, a.1) c.other_end-b.ensures c.from.ensures c.single.ensures c.from-2.ensures c.single-2.ensures

pub returns : goal.returns
returns c = λ cs simple k lk is w.
    let a = c.lowest-a.ensures in
    left-shrunk
    (left-dropped c.requires.0 c.requires.2 (a.0, a.1) c.other_end-b.ensures c.from.ensures c.single.ensures
    c.from-2.ensures c.single-2.ensures cs simple k lk is w)
    c.peel.ensures.0
