-- `steps::put_records` meets its contract: the numbers of the records to come are still to be put. Assumes nothing.
use Rattle.theory.specs.Prelude.{arith, refl, take, length-take, sets}
use Rattle.space.specs.Space.{Put}
use Rattle.space.specs.Space.Laws.{put-none, put_all, ◌then◌}
use Rattle.report.specs.Going.{Composes}
use Rattle.report.specs.Going.Laws.{start, put_next, put_last, place}
use Rattle.steps.specs.Records.Laws.{length-numbers, numbers-next, numbers-none}
use Rattle.steps.proofs.put_records.Goals as goal

-- numbers put into lent space one after another are put together
puts : Composes Put
puts = record { none = put-none; both = λ p q. p then q; some = λ space at xs. (sets space at xs, put_all refl refl); next = λ p. p.next_is }

pub loop-s-init : goal.loop-s-init
loop-s-init c = start _

pub put_record-next-requires : goal.put_record-next-requires
put_record-next-requires c =
    let records = take c.args.count c.args.f.list in
    omega (arith, place puts c.loop-s.invariant, length-numbers records, length-take c.args.count c.args.f.list, c.requires)

pub loop-s-preserved : goal.loop-s-preserved
loop-s-preserved c =
    put_next puts (numbers-next (take c.args.count c.args.f.list) c.loop-s.s-index _ c.loop-s-test.true) c.loop-s.invariant c.put_record-next.ensures

pub returns : goal.returns
returns c = put_last puts (numbers-none (take c.args.count c.args.f.list) c.loop-s.s-index c.loop-s-test.false) c.loop-s.invariant
