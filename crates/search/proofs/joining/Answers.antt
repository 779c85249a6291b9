-- `search::joining` meets its contract: no cluster of the words passed holds both. Assumes nothing.
use Rattle.theory.specs.Prelude.{rules}
use Rattle.search.proofs.Joins.{joins-next, joins-found, joins-none}
use Rattle.search.proofs.joining.Goals as goal

pub returns-then-both-ne0 : goal.returns-then-both-ne0
returns-then-both-ne0 c =
    rw (c.from.ensures, c.lowest.ensures.2) (
    joins-found c.args.hold.now c.args.x c.args.z c.loop-w.w c.loop-w.invariant c.loop-w-test.true (search rules) c.if-both-ne0.true
    )

pub loop-w-preserved : goal.loop-w-preserved
loop-w-preserved c = joins-next c.args.hold.now c.args.x c.args.z c.loop-w.w c.loop-w.invariant c.if-both-ne0.false

pub returns : goal.returns
returns c = joins-none c.args.hold.now c.args.x c.args.z c.loop-w.w c.loop-w.invariant c.loop-w-test.false
