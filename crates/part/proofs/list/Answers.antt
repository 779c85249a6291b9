-- `part::list` meets its contract: the lines are put into a block that has room for them, and from there into the lent space. Assumes nothing.
use Rattle.std.specs.Prelude.{◌≡◌, ◌≤◌, Err}
use Rattle.theory.specs.Prelude.{ℕ, List, rules, arith, refl, sym, ap, length, length-take-le}
use Rattle.theory.specs.declared.Step.{Step}
use Rattle.sheet.specs.Field.{Field}
use Rattle.sheet.specs.Answer.Laws.{answers-refused, answers-items}
use Rattle.graph.specs.Lent.{sized_in}
use Rattle.report.specs.Block.Buffered.{buffered}
use Rattle.part.specs.Part.{held_field, lines_field}
use Rattle.part.specs.declared.Tally.{Tally}
use Rattle.part.specs.Measured.{Is}
use Rattle.part.specs.Tallies.{Tallied}
use Rattle.part.specs.Tallies.Answers.{Had, had, not-had}
use Rattle.part.proofs.list.Goals as goal

-- what was measured: its bytes are few, and stand in the block
record Got (x : Field (List Step)) (t : Tally) (space after : List ℕ) : Type 0 where
  has : Had x t
  short : t.bytes ≤ 3534
  long : length after ≡ length space

got : {x : Field (List Step)} {t : Tally} {space after : List ℕ} → Tallied x space (Is t) after → Got x t space after
got {x} k =
    let h = had x k.measured refl in
    record {
      has = h;
      short = omega (arith, k.short h.steps h.rest h.gives, h.bytes_are);
      long = (k.puts h.steps h.rest h.gives).length_is;
    }

pub returns-in_err-tally : goal.returns-in_err-tally
returns-in_err-tally c =
    let passed : c.from_residual.result ≡ Err c.in_err-tally.field-0.0 = search rules in
    rw passed (answers-refused
    (ap lines_field (not-had (held_field (sized_in c.args.h c.args.start.now c.args.sizes.now) c.args.c) c.in_err-tally.ensures.measured refl)))

pub slice_bounds-put_all-end : goal.slice_bounds-put_all-end
slice_bounds-put_all-end c =
    let g = got c.in_ok-tally.ensures in
    sym (length-take-le c.in_ok-tally.tally.bytes c.put_cluster.new.out (omega (arith, g.short)))

pub returns : goal.returns
returns c =
    let g = got c.in_ok-tally.ensures in
    let h = g.has in
    answers-items
    (buffered (omega (arith, g.short)) (rw (← h.bytes_are) at (c.in_ok-tally.ensures.puts h.steps h.rest h.gives))
    c.args.out.now (c.put_all.ensures.answers, c.put_all.ensures.leaves))
    (ap lines_field h.gives)
