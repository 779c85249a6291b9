-- `merges::first_open` meets its contract: what it finds is tested, and by `Finding` it is the first. Assumes nothing.
use Rattle.std.specs.Prelude.{◌/◌, ◌%◌}
use Rattle.theory.specs.Prelude.{sym, ap, ◌∙◌, subst, arith, T}
use Rattle.theory.specs.Merge.{slot, merge}
use Rattle.theory.specs.Merge.Threes.{open_at}
use Rattle.theory.specs.Plan.Laws.{first_is}
use Rattle.theory.specs.Plan.Search.{open-test, test-open}
use Rattle.merges.specs.Search.{hit_of}
use Rattle.merges.proofs.Finding.{none_found, chosen-first, chosen-used}
use Rattle.merges.proofs.first_open.Goals as goal
use Rattle.merges.proofs.first_open.Goals.{else-i-j-via-then-i-j+then-j-k+then-k-used+else-open3, else-i-j-via-then-i-j+then-j-k+else-k-used}
use Rattle.merges.proofs.first_open.Goals.{else-i-j-via-then-i-j+else-j-k, else-i-j-via-else-i-j}

pub returns-in_err-i-clause-first : goal.returns-in_err-i-clause-first
returns-in_err-i-clause-first c ready =
    ap hit_of c.from_residual.ensures ∙ none_found c.requires.0 c.in_err-i.ensures.lowest ready (omega arith)

pub returns-then-open3-clause-tested : goal.returns-then-open3-clause-tested
returns-then-open3-clause-tested c =
    let s = c.args.slots.now in
    let i = c.in_ok-i.field-0.cluster in
    let v = c.best-v.result in
    let o = test-open (slot s i) (slot s (v / 256)) (slot s (v % 256)) (subst T (sym c.if-open3.true ∙ c.open3.ensures) tt) in
    (c.if-i-j.true, c.if-j-k.true, c.if-k-used.true, open_at s (merge i (v / 256) (v % 256)) o)

pub returns-then-open3-clause-first : goal.returns-then-open3-clause-first
returns-then-open3-clause-first c ready =
    let s = c.args.slots.now in
    let i = c.in_ok-i.field-0.cluster in
    let v = c.best-v.result in
    let e = c.in_ok-i.ensures in
    sym (first_is s (merge i (v / 256) (v % 256)) (chosen-first c.requires.0 e.lowest ready e.outs.1 c.best-v.ensures.0))

pub returns-else-i-j-clause-first : goal.returns-else-i-j-clause-first
returns-else-i-j-clause-first c ready =
    let s = c.args.slots.now in
    let i = c.in_ok-i.field-0.cluster in
    let v = c.best-v.result in
    let e = c.in_ok-i.ensures in
    let f = chosen-first c.requires.0 e.lowest ready e.outs.1 c.best-v.ensures.0 in
    elim c.else-i-j.branch [
      | else-i-j-via-then-i-j+then-j-k+then-k-used+else-open3 w ↦ absurd (subst T (sym w.open3.ensures ∙ w.if-open3.false)
          (open-test (slot s i) (slot s (v / 256)) (slot s (v % 256)) f.isopen.open3))
      | else-i-j-via-then-i-j+then-j-k+else-k-used w ↦
          let below = chosen-used c.requires.0 e.lowest ready e.outs.1 c.best-v.ensures.0 in
          absurd (omega (arith, below, w.if-k-used.false))
      | else-i-j-via-then-i-j+else-j-k w ↦ absurd (omega (arith, f.j<k, w.if-j-k.false))
      | else-i-j-via-else-i-j w ↦ absurd (omega (arith, f.i<j, w.if-i-j.false))
    ]
