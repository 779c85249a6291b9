-- `report::put_clusters` meets its contract: the lines of the clusters from `c` on are still to be put. Assumes nothing.
use Rattle.std.specs.Prelude.{◌+◌, ◌*◌, ◌^◌, ◌≤◌, ◌<◌, ◌≡◌, ◌++◌}
use Rattle.theory.specs.Prelude.{ℕ, arith, sym, ap, ◌∙◌, List, length, take, drop, get_or}
use Rattle.report.specs.Report.{slot_line, cluster_lines}
use Rattle.report.specs.Pieces.{wide}
use Rattle.report.specs.Report.Laws.{clusters-next, clusters-none, length-wide, wide_at}
use Rattle.report.proofs.Standing.{stands}
use Rattle.report.specs.Going.Laws.{start, put_next, put_last, place}
use Rattle.report.proofs.put_clusters.Goals as goal

-- one cluster after another
next-line : (slots low high : List ℕ) (m c : ℕ) → length slots ≡ 192 → length low ≡ 192 → length high ≡ 192 → m ≤ 192 → c < m
    → cluster_lines c (drop c (take m slots)) (drop c (take m (wide low high)))
    ≡ slot_line c (get_or slots c 0) (get_or high c 0 * 2 ^ 64 + get_or low c 0)
    ++ cluster_lines (c + 1) (drop (c + 1) (take m slots)) (drop (c + 1) (take m (wide low high)))
next-line slots low high m c ls ll lh few h =
    let same : length low ≡ length high = ll ∙ sym lh in
    clusters-next slots (wide low high) m c (omega arith) (omega (arith, length-wide low high same)) h
    ∙ ap (λ (r : ℕ). slot_line c (get_or slots c 0) r ++ cluster_lines (c + 1) (drop (c + 1) (take m slots)) (drop (c + 1) (take m (wide low high))))
    (wide_at low high c same)

pub loop-c-init : goal.loop-c-init
loop-c-init c = start _

pub put_slot_line-next-requires : goal.put_slot_line-next-requires
put_slot_line-next-requires c = (c.requires.0, omega arith, omega (arith, place stands c.loop-c.invariant, c.requires.5))

pub loop-c-preserved : goal.loop-c-preserved
loop-c-preserved c = let a = c.args in
    let r = c.requires in
    let l = c.loop-c in
    put_next stands (next-line a.slots.now a.low.now a.high.now a.used l.c r.2 r.3 r.4 r.1 c.loop-c-test.true) l.invariant
    c.put_slot_line-next.ensures

pub returns : goal.returns
returns c = let a = c.args in
    put_last stands (clusters-none a.slots.now (wide a.low.now a.high.now) a.used c.loop-c.c c.loop-c-test.false)
    c.loop-c.invariant
