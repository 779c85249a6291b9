-- `elements::read_sets` meets its contract: the sets of the kinds from i on; the numbers stay below 2 ^ 64. Assumes nothing.
use Rattle.std.specs.Prelude.{◌*◌, ◌+◌, ◌-◌, ◌^◌, ◌<◌, ◌≤◌, ◌≡◌}
use Rattle.theory.specs.Prelude.{ℕ, arith, eqb, List, drop, drop_of_length-le}
use Rattle.elements.specs.Round.{round_kinds, places_of}
use Rattle.elements.specs.Round.Laws.{kinds-length, sets-none, sets_more, kind-before, from_bool-le, places-small, unknown-at}
use Rattle.elements.proofs.read_sets.Goals as goal

-- the kinds from i on as a set have room for one more
room : (j : ℕ) (s : List ℕ) (at n i : ℕ) → n ≤ 64 → 0 < i → i ≤ n → 2 * places_of j (drop i (round_kinds s at n)) + 1 < 2 ^ 64
room j s at n i = places-small j (round_kinds s at n) n i (kinds-length s at n)

pub loop-i-init : goal.loop-i-init
loop-i-init c =
    let a = c.args in
    rw (drop_of_length-le (round_kinds a.s.now a.at a.n) {i = a.n} (omega (arith, kinds-length a.s.now a.at a.n))) sets-none

pub returns-then-k-ge3 : goal.returns-then-k-ge3
returns-then-k-ge3 c =
    let h : c.loop-i.i - 1 < c.args.n = omega arith in
    unknown-at (round_kinds c.args.s.now c.args.at c.args.n) (c.loop-i.i - 1) (rw kinds-length h)
    (rw (← c.kind_of-k.ensures c.args.n h c.requires.1) c.if-k-ge3.true)

pub overflow_mul-lines : goal.overflow_mul-lines
overflow_mul-lines c =
    omega (arith, room 1 c.args.s.now c.args.at c.args.n c.loop-i.i c.requires.0 c.loop-i-test.true c.loop-i.auto.i, c.loop-i.invariant.lines_are)

pub overflow_add-lines : goal.overflow_add-lines
overflow_add-lines c =
    omega (
      arith,
      room 1 c.args.s.now c.args.at c.args.n c.loop-i.i c.requires.0 c.loop-i-test.true c.loop-i.auto.i,
      c.loop-i.invariant.lines_are,
      from_bool-le (eqb c.kind_of-k.result 1),
    )

pub overflow_mul-circles : goal.overflow_mul-circles
overflow_mul-circles c =
    omega (arith, room 2 c.args.s.now c.args.at c.args.n c.loop-i.i c.requires.0 c.loop-i-test.true c.loop-i.auto.i, c.loop-i.invariant.circles_are)

pub overflow_add-circles : goal.overflow_add-circles
overflow_add-circles c =
    omega (
      arith,
      room 2 c.args.s.now c.args.at c.args.n c.loop-i.i c.requires.0 c.loop-i-test.true c.loop-i.auto.i,
      c.loop-i.invariant.circles_are,
      from_bool-le (eqb c.kind_of-k.result 2),
    )

pub loop-i-preserved : goal.loop-i-preserved
loop-i-preserved c =
    let h : c.loop-i.i - 1 < c.args.n = omega arith in
    rw (
      kind-before (round_kinds c.args.s.now c.args.at c.args.n) c.args.n c.loop-i.i (kinds-length c.args.s.now c.args.at c.args.n)
          c.loop-i-test.true c.loop-i.auto.i,
      ← c.kind_of-k.ensures c.args.n h c.requires.1,
      c.from.ensures,
      c.from-in-loop-i.ensures,
    ) (sets_more c.kind_of-k.result c.if-k-ge3.false c.loop-i.invariant)

pub returns : goal.returns
returns c = let z : c.loop-i.i ≡ 0 = omega arith in rw z at c.loop-i.invariant
