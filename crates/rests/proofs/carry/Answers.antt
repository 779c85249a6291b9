-- `rests::carry` meets its contract: after each step the words are those of the clusters that live then. Assumes nothing.
use Rattle.std.specs.Prelude.{◌≡◌, ◌+◌, ◌*◌, ◌≤◌, ◌<◌}
use Rattle.theory.specs.Prelude.{sym, ◌∙◌, subst, List, ℕ, arith, get_or, set, take}
use Rattle.theory.specs.Set.{◌∪◌}
use Rattle.rests.specs.Words.{Listed, Told}
use Rattle.rests.specs.Words.Laws.{alone-low, alone-high, below, told-start, told-next, told-end}
use Rattle.rests.proofs.carry.Goals as goal

-- one step more
module _ {e steps t i j k : ℕ} {parts : List ℕ} (h : t < steps) (ei : i ≡ get_or parts (3 * t) 0) (ej : j ≡ get_or parts (3 * t + 1) 0)
    (ek : k ≡ get_or parts (3 * t + 2) 0) where
  in_use : e ≤ 125 → steps ≤ 62 → Listed e parts steps → (e + t < 192) × (i < 192) × (j < 192) × (k < 192)
  in_use few short l = let b = below l t h in (omega arith, omega (arith, b.0), omega (arith, b.1), omega (arith, b.2))

  joined : (w : ℕ) {words next : List ℕ} → e + t < 192 → next ≡ set words (e + t) (get_or words i 0 ∪ get_or words j 0 ∪ get_or words k 0)
      → (l : Listed e parts steps) → Told w l.cs (take t l.p) words → Told w l.cs (take (t + 1) l.p) next
  joined w {words} room are l told =
      subst (Told w l.cs (take (t + 1) l.p))
      (sym (are ∙ (λ z. set words (e + t) (get_or words (ei z) 0 ∪ get_or words (ej z) 0 ∪ get_or words (ek z) 0))))
      (told-next l t h w words room told)

pub loop-t-init : goal.loop-t-init
loop-t-init c l =
    let low = c.note_alone.ensures in
    let high = c.note_alone-2.ensures in (
      told-start l 0 _ low.long (λ n h. alone-low _ low n),
      told-start l 1 _ high.long (alone-high _ c.args.e (omega (arith, c.requires.0)) high),
    )

pub join-requires : goal.join-requires
join-requires c = in_use c.loop-t-test.true c.from-i.ensures c.from-j.ensures c.from-k.ensures c.requires.0 c.requires.1 c.requires.2

pub join-requires-in-loop-t : goal.join-requires-in-loop-t
join-requires-in-loop-t c = in_use c.loop-t-test.true c.from-i.ensures c.from-j.ensures c.from-k.ensures c.requires.0 c.requires.1 c.requires.2

pub loop-t-preserved : goal.loop-t-preserved
loop-t-preserved c l =
    let u = in_use c.loop-t-test.true c.from-i.ensures c.from-j.ensures c.from-k.ensures c.requires.0 c.requires.1 l in
    let told = c.loop-t.invariant l in (
      joined c.loop-t-test.true c.from-i.ensures c.from-j.ensures c.from-k.ensures 0 u.0 c.join.ensures l told.0,
      joined c.loop-t-test.true c.from-i.ensures c.from-j.ensures c.from-k.ensures 1 u.0 c.join-in-loop-t.ensures l told.1,
    )

pub returns : goal.returns
returns c l =
    let all : c.loop-t.t ≡ c.args.steps = omega (arith, c.loop-t.auto.t-end, c.loop-t-test.false) in
    let told = c.loop-t.invariant l in
    (told-end l 0 c.loop-t.t c.loop-t.low all told.0, told-end l 1 c.loop-t.t c.loop-t.high all told.1)
