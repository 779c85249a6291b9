-- `merges::lay` meets its contract: the clusters passed stand in the array. Assumes nothing.
use Rattle.std.specs.Prelude.{◌≡◌, ◌+◌, ◌<◌}
use Rattle.theory.specs.Prelude.{sym, ap, ◌∙◌, List, ℕ, arith, add-one, length, get_or, set, take, length-take}
use Rattle.theory.specs.Prelude.{take-suc}
use Rattle.theory.specs.Block.{block}
use Rattle.theory.specs.Block.Laws.{store-block}
use Rattle.merges.specs.Run.{Start}
use Rattle.merges.proofs.lay.Goals as goal

-- one cluster more
more : {start : List ℕ} {e : ℕ} (slots : List ℕ) (i : ℕ) → Start start e → i < e → slots ≡ block 192 0 (take i start)
    → set slots i (get_or start i 0) ≡ block 192 0 (take (i + 1) start)
more {start} {e} slots i b h are =
    let l : i < length start = omega (arith, b.count, length-take e start) in
    ap (λ (s : List ℕ). set s i (get_or start i 0)) are
    ∙ store-block 192 0 (take i start) i (get_or start i 0) (omega (arith, length-take i start)) (omega (arith, b.few))
    ∙ ap (block 192 0) (sym (ap (λ (n : ℕ). take n start) (add-one i) ∙ take-suc start i 0 l))

pub loop-i-init : goal.loop-i-init
loop-i-init c = c.requires.1

pub loop-i-preserved : goal.loop-i-preserved
loop-i-preserved c = let l = c.loop-i in more l.slots l.i c.requires.0 c.loop-i-test.true l.invariant

pub returns : goal.returns
returns c = let a = c.args in
    let l = c.loop-i in
    let h : l.i ≡ a.e = omega arith in
    l.invariant ∙ ap (λ (n : ℕ). block 192 0 (take n a.start.now)) h
