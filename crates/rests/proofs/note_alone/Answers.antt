-- `rests::note_alone` meets its contract: the words of the numbers passed stand. Assumes nothing.
use Rattle.std.specs.Prelude.{◌≡◌, ◌+◌, ◌-◌, ◌^◌, ◌≤◌, ◌<◌}
use Rattle.theory.specs.Prelude.{refl, sym, ap, ◌∙◌, List, ℕ, arith, ℕ_discrete, get_or, set, length-set}
use Rattle.theory.specs.Prelude.{get_or-set_same, get_or-set_other}
use Rattle.theory.specs.Block.Laws.{get_or-blank}
use Rattle.rests.specs.Words.{Alone}
use Rattle.rests.proofs.note_alone.Goals as goal

-- one word more
module _ {first last i v : ℕ} {words : List ℕ} (h : first ≤ i) (l : i < last) (room : last ≤ 192)
    (is : v ≡ 2 ^ (i - first)) (a : Alone first last i words) where
  stored : (n : ℕ) → first ≤ n → n < i + 1 → n < last → Dec (n ≡ i) → get_or (set words i v) n 0 ≡ 2 ^ (n - first)
  stored n f k m (yes e) =
      ap (λ (x : ℕ). get_or (set words i v) x 0) e ∙ get_or-set_same words i v 0 (omega (arith, a.long)) ∙ is
      ∙ ap (λ (x : ℕ). 2 ^ (x - first)) (sym e)
  stored n f k m (no e) = get_or-set_other words i n v 0 e ∙ a.each n f (omega arith) m

  one_more : Alone first last (i + 1) (set words i v)
  one_more = record {
    long = length-set words i v ∙ a.long;
    each = λ n f k m. stored n f k m (ℕ_discrete n i);
    less = λ n k. get_or-set_other words i n v 0 (λ e. omega arith) ∙ a.less n k;
    more = λ n k. get_or-set_other words i n v 0 (λ e. omega arith) ∙ a.more n k;
  }

pub loop-i-init : goal.loop-i-init
loop-i-init c = rw c.requires.2 (record {
  long = refl;
  each = λ n f k m. absurd (omega arith);
  less = λ n k. get_or-blank 192 0 192 n;
  more = λ n k. get_or-blank 192 0 192 n;
})

pub loop-i-preserved : goal.loop-i-preserved
loop-i-preserved c = one_more c.loop-i.auto.i c.loop-i-test.true c.requires.1 c.single.ensures c.loop-i.invariant

pub returns : goal.returns
returns c = let a = c.loop-i.invariant in
    record { long = a.long; each = λ n f k m. a.each n f (omega (arith, c.loop-i-test.false)) m; less = a.less; more = a.more }
