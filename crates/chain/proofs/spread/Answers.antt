-- `chain::spread` meets its contract: the layers passed stand in the array, and the distance is that from here on.
-- Assumes nothing.
use Rattle.std.specs.Prelude.{◌≡◌, ◌-◌}
use Rattle.theory.specs.Prelude.{refl, sym, ap, ◌∙◌, List, ℕ, suc, arith, rules, length}
use Rattle.theory.specs.Prelude.{ℕ_discrete, add-one, get_or-set_same, get_or-set_other}
use Rattle.theory.specs.Set.{◌∩◌}
use Rattle.chain.specs.Layers.{grown, reached}
use Rattle.chain.specs.Layers.Laws.{word-shares, word-apart, distance-here, distance-later, distance_none}
use Rattle.chain.specs.Layers.Laws.{distance-last}
use Rattle.chain.proofs.spread.Goals as goal

-- what the start shares with the layers so far
shared-is : {a b x y r : ℕ} → r ≡ a ∩ b → a ≡ x → b ≡ y → r ≡ x ∩ y
shared-is e p q = cc

-- the layer that comes next
next : (s : List ℕ) (v t : ℕ) {d r : ℕ} → r ≡ grown s d d → d ≡ reached s v t → reached s v (suc t) ≡ r
unfolding reached
next s v t e f = ap (λ (d : ℕ). grown s d d) (sym f) ∙ sym e

pub loop-t-init : goal.loop-t-init
unfolding reached
loop-t-init c = record {
  is = c.single-d.ensures;
  held = λ m l. absurd (omega arith);
  on = refl;
}

pub returns-then-shared-ne0 : goal.returns-then-shared-ne0
returns-then-shared-ne0 c = let a = c.args in
    let l = c.loop-t in
    let here = distance-here a.s.now a.to a.from l.t c.loop-t-test.true
    (word-shares (shared-is c.shared.ensures c.single-start.ensures l.invariant.is) c.if-shared-ne0.true) in
    (sym here ∙ l.invariant.on, c.loop-t-test.true, record { is = λ low. l.invariant.held })

pub returns-then-next-d : goal.returns-then-next-d
returns-then-next-d c = let a = c.args in
    let l = c.loop-t in
    let none = distance_none a.s.now a.to a.from (64 - l.t) l.t
    (next a.s.now a.to l.t c.around-next.ensures l.invariant.is ∙ c.if-next-d.true ∙ l.invariant.is)
    (word-apart (shared-is c.shared.ensures c.single-start.ensures l.invariant.is) c.if-shared-ne0.false) in
    omega (arith, none, l.invariant.on, c.loop-t-test.true)

pub loop-t-preserved : goal.loop-t-preserved
loop-t-preserved c = let a = c.args in
    let l = c.loop-t in
    let low = c.loop-t-test.true in
    let long : length l.layers ≡ 64 = search rules in
    let later = distance-later a.s.now a.to a.from l.t low
    (word-apart (shared-is c.shared.ensures c.single-start.ensures l.invariant.is) c.if-shared-ne0.false) in
    record {
      is = sym (next a.s.now a.to l.t c.around-next.ensures l.invariant.is) ∙ ap (reached a.s.now a.to) (sym (add-one l.t));
      held = λ m h. elim (ℕ_discrete m l.t) [
        | yes e ↦ rw e (get_or-set_same l.layers l.t l.d 0 (omega (arith, long, low)) ∙ l.invariant.is)
        | no n ↦ get_or-set_other l.layers l.t m l.d 0 n ∙ l.invariant.held m (omega (arith, n, h))
      ];
      on = sym later ∙ l.invariant.on;
    }

pub returns : goal.returns
returns c = let a = c.args in
    let l = c.loop-t in
    let last = distance-last a.s.now a.to a.from l.t (omega (arith, c.loop-t-test.false)) in
    omega (arith, last, l.invariant.on, c.loop-t-test.false)
