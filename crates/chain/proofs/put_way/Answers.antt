-- `chain::put_way` meets its contract: what is left of the way makes the rest of the space. Assumes nothing.
use Rattle.std.specs.Prelude.{◌≡◌, ◌&&◌, ◌+◌, ◌-◌, ◌<◌, Option, Some, position}
use Rattle.theory.specs.Prelude.{sym, ap, ◌∙◌, List, ℕ, arith, add-one}
use Rattle.theory.specs.Prelude.{get_or, sets, set, length-set}
use Rattle.chain.specs.Layers.{shares, reached, first_both, way}
use Rattle.chain.specs.Kept.{Measured}
use Rattle.chain.specs.Layers.Laws.{Onward, onward, way_next, first-position}
use Rattle.chain.proofs.put_way.Goals as goal
use Rattle.chain.proofs.put_way.Invariants.{Going}

-- the cluster that comes next
module _ {s : List ℕ} {u v t : ℕ} {layers space : List ℕ} (p : Measured s u v t layers space) {out₀ out : List ℕ}
    {a i : ℕ} (g : Going s u v t out₀ out a i) (some : i < t) where
  abbrev m : ℕ
  m = t - i

  on : Onward s v (m - 1) a (first_both s a (reached s v (m - 1)))
  on = onward s v m a (omega (arith, some)) g.far

  module _ {r : Option ℕ} (is : r ≡ position (λ c. shares a c && shares c (get_or layers (m - 1) 0)) s) where
    found : r ≡ Some (first_both s a (reached s v (m - 1)))
    found = let e = p.held.is p.low (m - 1) (omega (arith, some)) in (rw e at is) ∙ first-position a (reached s v (m - 1)) s on.low

    module _ {k : ℕ} (e : r ≡ Some k) where
      first : k ≡ first_both s a (reached s v (m - 1))
      first = let f = found in cc

      next : Going s u v t out₀ (set out i k) (get_or s k 0) (i + 1)
      next = let q : t - (i + 1) ≡ m - 1 = omega arith in record {
        long = length-set out i k ∙ g.long;
        far = rw (q, first) on.far;
        on = rw (q, first, add-one) (sym (ap (sets out i) (way_next s v m a (omega (arith, some)))) ∙ g.on);
      }

pub unwrap-k-requires : goal.unwrap-k-requires
unwrap-k-requires c = rw (found c.requires c.loop-i.invariant c.loop-i-test.true c.first_both.ensures)

pub loop-i-preserved : goal.loop-i-preserved
loop-i-preserved c = next c.requires c.loop-i.invariant c.loop-i-test.true c.first_both.ensures c.unwrap-k.ensures

pub returns : goal.returns
unfolding way
returns c = let l = c.loop-i in
    let e : c.args.t - l.i ≡ 0 = omega (arith, c.loop-i-test.false) in
    sym (ap (λ (n : ℕ). sets l.out l.i (way c.args.s.now c.args.to n l.a)) e) ∙ l.invariant.on
