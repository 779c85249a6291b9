-- Demand 3 holds: Lemmas 3.3 to 3.5, Theorem 3.6, Corollary 3.7 and Theorem 4.3 of Fudos and Hoffmann (document 001),
-- from every order of the constraints. Assumes nothing.
use Rattle.std.specs.Prelude.{◌≤◌}
use Rattle.theory.specs.Prelude.{refl, sym, List, arith}
use Rattle.theory.specs.Constraints.{Pairs, Below, NotOver}
use Rattle.theory.specs.Constraints.Laws.{pairs-perm, below-perm, fine-perm}
use Rattle.theory.specs.Merge.{Merge, slot, Valid, final, live}
use Rattle.theory.specs.Merge.Count.{steps-left, weights-kept, steps-half, steps_most, same_left}
use Rattle.theory.specs.Merge.Either.{either_way}
use Rattle.theory.specs.Merge.Family.{Good, Distinct}
use Rattle.theory.specs.Merge.Family.Invariant.{share}
use Rattle.theory.specs.Merge.Numbered.{every-order, good-final, start-good, start-distinct}
use Rattle.theory.specs.Plan.Laws.{plan-of-maximal}
use Rattle.theory.specs.Graph.{Graph}
use Rattle.theory.specs.Graph.Laws.{same-verdict, verdict-every, fine-finding, fine-not-over, verdict-fine}
use Rattle.theory.specs.Demand.{Accepted, Counted, Demand3}

-- an accepted sheet, as the proofs use it
pub accepted-fine : {g : Graph} → Accepted g → NotOver g.clusters
accepted-fine {g} a = verdict-fine g a.pairs a.below a.not_over

fine-accepted : (g : Graph) → 2 ≤ g.n → Pairs g.clusters → Below g.n g.clusters → NotOver g.clusters → Accepted g
fine-accepted g two pairs below fine =
    record { two = two; pairs = pairs; below = below; not_over = fine-not-over g (fine-finding g pairs below fine) }

-- whatever merges came before, each living cluster of m elements carries 2m-3 constraints, no constraint lies in two,
-- and no two clusters are equal: Lemma 3.4 of Fudos and Hoffmann
pub accepted-good : {g : Graph} → Accepted g → (p : List Merge) → Valid g.clusters p
    → Good g.clusters (live (final g.clusters p)) × Distinct (final g.clusters p)
accepted-good {g} a p v =
    good-final g.clusters (accepted-fine a) p g.clusters (start-good g.clusters a.pairs (accepted-fine a))
    (start-distinct g.clusters a.pairs (accepted-fine a)) v

counted : {g : Graph} → Accepted g → (p : List Merge) → Valid g.clusters p → Counted g.n g.clusters p
unfolding Distinct
counted {g} a p v =
    let left = steps-left g.clusters a.pairs p v in
    record {
      formula = sym left;
      freedoms = weights-kept g.clusters a.pairs p v;
      half = λ e. omega (arith, steps-half g.clusters a.pairs e p v);
      none = λ e. omega arith;
      most = omega (arith, steps_most g.n g.clusters a.two a.pairs a.below (accepted-fine a) p v);
      share = λ i j ne hi hj.
          let d = accepted-good a p v in
          share g.clusters (accepted-fine a) d.0 (slot (final g.clusters p) i) (slot (final g.clusters p) j) (i, refl, hi) (j, refl, hj)
          (λ e. ne (d.1 i j hi e));
    }

pub demand3 : (g : Graph) → Accepted g → Demand3 g
demand3 g a = record {
  orders = λ h r.
      fine-accepted h (rw r.count a.two) (pairs-perm r.constraints a.pairs)
      (rw r.count (below-perm g.n r.constraints a.below))
      (fine-perm r.constraints (accepted-fine a));
  every = λ h r p q v w.
      let u = every-order g.clusters a.pairs (accepted-fine a) h.clusters r.constraints p q v w in
      record {
        finals = u.finals;
        same_joints = u.same_joints;
        verdicts = same-verdict g h r.count r.kinds r.constraints a.pairs (accepted-fine a) p q v w;
        steps = u.steps;
        lefts = same_left g.clusters a.pairs (accepted-fine a) h.clusters r.constraints p q v w;
      };
  either = either_way g.clusters a.pairs (accepted-fine a);
  counts = counted a;
  plan = plan-of-maximal g.clusters a.pairs;
  verdicts = verdict-every g a.pairs a.below (accepted-fine a);
}
