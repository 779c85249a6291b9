-- The check answers every list of numbers as it would with rule 14, where two living clusters share at most one element. Assumes nothing.
use Rattle.std.specs.Prelude.{◌≡◌, ◌||◌, ◌∷◌, ◌%◌}
use Rattle.theory.specs.Prelude.{refl, ap, ◌∙◌, Bool, true, false, List, [], ℕ, zero, suc, arith, eqb, ones, length, lt-leb}
use Rattle.theory.specs.Set.{◌∩◌}
use Rattle.theory.specs.Merge.{slot, Merge, put, Valid, final, ShareOne}
use Rattle.theory.specs.Plan.{open_test}
use Rattle.plans.specs.Check.{misnamed, fault_of, step_fault, saved_steps_of, steps_fault, plan_fault}
use Rattle.plans.specs.Check.Laws.{Named, named-well, fault-open, fault-range}
use Rattle.plans.specs.Rule14.{overlapping, fault_of14, step_fault14, steps_fault14, plan_fault14, Never14}

-- a step of different living clusters meets rule 14 in none
apart : (s : List ℕ) → ShareOne s → (m : Merge) → Named s m → overlapping (slot s m.i) (slot s m.j) (slot s m.k) ≡ false
unfolding overlapping
apart s h m w t =
    lt-leb 2 (ones (slot s m.i ∩ slot s m.j)) (omega (arith, h.share m.i m.j w.i≢j w.livei w.livej)) t
    || (lt-leb 2 (ones (slot s m.j ∩ slot s m.k)) (omega (arith, h.share m.j m.k w.j≢k w.livej w.livek)) t
    || lt-leb 2 (ones (slot s m.i ∩ slot s m.k)) (omega (arith, h.share m.i m.k w.i≢k w.livei w.livek)) t)

step_same : (s : List ℕ) → ShareOne s → (m : Merge) → step_fault14 s m ≡ step_fault s m
unfolding step_fault14 step_fault fault_of14 fault_of
step_same s h m = by (misnamed a b c m) refl
  where
    a : ℕ
    a = slot s m.i

    b : ℕ
    b = slot s m.j

    c : ℕ
    c = slot s m.k

    otherwise : ℕ
    otherwise = elim (open_test a b c) [ true ↦ 0 | false ↦ 15 ]

    by : (x : Bool) → misnamed a b c m ≡ x
        → ◌≡◌ {A = ℕ} (elim x [ true ↦ 13 | false ↦ elim (overlapping a b c) [ true ↦ 14 | false ↦ otherwise ] ])
        (elim x [ true ↦ 13 | false ↦ otherwise ])
    by true q = refl
    by false q = λ t. elim (apart s h m (named-well s m q) t) [ true ↦ 14 | false ↦ otherwise ]

steps-same : (p : List Merge) (s : List ℕ) → ((q : List Merge) → Valid s q → ShareOne (final s q)) → steps_fault14 s p ≡ steps_fault s p
unfolding steps_fault14 steps_fault
steps-same [] s h = refl
steps-same (m ∷ p) s h =
    ap passed (step_same s (h [] tt) m) ∙ by (step_fault s m) refl (λ e. steps-same p (put s m) (λ q v. h (m ∷ q) (fault-open s m e, v)))
  where
    passed : ℕ → ℕ
    passed k = elim k [ zero ↦ steps_fault14 (put s m) p | suc r ↦ suc r ]

    by : (k : ℕ) → step_fault s m ≡ k → (step_fault s m ≡ 0 → steps_fault14 (put s m) p ≡ steps_fault (put s m) p)
        → passed k ≡ elim k [ zero ↦ steps_fault (put s m) p | suc r ↦ suc r ]
    by zero e later = later e
    by (suc r) e later = refl

pub never-14 : (cs : List ℕ) → ((p : List Merge) → Valid cs p → ShareOne (final cs p)) → Never14 cs
unfolding plan_fault14 plan_fault
never-14 cs h = record {
  living = h;
  same = λ l. ap (λ (k : ℕ). elim (eqb (length l % 3) 0) [ true ↦ k | false ↦ 12 ]) (steps-same (saved_steps_of l) cs h);
  never = λ l e. (fault-range cs l 13 e).2 refl;
}
