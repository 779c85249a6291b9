-- A saved plan, step after step. Assumes nothing.
use Rattle.std.specs.Prelude.{◌≡◌, ◌≢◌, ◌∷◌, ◌++◌, ◌+◌, ◌*◌, ◌%◌, ◌≤◌, ◌<◌, Result}
use Rattle.theory.specs.Prelude.{refl, sym, ap, ◌∙◌, List, [], append_assoc, append-nil, ℕ, zero, suc}
use Rattle.theory.specs.Prelude.{arith, eqb, length, get_or, take, drop, drop_of_length-le, drop-cons, eq-eqb, ne_eqb}
use Rattle.theory.specs.Block.{block}
use Rattle.theory.specs.Tests.{yes-branch, no-branch}
use Rattle.theory.specs.Constraints.{NotOver}
use Rattle.theory.specs.Merge.{Merge, merge, OpenAt, put, final}
use Rattle.theory.specs.Plan.{ascending}
use Rattle.theory.specs.Rule.{refusal}
use Rattle.theory.specs.declared.Rule.{Rule}
use Rattle.merges.specs.Run.{Blank, Start}
use Rattle.merges.specs.Run.Laws.{final-snoc}
use Rattle.merges.specs.Going.{Going, Made}
use Rattle.merges.specs.Going.Laws.{slots_same, going_start, going_next, going-run}
use Rattle.plans.specs.Check.{fault_of, step_fault, saved_steps_of, steps_fault, plan_fault, Checks}
use Rattle.plans.specs.Check.Laws.{fault-open}

-- ---- the numbers left

-- the step whose numbers begin at a place
abbrev pub named : List ℕ → ℕ → Merge
named l at = merge (get_or l at 0) (get_or l (at + 1) 0) (get_or l (at + 2) 0)

next-step : (l : List ℕ) (at : ℕ) → at + 2 < length l → saved_steps_of (drop at l) ≡ named l at ∷ saved_steps_of (drop (at + 3) l)
unfolding saved_steps_of
next-step l at h =
    let e1 : suc at ≡ at + 1 = omega arith in
    let e2 : suc (suc at) ≡ at + 2 = omega arith in
    let e3 : suc (suc (suc at)) ≡ at + 3 = omega arith in
    let d2 = ap (λ (r : List ℕ). get_or l (suc at) 0 ∷ r) (drop-cons l (suc (suc at)) 0 (omega arith)) in
    let d1 = ap (λ (r : List ℕ). get_or l at 0 ∷ r) (drop-cons l (suc at) 0 (omega arith) ∙ d2) in
    ap saved_steps_of (drop-cons l at 0 (omega arith) ∙ d1)
    ∙ (λ t. merge (get_or l at 0) (get_or l (e1 t) 0) (get_or l (e2 t) 0) ∷ saved_steps_of (drop (e3 t) l))

-- ---- the plan's fault

pub fault-12 : (cs l : List ℕ) → length l % 3 ≢ 0 → ◌≡◌ {A = ℕ} 12 (plan_fault cs l)
unfolding plan_fault
fault-12 cs l n = no-branch (eqb (length l % 3) 0) _ 12 (ne_eqb (length l % 3) 0 n)

whole : (cs l : List ℕ) → length l % 3 ≡ 0 → steps_fault cs (saved_steps_of l) ≡ plan_fault cs l
unfolding plan_fault
whole cs l e = yes-branch (eqb (length l % 3) 0) _ 12 (eq-eqb (length l % 3) 0 e)

-- ---- the check on its way

-- the arrays hold the merges p that the numbers before `at` name, and what is left decides
pub record Checking (cs : List ℕ) (e : ℕ) (l slots parts joints : List ℕ) (steps at : ℕ) : Type 0 where
  pub p : List Merge
  pub going : Going cs e p slots parts joints steps
  pub at_is : at ≡ 3 * steps
  pub within : at ≤ length l
  pub rest : saved_steps_of l ≡ p ++ saved_steps_of (drop at l)
  pub told : steps_fault cs (saved_steps_of l) ≡ steps_fault (final cs p) (saved_steps_of (drop at l))

pub checking-start : {start slots₀ slots parts joints l : List ℕ} {e : ℕ} → Start start e → Blank slots₀ parts joints
    → slots ≡ block 192 0 (take e start) → Checking (take e start) e l slots parts joints 0 0
checking-start {start} {slots₀} {slots} {parts} {joints} {l} {e} b blank h = record {
  p = [];
  going = rw (blank.parts_blank, blank.joints_blank) (going_start b h);
  at_is = refl;
  within = omega arith;
  rest = refl;
  told = refl;
}

module _ {cs : List ℕ} {e : ℕ} {l slots parts joints : List ℕ} {steps at : ℕ} (w : Checking cs e l slots parts joints steps at) where
  -- three numbers are left, or none
  three-left : length l % 3 ≡ 0 → at < length l → at + 2 < length l
  three-left m h = omega (arith, w.at_is)

  fault-same : (m : Merge) → step_fault slots m ≡ step_fault (final cs w.p) m
  unfolding step_fault
  fault-same m t = let same = slots_same w.going.clusters in fault_of (same m.i t) (same m.j t) (same m.k t) m

  -- a step that no rule refuses is open
  pub open-here : 0 ≡ step_fault slots (named l at) → OpenAt (final cs w.p) (named l at)
  open-here none = fault-open (final cs w.p) (named l at) (sym (none ∙ fault-same (named l at)))

  module _ (mult : length l % 3 ≡ 0) (more : at < length l) where
    told-next : steps_fault cs (saved_steps_of l) ≡ steps_fault (final cs w.p) (named l at ∷ saved_steps_of (drop (at + 3) l))
    told-next = w.told ∙ ap (steps_fault (final cs w.p)) (next-step l at (three-left mult more))

    -- what is left once the step is taken
    after : ℕ
    after = steps_fault (put (final cs w.p) (named l at)) (saved_steps_of (drop (at + 3) l))

    -- a step that a rule refuses
    pub refuses : {r : ℕ} → r ≡ step_fault slots (named l at) → r ≢ 0 → r ≡ plan_fault cs l
    unfolding steps_fault after
    refuses {r} f n = by (step_fault (final cs w.p) (named l at)) (f ∙ fault-same (named l at)) ∙ sym told-next ∙ whole cs l mult
      where
        by : (k : ℕ) → r ≡ k → r ≡ elim k [ zero ↦ after | suc k ↦ suc k ]
        by zero z = absurd (n z)
        by (suc k) z = z

    -- a step that none refuses
    passes : 0 ≡ step_fault slots (named l at) → steps_fault cs (saved_steps_of l) ≡ after
    unfolding steps_fault after
    passes none = told-next ∙ by (step_fault (final cs w.p) (named l at)) (none ∙ fault-same (named l at))
      where
        by : (k : ℕ) → 0 ≡ k → elim k [ zero ↦ after | suc k ↦ suc k ] ≡ after
        by zero z = refl
        by (suc k) z = absurd (omega arith)

    pub checking-next : 0 ≡ step_fault slots (named l at) → {r : Merge} → ascending (named l at) ≡ r → {u : ℕ} {slots' parts' joints' : List ℕ}
        → Made slots parts joints (e + steps) steps r u slots' parts' joints' → Checking cs e l slots' parts' joints' (steps + 1) (at + 3)
    unfolding after
    checking-next none up g = record {
      p = w.p ++ (named l at ∷ []);
      going = going_next w.going (open-here none) up g;
      at_is = omega (arith, w.at_is);
      within = omega (arith, three-left mult more);
      rest = w.rest
          ∙ ap (λ (r : List Merge). w.p ++ r) (next-step l at (three-left mult more))
          ∙ sym (append_assoc w.p (named l at ∷ []) (saved_steps_of (drop (at + 3) l)));
      told = passes none ∙ ap (λ (s : List ℕ). steps_fault s (saved_steps_of (drop (at + 3) l))) (sym (final-snoc w.p cs (named l at)));
    }

  -- ---- after the last step

  module _ (mult : length l % 3 ≡ 0) (done : length l ≤ at) where
    none_left : drop at l ≡ []
    none_left = drop_of_length-le l done

    -- the rule of the end decides
    pub last-fault : steps_fault (final cs w.p) [] ≡ plan_fault cs l
    unfolding saved_steps_of
    last-fault =
        sym (w.told ∙ ap (λ (r : List ℕ). steps_fault (final cs w.p) (saved_steps_of r)) none_left) ∙ whole cs l mult

    -- the list of merges is the saved one
    pub saved : w.p ≡ saved_steps_of l
    unfolding saved_steps_of
    saved = sym (w.rest ∙ ap (λ (r : List ℕ). w.p ++ saved_steps_of r) none_left ∙ append-nil w.p)

  -- what is answered, and what the arrays hold then
  pub checks : {outcome : Result (Unit {0}) Rule} → (NotOver cs → refusal outcome ≡ plan_fault cs l) → (refusal outcome ≡ 0 → w.p ≡ saved_steps_of l)
      → Checks cs l (record { outcome = outcome; steps = steps }) parts joints slots
  checks is whole = record {
    rule_is = is;
    merged = record { p = w.p; valid = w.going.clusters.valid; is = going-run w.going };
    saved = whole;
  }
