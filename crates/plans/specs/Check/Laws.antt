-- A saved plan is accepted if and only if it is a maximal list of merges, and which rule refuses it when. Assumes nothing.
use Rattle.std.specs.Prelude.{◌≡◌, ◌≢◌, ◌↔◌, ◌||◌, ◌∷◌, ◌++◌, ◌%◌, ◌≤◌}
use Rattle.theory.specs.Prelude.{refl, sym, ap, ◌∙◌, subst, Bool, true, false, List, [], Option, ℕ, zero, suc}
use Rattle.theory.specs.Prelude.{arith, T, eqb, length, eqb-true, eqb-false, ne_eqb, eq-eqb}
use Rattle.theory.specs.Merge.{slot, Merge, OpenAt, put, Valid, final, Maximal}
use Rattle.theory.specs.Plan.{open_test, first_of, is_some}
use Rattle.theory.specs.Plan.Search.{Found, found, nothing, first_found, open-test, test-open}
use Rattle.theory.specs.Plan.Laws.{none_is}
use Rattle.merges.specs.Run.{flat}
use Rattle.plans.specs.Check.{misnamed, fault_of, step_fault, saved_steps_of, steps_fault, plan_fault}

is_true : (b : Bool) → T b → b ≡ true
is_true true t = refl
is_true false t = absurd t

none_or : (a b : Bool) → (a || b) ≡ false → (a ≡ false) × (b ≡ false)
none_or true b e = absurd (let z : ◌≡◌ {A = ℕ} 0 1 = cc in omega arith)
none_or false b e = (refl, e)

-- the step names three different living clusters
pub record Named (s : List ℕ) (m : Merge) : Type 0 where
  pub i≢j : m.i ≢ m.j
  pub j≢k : m.j ≢ m.k
  pub i≢k : m.i ≢ m.k
  pub livei : slot s m.i ≢ 0
  pub livej : slot s m.j ≢ 0
  pub livek : slot s m.k ≢ 0

pub named-well : (s : List ℕ) (m : Merge) → misnamed (slot s m.i) (slot s m.j) (slot s m.k) m ≡ false → Named s m
unfolding misnamed
named-well s m n =
    let h1 = none_or (eqb (slot s m.i) 0) _ n in
    let h2 = none_or (eqb (slot s m.j) 0) _ h1.1 in
    let h3 = none_or (eqb (slot s m.k) 0) _ h2.1 in
    let h4 = none_or (eqb m.i m.j) _ h3.1 in
    let h5 = none_or (eqb m.j m.k) _ h4.1 in
    record {
      i≢j = eqb-false m.i m.j h4.0;
      j≢k = eqb-false m.j m.k h5.0;
      i≢k = eqb-false m.i m.k h5.1;
      livei = eqb-false (slot s m.i) 0 h1.0;
      livej = eqb-false (slot s m.j) 0 h2.0;
      livek = eqb-false (slot s m.k) 0 h3.0;
    }

-- a step that no rule refuses is an open merge
pub well-named : (s : List ℕ) (m : Merge) → Named s m → misnamed (slot s m.i) (slot s m.j) (slot s m.k) m ≡ false
unfolding misnamed
well-named s m w t =
    ne_eqb (slot s m.i) 0 w.livei t
    || (ne_eqb (slot s m.j) 0 w.livej t
    || (ne_eqb (slot s m.k) 0 w.livek t || (ne_eqb m.i m.j w.i≢j t || (ne_eqb m.j m.k w.j≢k t || ne_eqb m.i m.k w.i≢k t))))

pub fault-open : (s : List ℕ) (m : Merge) → step_fault s m ≡ 0 → OpenAt s m
unfolding step_fault fault_of
fault-open s m e = by (misnamed a b c m) refl (open_test a b c) refl e
  where
    a : ℕ
    a = slot s m.i

    b : ℕ
    b = slot s m.j

    c : ℕ
    c = slot s m.k

    opened : Named s m → open_test a b c ≡ true → OpenAt s m
    opened w t = record {
      i≢j = w.i≢j;
      j≢k = w.j≢k;
      i≢k = w.i≢k;
      livei = w.livei;
      livej = w.livej;
      livek = w.livek;
      open3 = test-open a b c (subst T (sym t) tt);
    }

    by : (x : Bool) → misnamed a b c m ≡ x → (z : Bool) → open_test a b c ≡ z
        → ◌≡◌ {A = ℕ} (elim x [ true ↦ 13 | false ↦ elim z [ true ↦ 0 | false ↦ 15 ] ]) 0 → OpenAt s m
    by true p z q e = absurd (omega arith)
    by false p true q e = opened (named-well s m p) q
    by false p false q e = absurd (omega arith)

-- and an open merge is refused by none
pub open-fault : (s : List ℕ) (m : Merge) → OpenAt s m → step_fault s m ≡ 0
unfolding step_fault fault_of misnamed
open-fault s m o = λ t. elim (named t) [ true ↦ 13 | false ↦ elim (tested t) [ true ↦ 0 | false ↦ 15 ] ]
  where
    a : ℕ
    a = slot s m.i

    b : ℕ
    b = slot s m.j

    c : ℕ
    c = slot s m.k

    named : misnamed a b c m ≡ false
    named t =
        ne_eqb a 0 o.livei t
        || (ne_eqb b 0 o.livej t
        || (ne_eqb c 0 o.livek t || (ne_eqb m.i m.j o.i≢j t || (ne_eqb m.j m.k o.j≢k t || ne_eqb m.i m.k o.i≢k t))))

    tested : open_test a b c ≡ true
    tested = is_true (open_test a b c) (open-test a b c o.open3)

-- ---- accepted if and only if it is a maximal list of merges

steps-fine : (p : List Merge) (s : List ℕ) → steps_fault s p ≡ 0 → Maximal s p
unfolding steps_fault
steps-fine [] s e = go (first_of 0 s) (first_found s) e
  where
    go : (o : Option Merge) → Found s o → ◌≡◌ {A = ℕ} (elim (is_some o) [ true ↦ 16 | false ↦ 0 ]) 0 → Maximal s []
    go o (found m f) e = absurd (omega arith)
    go o (nothing n) e = record { valid = tt; ended = n }
steps-fine (m ∷ p) s e = go (step_fault s m) refl e (steps-fine p (put s m))
  where
    go : (k : ℕ) → step_fault s m ≡ k → ◌≡◌ {A = ℕ} (elim k [ zero ↦ steps_fault (put s m) p | suc r ↦ suc r ]) 0
        → (steps_fault (put s m) p ≡ 0 → Maximal (put s m) p)
        → Maximal s (m ∷ p)
    go zero h e ih = let x = ih e in record { valid = (fault-open s m h, x.valid); ended = x.ended }
    go (suc r) h e ih = absurd (omega arith)

fine-steps : (p : List Merge) (s : List ℕ) → Maximal s p → steps_fault s p ≡ 0
unfolding steps_fault
fine-steps [] s x = ap (λ (o : Option Merge). last o) (none_is s x.ended)
  where
    last : Option Merge → ℕ
    last o = elim (is_some o) [ true ↦ 16 | false ↦ 0 ]
fine-steps (m ∷ p) s x =
    ap (λ (k : ℕ). next k) (open-fault s m x.valid.0) ∙ fine-steps p (put s m) (record { valid = x.valid.1; ended = x.ended })
  where
    next : ℕ → ℕ
    next k = elim k [ zero ↦ steps_fault (put s m) p | suc r ↦ suc r ]

pub accepted-maximal : (cs l : List ℕ) → (plan_fault cs l ≡ 0) ↔ ((length l % 3 ≡ 0) × Maximal cs (saved_steps_of l))
unfolding plan_fault
accepted-maximal cs l = (λ e. go (eqb (length l % 3) 0) refl e, λ x. back x)
  where
    the-fault : Bool → ℕ
    the-fault b = elim b [ true ↦ steps_fault cs (saved_steps_of l) | false ↦ 12 ]

    go : (b : Bool) → eqb (length l % 3) 0 ≡ b → the-fault b ≡ 0 → (length l % 3 ≡ 0) × Maximal cs (saved_steps_of l)
    go true h e = (eqb-true (length l % 3) 0 h, steps-fine (saved_steps_of l) cs e)
    go false h e = absurd (omega arith)

    back : (length l % 3 ≡ 0) × Maximal cs (saved_steps_of l) → the-fault (eqb (length l % 3) 0) ≡ 0
    back x = ap the-fault (eq-eqb (length l % 3) 0 x.0) ∙ fine-steps (saved_steps_of l) cs x.1

-- the numbers of an accepted plan are those of its list of merges
pub saved-whole : (l : List ℕ) → length l % 3 ≡ 0 → flat (saved_steps_of l) ≡ l
unfolding saved_steps_of flat
saved-whole [] e = refl
saved-whole (i ∷ []) e = absurd (omega arith)
saved-whole (i ∷ j ∷ []) e = absurd (omega arith)
saved-whole (i ∷ j ∷ k ∷ l) e = ap (λ (r : List ℕ). i ∷ j ∷ k ∷ r) (saved-whole l (omega arith))

-- and every list of merges can be saved
pub whole-saved : (p : List Merge) → saved_steps_of (flat p) ≡ p
unfolding saved_steps_of flat
whole-saved [] = refl
whole-saved (m ∷ p) = ap (λ (r : List Merge). m ∷ r) (whole-saved p)

-- ---- which rule comes when

-- the first step that a rule refuses, its rule, and the merges before it
pub record Stopped (s : List ℕ) (p : List Merge) (rule : ℕ) : Type 0 where
  pub before : List Merge
  pub step : Merge
  pub later : List Merge
  pub split : p ≡ before ++ step ∷ later
  pub valid : Valid s before
  pub refuses : step_fault (final s before) step ≡ rule

-- a merge still open after the last step
pub record Unended (s : List ℕ) (p : List Merge) : Type 0 where
  pub valid : Valid s p
  pub more : Merge
  pub isopen : OpenAt (final s p) more

pub data Why (cs l : List ℕ) : ℕ → Type 0 where
  count : length l % 3 ≢ 0 → Why cs l 12
  stopped : (rule : ℕ) → length l % 3 ≡ 0 → Stopped cs (saved_steps_of l) (suc rule) → Why cs l (suc rule)
  unended : length l % 3 ≡ 0 → Unended cs (saved_steps_of l) → Why cs l 16
  accepted : length l % 3 ≡ 0 → Maximal cs (saved_steps_of l) → Why cs l 0

data WhySteps (s : List ℕ) (p : List Merge) : ℕ → Type 0 where
  stopped : (rule : ℕ) → Stopped s p (suc rule) → WhySteps s p (suc rule)
  unended : Unended s p → WhySteps s p 16
  accepted : Maximal s p → WhySteps s p 0

why-steps : (p : List Merge) (s : List ℕ) → WhySteps s p (steps_fault s p)
unfolding steps_fault
why-steps [] s = go (first_of 0 s) (first_found s)
  where
    go : (o : Option Merge) → Found s o → WhySteps s [] (elim (is_some o) [ true ↦ 16 | false ↦ 0 ])
    go o (found m f) = unended (record { valid = tt; more = m; isopen = f.isopen })
    go o (nothing n) = accepted (record { valid = tt; ended = n })
why-steps (m ∷ p) s = go (step_fault s m) refl (steps_fault (put s m) p) (why-steps p (put s m))
  where
    go : (k : ℕ) → step_fault s m ≡ k → (r : ℕ) → WhySteps (put s m) p r → WhySteps s (m ∷ p) (elim k [ zero ↦ r | suc k ↦ suc k ])
    go (suc k) h r w = stopped k (record { before = []; step = m; later = p; split = refl; valid = tt; refuses = h })
    go zero h r (stopped rule x) = stopped rule (record {
      before = m ∷ x.before;
      step = x.step;
      later = x.later;
      split = ap (λ (q : List Merge). m ∷ q) x.split;
      valid = (fault-open s m h, x.valid);
      refuses = x.refuses;
    })
    go zero h r (unended x) = unended (record { valid = (fault-open s m h, x.valid); more = x.more; isopen = x.isopen })
    go zero h r (accepted x) = accepted (record { valid = (fault-open s m h, x.valid); ended = x.ended })

pub why : (cs l : List ℕ) → Why cs l (plan_fault cs l)
unfolding plan_fault
why cs l = go (eqb (length l % 3) 0) refl (steps_fault cs (saved_steps_of l)) (why-steps (saved_steps_of l) cs)
  where
    go : (b : Bool) → eqb (length l % 3) 0 ≡ b → (r : ℕ) → WhySteps cs (saved_steps_of l) r → Why cs l (elim b [ true ↦ r | false ↦ 12 ])
    go false h r w = count (eqb-false (length l % 3) 0 h)
    go true h r (stopped rule x) = stopped rule (eqb-true (length l % 3) 0 h) x
    go true h r (unended x) = unended (eqb-true (length l % 3) 0 h) x
    go true h r (accepted x) = accepted (eqb-true (length l % 3) 0 h) x

-- ---- only rules 12, 13, 15 and 16 refuse a plan

step_range : (s : List ℕ) (m : Merge) (r : ℕ) → step_fault s m ≡ suc r → (12 ≤ suc r) × (suc r ≤ 16) × (suc r ≢ 14)
unfolding step_fault fault_of
step_range s m r e = by (misnamed a b c m) (open_test a b c) e
  where
    a : ℕ
    a = slot s m.i

    b : ℕ
    b = slot s m.j

    c : ℕ
    c = slot s m.k

    by : (x z : Bool) → elim x [ true ↦ 13 | false ↦ elim z [ true ↦ 0 | false ↦ 15 ] ] ≡ suc r → (12 ≤ suc r) × (suc r ≤ 16) × (suc r ≢ 14)
    by true z h = (omega arith, omega arith, λ q. omega arith)
    by false true h = absurd (omega arith)
    by false false h = (omega arith, omega arith, λ q. omega arith)

pub fault-range : (cs l : List ℕ) (r : ℕ) → plan_fault cs l ≡ suc r → (12 ≤ suc r) × (suc r ≤ 16) × (suc r ≢ 14)
fault-range cs l r e = by (plan_fault cs l) (why cs l) e
  where
    by : (k : ℕ) → Why cs l k → k ≡ suc r → (12 ≤ suc r) × (suc r ≤ 16) × (suc r ≢ 14)
    by k (count h) q = (omega arith, omega arith, λ z. omega arith)
    by k (stopped rule h x) q =
        let s = step_range (final cs x.before) x.step rule x.refuses in
        (omega (arith, s.0), omega (arith, s.1), λ z. s.2 (omega arith))
    by k (unended h x) q = (omega arith, omega arith, λ z. omega arith)
    by k (accepted h x) q = absurd (omega arith)
