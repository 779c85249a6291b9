-- Facts that no rule refuses: each constraint of theirs, every order of their constraints (document 01, "Every order of merging"), and the blocks of
-- a sheet that hold them. Assumes nothing.
use Rattle.std.specs.Prelude.{◌≤◌, ◌≡◌, ◌&&◌, ◌||◌, ◌∷◌, ◌++◌}
use Rattle.theory.specs.Prelude.{ℕ, ℕ_discrete, arith, eq-eqb, ne_eqb, not-true, refl, sym, ap₂, ◌∙◌, subst, Bool, true, false}
use Rattle.theory.specs.Prelude.{not, or_assoc, List, [], T, eqb, length, take, take-append_seam, length-take-le}
use Rattle.std.proofs.Math.Bool.{or_comm}
use Rattle.theory.specs.Constraints.{Perm, same, skip, swap, then}
use Rattle.theory.specs.Constraints.Laws.{length-perm}
use Rattle.sheet.specs.declared.Opening.{Opening}
use Rattle.sheet.specs.declared.Element.{Element}
use Rattle.sheet.specs.declared.Constraint.{Constraint}
use Rattle.sheet.specs.declared.Sheet.{Sheet}
use Rattle.sheet.specs.Facts.{Facts, kind_at, sheet_of, facts_of}
use Rattle.sheet.specs.Rules.{elements_in_range, constraints_in_range, ends_ascend, stands, size_fault, constraint_fault, constraints_fault}
use Rattle.sheet.specs.Rules.{elements_fault, sheet_fault}
use Rattle.sheet.specs.Rules.Laws.{elements-range, elements-most, constraints-most, stands-more, unless-none, none-else}
use Rattle.sheet.specs.Accepted.{Accepted}

pub accepted-two : (f : Facts) → Accepted f → 2 ≤ length f.elements
accepted-two f h = (elements-range _ h.elements_fit).0

pub accepted-most : (f : Facts) → Accepted f → length f.elements ≤ 64
accepted-most f h = (elements-range _ h.elements_fit).1

-- ---- a constraint that no rule refuses

module _ (es : List Element) where
  pub record Taken (done : List Constraint) (c : Constraint) : Type 0 where
    pub ends-ascend : ends_ascend (length es) c.first c.second ≡ true
    pub is_new : stands done c.first c.second ≡ false
    pub size_fits : size_fault (kind_at es c.first) (kind_at es c.second) c.size ≡ 0

  pub taken : (done : List Constraint) (c : Constraint) → constraint_fault es done c ≡ 0 → Taken done c
  unfolding constraint_fault
  taken done c e =
      let a = unless-none (ends_ascend (length es) c.first c.second) 5 _ e in
      let b = unless-none (not (stands done c.first c.second)) 6 _ a.1 in
      record { ends-ascend = a.0; is_new = not-true _ b.0; size_fits = b.1 }

  pub not-refused : (done : List Constraint) (c : Constraint) → Taken done c → constraint_fault es done c ≡ 0
  unfolding constraint_fault
  not-refused done c t = rw (t.ends-ascend, t.is_new, t.size_fits)

  -- ---- only which pairs stand before matters

  faults-same : (cs d e : List Constraint) → ((a b : ℕ) → stands d a b ≡ stands e a b) → constraints_fault es d cs ≡ constraints_fault es e cs
  unfolding constraints_fault constraint_fault
  faults-same [] d e h = refl
  faults-same (c ∷ cs) d e h =
      rw (h c.first c.second, faults-same cs (d ++ c ∷ []) (e ++ c ∷ []) (λ a b. rw (stands-more d c a b, stands-more e c a b, h a b)))

  abbrev is : Constraint → ℕ → ℕ → Bool
  is c a b = eqb c.first a && eqb c.second b

  is-sym : (x y : Constraint) → is x y.first y.second ≡ is y x.first x.second
  is-sym x y = ap₂ ◌&&◌ (by x.first y.first) (by x.second y.second)
    where
      by : (a b : ℕ) → eqb a b ≡ eqb b a
      by a b = decided (ℕ_discrete a b)
        where
          decided : Dec (a ≡ b) → eqb a b ≡ eqb b a
          decided (yes e) = eq-eqb a b e ∙ sym (eq-eqb b a (sym e))
          decided (no n) = ne_eqb a b n ∙ sym (ne_eqb b a (λ e. n (sym e)))

  or-none : (x y : Bool) → x || y ≡ false → (x ≡ false) × (y ≡ false)
  or-none true y e = absurd (subst T e tt)
  or-none false y e = (refl, e)

  faults-perm : {l k : List Constraint} → Perm l k → (done : List Constraint) → constraints_fault es done l ≡ 0 → constraints_fault es done k ≡ 0
  unfolding constraints_fault
  faults-perm same done e = e
  faults-perm (then p q) done e = faults-perm q done (faults-perm p done e)
  faults-perm (skip x p) done e = let h = none-else (constraint_fault es done x) _ e in rw (h.0, faults-perm p (done ++ x ∷ []) h.1)
  faults-perm (swap x y {l}) done e =
      let dx = done ++ x ∷ [] in
      let dy = done ++ y ∷ [] in
      let h = none-else (constraint_fault es done x) _ e in
      let g = none-else (constraint_fault es dx y) _ h.1 in
      let tx = taken done x h.0 in
      let ty = taken dx y g.0 in
      let new = or-none (stands done y.first y.second) (is x y.first y.second) (sym (stands-more done x _ _) ∙ ty.is_new) in
      let fy = not-refused done y (record { ends-ascend = ty.ends-ascend; is_new = new.0; size_fits = ty.size_fits }) in
      let fx = not-refused dy x (record {
        ends-ascend = tx.ends-ascend;
        is_new = stands-more done y _ _ ∙ ap₂ ◌||◌ tx.is_new (is-sym y x ∙ new.1);
        size_fits = tx.size_fits;
      }) in
      let rest = faults-same l (dy ++ x ∷ []) (dx ++ y ∷ []) (λ a b.
      rw (stands-more dy x a b, stands-more done y a b, stands-more dx y a b, stands-more done x a b, or_assoc, or_assoc)
      (rw (or_comm (is y a b) (is x a b)))) in
      rw (fy, fx, rest, g.1)

-- what precedes the constraints, and each constraint's own fields, stay
pub accepted-perm : (o : Opening) (es : List Element) (cs ds : List Constraint) → Perm cs ds
    → Accepted (record { opening = o; elements = es; constraints = cs }) → Accepted (record { opening = o; elements = es; constraints = ds })
accepted-perm o es cs ds p h = record {
  elements_fit = h.elements_fit;
  elements_allowed = h.elements_allowed;
  constraints_fit = rw (length-perm p) at h.constraints_fit;
  no_fault = faults-perm es p [] h.no_fault;
}

-- ---- blocks

pub facts_of-sheet_of : (f : Facts) → facts_of (sheet_of f) ≡ f
unfolding sheet_of
facts_of-sheet_of f = rw (take-append_seam f.elements, take-append_seam f.constraints)

pub sheet_of-fault : (f : Facts) → Accepted f → sheet_fault (sheet_of f) ≡ 0
unfolding sheet_fault sheet_of
sheet_of-fault f h =
    rw (
      h.elements_fit,
      take-append_seam f.elements,
      h.elements_allowed,
      h.constraints_fit,
      take-append_seam f.constraints,
    ) h.no_fault

-- blocks that no rule refuses
pub record NoFault (s : Sheet) : Type 0 where
  pub elements_fit : elements_in_range s.n ≡ true
  pub elements_allowed : elements_fault s.opening (facts_of s).elements ≡ 0
  pub constraints_fit : constraints_in_range s.e ≡ true
  pub no_fault : constraints_fault (facts_of s).elements [] (facts_of s).constraints ≡ 0

pub sheet_fault-none : (s : Sheet) → sheet_fault s ≡ 0 → NoFault s
unfolding sheet_fault
sheet_fault-none s h =
    let a = unless-none (elements_in_range s.n) 2 _ h in
    let b = none-else (elements_fault s.opening (facts_of s).elements) _ a.1 in
    let c = unless-none (constraints_in_range s.e) 4 _ b.1 in
    record { elements_fit = a.0; elements_allowed = b.0; constraints_fit = c.0; no_fault = c.1 }

-- and that have the right lengths
module _ (s : Sheet) (elements : length s.elements ≡ 64) (constraints : length s.constraints ≡ 200) where
  pub facts_of-accepted : sheet_fault s ≡ 0 → Accepted (facts_of s)
  facts_of-accepted h =
      let f = sheet_fault-none s h in
      let n_is : length (take s.n s.elements) ≡ s.n = length-take-le s.n s.elements (omega (arith, elements-most s.n f.elements_fit)) in
      let e-is : length (take s.e s.constraints) ≡ s.e =
      length-take-le s.e s.constraints (omega (arith, constraints-most s.e f.constraints_fit)) in
      record {
        elements_fit = rw n_is f.elements_fit;
        elements_allowed = f.elements_allowed;
        constraints_fit = rw e-is f.constraints_fit;
        no_fault = f.no_fault;
      }
