-- What one constraint more changes, and which rule refuses it. Assumes nothing.
use Rattle.std.specs.Prelude.{◌+◌, ◌≤◌, ◌<◌, ◌≡◌, ◌∷◌, ◌++◌}
use Rattle.theory.specs.Prelude.{ℕ, zero, suc, add-one, arith, refl, ◌∙◌, ap, sym, true, List, [], append-nil}
use Rattle.theory.specs.Prelude.{append_assoc, le-leb, eq-eqb, ℤ, length, length-append, take-suc-set}
use Rattle.std.specs.Prelude.{Result, Ok, Err, Bool, false}
use Rattle.std.specs.Result.{is_err, is_ok}
use Rattle.theory.specs.declared.Rule.{Rule}
use Rattle.theory.specs.Rule.{refusal, by_number}
use Rattle.theory.specs.Rule.Laws.{rule-some}
use Rattle.sheet.specs.declared.Element.{Element}
use Rattle.sheet.specs.declared.Constraint.{Constraint}
use Rattle.sheet.specs.declared.Sheet.{Sheet}
use Rattle.sheet.specs.Facts.{Facts, facts_of}
use Rattle.sheet.specs.Rules.{or_else, constraints_in_range, constraint_fault, constraints_fault, sheet_fault}
use Rattle.sheet.specs.Accepted.{Accepted}
use Rattle.sheet.specs.Accepted.Laws.{sheet_fault-none}
use Rattle.sheet.specs.Graph.{graph_of, over_fault}
use Rattle.sheet.specs.Graph.Laws.{length-clusters, fault-none}
use Rattle.theory.specs.Graph.{verdict_of}
use Rattle.theory.specs.declared.Verdict.{Verdict}
use Rattle.graph.specs.declared.Front.{Front}
use Rattle.graph.specs.declared.Head.{Head}
use Rattle.graph.specs.Lent.{InArrays, SheetIn}
use Rattle.graph.specs.Lent.Sheets.{accepted-sound, found-fine, fine-few}
use Rattle.sketch.specs.Judgement.{Is, Refused}
use Rattle.sketch.specs.Sketch.{extended, by27, ask_fault, place_fault, ask_rule, place_rule, as_judged}
use Rattle.sketch.specs.Sketch.{ask_answer, place_answer, stored, place_after}

-- ---- what is checked: no rule of one that passes, some rule of one that does not

pub passed-none : {A : Type 0} (r : Result A Rule) → false ≡ is_err r → refusal r ≡ 0
passed-none (Ok a) e = refl
passed-none (Err k) e = absurd (let z : ◌≡◌ {A = Bool} false true = e in cc)

pub failed-some : {A : Type 0} (r : Result A Rule) → true ≡ is_err r → refusal r ≡ 0 → ⊥
failed-some (Ok a) e z = absurd (let w : ◌≡◌ {A = Bool} true false = e in cc)
failed-some (Err k) e z = rule-some k z

-- ---- facts that are not over have few constraints

pub few-held : (f : Facts) → Accepted f → over_fault (graph_of f) ≡ 0 → length f.constraints ≤ 125
few-held f a o =
    let s = accepted-sound f a in
    omega (arith, fine-few s (found-fine s (fault-none (graph_of f) o)), length-clusters f)

-- ---- one constraint more

or-else-assoc : (i j k : ℕ) → or_else i (or_else j k) ≡ or_else (or_else i j) k
or-else-assoc zero j k = refl
or-else-assoc (suc i) j k = refl

or-else-zero : (k : ℕ) → or_else k 0 ≡ k
or-else-zero zero = refl
or-else-zero (suc k) = refl

-- the faults of a list with one constraint more
faults-more : (es : List Element) (cs done : List Constraint) (c : Constraint)
    → constraints_fault es done (cs ++ c ∷ []) ≡ or_else (constraints_fault es done cs) (constraint_fault es (done ++ cs) c)
unfolding constraints_fault
faults-more es [] done c = or-else-zero (constraint_fault es done c) ∙ rw append-nil
faults-more es (d ∷ cs) done c =
    rw (faults-more es cs (done ++ d ∷ []) c, or-else-assoc (constraint_fault es done d) (constraints_fault es (done ++ d ∷ []) cs), append_assoc)

pub extended_none : (f : Facts) (c : Constraint) → constraints_fault f.elements [] f.constraints ≡ 0
    → constraint_fault f.elements f.constraints c ≡ 0
    → constraints_fault f.elements [] (f.constraints ++ c ∷ []) ≡ 0
extended_none f c e k = rw (faults-more f.elements f.constraints [] c, e, k)

-- no rule refuses the facts with it
pub extended-accepted : (f : Facts) (c : Constraint) → Accepted f → length f.constraints < 200
    → constraint_fault f.elements f.constraints c ≡ 0
    → Accepted (extended f c)
extended-accepted f c h l k = record {
  elements_fit = h.elements_fit;
  elements_allowed = h.elements_allowed;
  constraints_fit = rw length-append (le-leb (length f.constraints + 1) 200 (omega arith));
  no_fault = extended_none f c h.no_fault k;
}

-- nor the arrays with it
pub extended-in : {f : Facts} {h : Front} {near start near' start' radii : List ℕ} {codes codes' : List ℤ} (c : Constraint)
    → SheetIn f h near start codes radii
    → length f.constraints < 200 → constraint_fault f.elements f.constraints c ≡ 0 → InArrays (f.constraints ++ c ∷ []) near' start' codes'
    → SheetIn (extended f c) (record { opening = h.opening; n = h.n; e = h.e + 1; kinds = h.kinds }) near' start' codes' radii
extended-in {f} {h} c a l k more =
    let more-count : h.e + 1 ≡ length (f.constraints ++ c ∷ []) =
    ap (λ (x : Head). x.e + 1) a.head_is ∙ sym (length-append f.constraints (c ∷ [])) in
    record {
      accepted = extended-accepted f c a.accepted l k;
      opening_is = a.opening_is;
      head_is = λ z. record { n = (a.head_is z).n; e = more-count z; lines = (a.head_is z).lines };
      kinds_in = a.kinds_in;
      arrays = more;
    }

-- the constraint in the block
module _ (s : Sheet) (c : Constraint) (long : length s.constraints ≡ 200) (room : s.e < 200) where
  pub stored-facts : facts_of (stored s c) ≡ extended (facts_of s) c
  unfolding stored
  stored-facts =
      let q : s.e < length s.constraints = rw long room in
      rw (add-one, take-suc-set s.constraints s.e c q)

  pub stored-fault : sheet_fault s ≡ 0 → constraint_fault (facts_of s).elements (facts_of s).constraints c ≡ 0 → sheet_fault (stored s c) ≡ 0
  unfolding sheet_fault stored
  stored-fault e k =
      let h = sheet_fault-none s e in
      let q : s.e < length s.constraints = rw long room in
      let m : constraints_in_range (s.e + 1) ≡ true = le-leb (s.e + 1) 200 (omega arith) in
      rw (h.elements_fit, h.elements_allowed, m, add-one, take-suc-set s.constraints s.e c q)
      (extended_none (facts_of s) c h.no_fault k)

-- ---- the rules in their order

module _ (s : Sheet) (c : Constraint) (held : ℕ) where
  -- facts that the writer refuses
  pub place-unsound : (sheet_fault s ≡ 0 → ⊥) → place_rule s c held ≡ 27
  unfolding place_rule
  place-unsound n = go (sheet_fault s) refl
    where
      go : (k : ℕ) → sheet_fault s ≡ k → or_else (by27 k) (place_fault (facts_of s) c held) ≡ 27
      go zero e = absurd (n e)
      go (suc k) e = refl

  pub place-sound : sheet_fault s ≡ 0 → place_rule s c held ≡ place_fault (facts_of s) c held
  unfolding place_rule
  place-sound e = rw e

  pub answer-sound : sheet_fault s ≡ 0
      → place_answer s c held ≡ as_judged (place_fault (facts_of s) c held) (verdict_of (graph_of (extended (facts_of s) c)))
  unfolding place_answer
  answer-sound e = rw (place-sound e)

  -- a refusal leaves the sketch
  pub refused-placed : (k : ℕ) → (k ≡ 0 → ⊥) → place_rule s c held ≡ k → (place_answer s c held ≡ Refused k) × (place_after s c held ≡ s)
  unfolding place_answer place_after
  refused-placed zero n e = absurd (n refl)
  refused-placed (suc k) n e = rw e (refl, refl)

  pub unsound-placed : (sheet_fault s ≡ 0 → ⊥) → (place_answer s c held ≡ Refused 27) × (place_after s c held ≡ s)
  unsound-placed n = refused-placed 27 (λ z. omega arith) (place-unsound n)

  pub taken-placed : place_rule s c held ≡ 0
      → (place_answer s c held ≡ Is (verdict_of (graph_of (extended (facts_of s) c)))) × (place_after s c held ≡ stored s c)
  unfolding place_answer place_after
  taken-placed e = rw e (refl, refl)

-- asking is placing by the number held
pub ask-place : (f : Facts) (c : Constraint) → place_fault f c (length f.constraints) ≡ ask_fault f c
unfolding place_fault ask_fault
ask-place f c = rw (eq-eqb (length f.constraints) (length f.constraints) refl)

pub ask-unsound : (s : Sheet) (c : Constraint) → (sheet_fault s ≡ 0 → ⊥) → ask_answer s c ≡ Refused 27
unfolding ask_answer ask_rule
ask-unsound s c n = go (sheet_fault s) refl
  where
    go : (k : ℕ) → sheet_fault s ≡ k
        → as_judged (or_else (by27 k) (ask_fault (facts_of s) c)) (verdict_of (graph_of (extended (facts_of s) c))) ≡ Refused 27
    go zero e = absurd (n e)
    go (suc k) e = refl

pub ask-sound : (s : Sheet) (c : Constraint) → sheet_fault s ≡ 0
    → ask_answer s c ≡ as_judged (ask_fault (facts_of s) c) (verdict_of (graph_of (extended (facts_of s) c)))
unfolding ask_answer ask_rule
ask-sound s c e = rw e

-- a rule that refuses is answered
pub judged-refused : (k : ℕ) (v : Verdict) → (k ≡ 0 → ⊥) → as_judged k v ≡ Refused k
judged-refused zero v n = absurd (n refl)
judged-refused (suc k) v n = refl

pub judged-taken : (k : ℕ) (v : Verdict) {w : Verdict} → as_judged k v ≡ Is w → k ≡ 0
judged-taken zero v e = refl
judged-taken (suc k) v e = absurd (let z : ◌≡◌ {A = ℕ} 0 1 = cc in omega arith)

pub judged-not : (k : ℕ) (v : Verdict) {j : ℕ} → as_judged k v ≡ Refused j → (k ≡ j) × (k ≡ 0 → ⊥)
judged-not zero v e = absurd (let z : ◌≡◌ {A = ℕ} 0 1 = cc in omega arith)
judged-not (suc k) v e = (cc, λ z. omega arith)

-- what the answer says of the rules
module _ (s : Sheet) (c : Constraint) (held : ℕ) where
  pub is-placed : {v : Verdict} → place_answer s c held ≡ Is v → place_rule s c held ≡ 0
  unfolding place_answer
  is-placed e = judged-taken (place_rule s c held) _ e

  pub not-placed : {k : ℕ} → place_answer s c held ≡ Refused k → place_after s c held ≡ s
  unfolding place_answer
  not-placed {k} e =
      let n = judged-not (place_rule s c held) _ e in
      (refused-placed s c held (place_rule s c held) n.1 refl).1

  -- by whether it is a verdict
  pub ok-placed : (r : Result Verdict Rule) → true ≡ is_ok r → by_number r ≡ place_answer s c held → place_rule s c held ≡ 0
  ok-placed (Ok v) e p = is-placed (sym p)
  ok-placed (Err k) e p = absurd (let w : ◌≡◌ {A = Bool} true false = e in cc)

  pub err-placed : (r : Result Verdict Rule) → false ≡ is_ok r → by_number r ≡ place_answer s c held → place_after s c held ≡ s
  err-placed (Ok v) e p = absurd (let w : ◌≡◌ {A = Bool} false true = e in cc)
  err-placed (Err k) e p = not-placed (sym p)
