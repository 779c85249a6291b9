-- Every run of asks and placings, by induction on it: one event is answered as a plain list answers it. Assumes nothing.
use Rattle.std.specs.Prelude.{◌<◌, ◌≡◌, ◌≢◌, ◌⊎◌, ◌∷◌, ◌++◌}
use Rattle.theory.specs.Prelude.{ℕ, zero, suc, ℕ_discrete, arith, refl, sym, ap, ◌∙◌, subst, inl, inr, Bool, true, false, cond}
use Rattle.theory.specs.Prelude.{not, List, [], map, append-nil, append_assoc, length, length-set, length-append, length-take}
use Rattle.theory.specs.Prelude.{length-replicate}
use Rattle.theory.specs.Constraints.{Among}
use Rattle.theory.specs.Finding.{Finding}
use Rattle.theory.specs.Finding.{Fine, First}
use Rattle.theory.specs.Graph.{finding_of, verdict_of}
use Rattle.sheet.specs.declared.Kind.{Kind}
use Rattle.sheet.specs.declared.PairKind.{PairKind}
use Rattle.sheet.specs.declared.Size.{Size}
use Rattle.sheet.specs.declared.Size.TheVariants.{Given, Missing, Tangent, OtherTangent, Unfit}
use Rattle.sheet.specs.declared.Constraint.{Constraint}
use Rattle.sheet.specs.declared.Sheet.{Sheet}
use Rattle.sheet.specs.Facts.{Facts, kind_at, sheet_of, facts_of}
use Rattle.sheet.specs.Rules.{ends_ascend, stands, pair_of, size_allowed, radii_differ, size_in_range, range_fault, size_fault}
use Rattle.sheet.specs.Rules.{or_else, constraint_fault, sheet_fault}
use Rattle.sheet.specs.Accepted.{Accepted}
use Rattle.sheet.specs.Rules.Laws.{none-else, constraints-most}
use Rattle.sheet.specs.Accepted.Laws.{accepted-most, facts_of-accepted, facts_of-sheet_of, sheet_of-fault}
use Rattle.sheet.specs.Graph.{graph_of, over_rule, over_fault}
use Rattle.sketch.specs.Judgement.{Judgement}
use Rattle.sketch.specs.Judgement.{Is, Refused}
use Rattle.sketch.specs.Sketch.{extended, next_fault, ask_fault, place_fault, place_rule, as_judged}
use Rattle.sketch.specs.Sketch.{ask_answer, place_answer, stored, place_after}
use Rattle.sketch.specs.Sketch.Laws.{few-held, stored-facts, stored-fault, ask-sound, ask-unsound, place-sound, place-unsound}
use Rattle.sketch.specs.Sketch.Laws.{refused-placed, taken-placed}
use Rattle.sketch.specs.Placing.Laws.{place-asked, place-stale}
use Rattle.sketch.specs.Runs.{Event, asks, places, answer_of, after_of, answers_to, after_all, Told, takes, refuses}
use Rattle.sketch.specs.Runs.{Plain, ends, asked, placed, refused, another, hold_fault, Held, placed_by, placed_in, Runs}

-- ---- no other rule refuses

abbrev pub Rule : ℕ → Type 0
Rule k = (k ≡ 0) ⊎ Among k (6 ∷ 7 ∷ 8 ∷ 20 ∷ 9 ∷ 11 ∷ [])

pick-rule : (b : Bool) {i j : ℕ} → Rule i → Rule j → Rule (cond b i j)
pick-rule true p q = p
pick-rule false p q = q

else-rule : (i j : ℕ) → Rule i → Rule j → Rule (or_else i j)
else-rule zero j p q = q
else-rule (suc i) j p q = p

range-rule : (p : PairKind) (z : Size) → Rule (range_fault p z)
range-rule p (Given z) = pick-rule (size_in_range p z) (inl refl) (inr (inr (inr (inr (inr (inl refl))))))
range-rule p Missing = inl refl
range-rule p Tangent = inl refl
range-rule p OtherTangent = inl refl
range-rule p Unfit = inl refl

size-rule : (j k : Kind) (z : Size) → Rule (size_fault j k z)
unfolding size_fault
size-rule j k z =
    pick-rule (size_allowed j k z) (pick-rule (radii_differ j k z) (range-rule (pair_of j k) z) (inr (inr (inr (inr (inl refl)))))) (inr (inr (inr (inl refl))))

over-rule : (o : Finding) → Rule (over_rule o)
over-rule Fine = inl refl
over-rule (First c x) = inr (inr (inr (inr (inr (inr (inl refl))))))

pub next-rule : (f : Facts) (c : Constraint) → Rule (next_fault f c)
unfolding next_fault constraint_fault over_fault
next-rule f c =
    else-rule (constraint_fault f.elements f.constraints c) (over_fault (graph_of (extended f c)))
    (pick-rule (ends_ascend (length f.elements) c.first c.second) (pick-rule (not (stands f.constraints c.first c.second))
    (size-rule (kind_at f.elements c.first) (kind_at f.elements c.second) c.size) (inr (inr (inl refl)))) (inr (inl refl)))
    (over-rule (finding_of (graph_of (extended f c))))

named : (k : ℕ) → Rule (suc k) → Among (suc k) (6 ∷ 7 ∷ 8 ∷ 20 ∷ 9 ∷ 11 ∷ [])
named k (inl e) = absurd (omega arith)
named k (inr h) = h

told : (f : Facts) (c : Constraint) → Told f c (as_judged (next_fault f c) (verdict_of (graph_of (extended f c))))
told f c = go (next_fault f c) refl
  where
    go : (k : ℕ) → next_fault f c ≡ k → Told f c (as_judged k (verdict_of (graph_of (extended f c))))
    go zero e = takes e
    go (suc k) e = refuses (suc k) (named k (subst Rule e (next-rule f c))) e

-- ---- a record that may be held

module _ (s : Sheet) (h : Held s) where
  pub writes : sheet_fault s ≡ 0
  unfolding hold_fault
  writes = (none-else (sheet_fault s) (over_fault (graph_of (facts_of s))) h.no_fault).0

  not_over : over_fault (graph_of (facts_of s)) ≡ 0
  unfolding hold_fault
  not_over = (none-else (sheet_fault s) (over_fault (graph_of (facts_of s))) h.no_fault).1

  pub held-accepted : Accepted (facts_of s)
  held-accepted = facts_of-accepted s h.elements_long h.constraints_long writes

  pub room : s.e < 200
  room = omega (arith, length-take s.e s.constraints, h.constraints_long, few-held (facts_of s) held-accepted not_over)

  count : length (facts_of s).constraints ≡ s.e
  count = omega (arith, length-take s.e s.constraints, h.constraints_long, room)

  held-ask : (c : Constraint) → ask_answer s c ≡ as_judged (next_fault (facts_of s) c) (verdict_of (graph_of (extended (facts_of s) c)))
  unfolding ask_fault
  held-ask c = ask-sound s c writes ∙ rw not_over

  module _ (c : Constraint) (held : ℕ) where
    held-rule : held ≡ length (facts_of s).constraints → place_rule s c held ≡ next_fault (facts_of s) c
    unfolding ask_fault
    held-rule e = place-sound s c held writes ∙ place-asked (facts_of s) c held e ∙ rw not_over

    stale-rule : held ≢ length (facts_of s).constraints → place_rule s c held ≡ 24
    stale-rule n = place-sound s c held writes ∙ place-stale (facts_of s) c held n ∙ rw not_over

  stored-held : (c : Constraint) → next_fault (facts_of s) c ≡ 0 → Held (stored s c)
  unfolding stored hold_fault next_fault
  stored-held c e =
      let k = none-else (constraint_fault (facts_of s).elements (facts_of s).constraints c) (over_fault (graph_of (extended (facts_of s) c))) e in
      record {
        elements_long = h.elements_long;
        constraints_long = rw length-set h.constraints_long;
        no_fault =
            rw (stored-fault s c h.constraints_long room writes k.0)
            (ap (λ (f : Facts). over_fault (graph_of f)) (stored-facts s c h.constraints_long room) ∙ k.1);
      }

-- the blocks of facts that no rule refuses and that are not over
module _ (f : Facts) (h : Accepted f) (o : over_fault (graph_of f) ≡ 0) where
  held_none : hold_fault (sheet_of f) ≡ 0
  unfolding hold_fault
  held_none = rw (sheet_of-fault f h) (ap (λ (x : Facts). over_fault (graph_of x)) (facts_of-sheet_of f) ∙ o)

  pub sheet-held : Held (sheet_of f)
  unfolding sheet_of
  sheet-held = record {
    elements_long = rw (length-append, length-replicate) (omega (arith, accepted-most f h));
    constraints_long = rw (length-append, length-replicate) (omega (arith, constraints-most (length f.constraints) h.constraints_fit));
    no_fault = held_none;
  }

-- ---- one event

-- what it is answered, and the record after it
pub data Step (s : Sheet) : Event → Type 0 where
  asking : (c : Constraint) → Told (facts_of s) c (ask_answer s c) → Step s (asks c)
  placing : (c : Constraint) (held : ℕ) → held ≡ length (facts_of s).constraints → next_fault (facts_of s) c ≡ 0
      → place_answer s c held ≡ Is (verdict_of (graph_of (extended (facts_of s) c))) → place_after s c held ≡ stored s c → Step s (places c held)
  refusing : (c : Constraint) (held k : ℕ) → held ≡ length (facts_of s).constraints → Told (facts_of s) c (Refused k)
      → place_answer s c held ≡ Refused k → place_after s c held ≡ s → Step s (places c held)
  staling : (c : Constraint) (held : ℕ) → held ≢ length (facts_of s).constraints → place_answer s c held ≡ Refused 24 → place_after s c held ≡ s
      → Step s (places c held)

pub step : (s : Sheet) → Held s → (e : Event) → Step s e
step s h (asks c) = asking c (subst (Told (facts_of s) c) (sym (held-ask s h c)) (told (facts_of s) c))
step s h (places c held) = by (ℕ_discrete held (length (facts_of s).constraints))
  where
    next : held ≡ length (facts_of s).constraints → (k : ℕ) → next_fault (facts_of s) c ≡ k → Step s (places c held)
    next n zero e = let t = taken-placed s c held (held-rule s h c held n ∙ e) in placing c held n e t.0 t.1
    next n (suc k) e =
        let t = refused-placed s c held (suc k) (λ z. omega arith) (held-rule s h c held n ∙ e) in
        let r = refuses (suc k) (named k (subst Rule e (next-rule (facts_of s) c))) e in
        refusing c held (suc k) n r t.0 t.1

    by : Dec (held ≡ length (facts_of s).constraints) → Step s (places c held)
    by (yes n) = next n (next_fault (facts_of s) c) refl
    by (no n) =
        let t = refused-placed s c held 24 (λ z. omega arith) (stale-rule s h c held n) in staling c held n t.0 t.1

-- ---- every run

pub after-held : (s : Sheet) → Held s → (e : Event) → Step s e → Held (after_of s e)
after-held s h _ (asking c t) = h
after-held s h _ (placing c held n e a t) = subst Held (sym t) (stored-held s h c e)
after-held s h _ (refusing c held k n r a t) = subst Held (sym t) h
after-held s h _ (staling c held n a t) = subst Held (sym t) h

plain_step : (s : Sheet) → Held s → (e : Event) → Step s e → (events : List Event) (answers : List Judgement) (g : Facts)
    → Plain (facts_of (after_of s e)) events answers g → Plain (facts_of s) (e ∷ events) (answer_of s e ∷ answers) g
plain_step s h _ (asking c t) events answers g p = asked (facts_of s) c (ask_answer s c) events answers g t p
plain_step s h _ (placing c held n e a t) events answers g p =
    let is = ap facts_of t ∙ stored-facts s c h.constraints_long (room s h) in
    rw a (placed (facts_of s) c held _ events answers g n (takes e) (subst (λ (f : Facts). Plain f events answers g) is p))
plain_step s h _ (refusing c held k n r a t) events answers g p =
    rw a (refused (facts_of s) c held k events answers g n r (subst (λ (x : Sheet). Plain (facts_of x) events answers g) t p))
plain_step s h _ (staling c held n a t) events answers g p =
    rw a (another (facts_of s) c held events answers g n (subst (λ (x : Sheet). Plain (facts_of x) events answers g) t p))

-- what a placed constraint leaves as it was
module _ {A : Type 0} (part : Facts → A) (kept : (f : Facts) (c : Constraint) → part (extended f c) ≡ part f) where
  step_kept : (s : Sheet) → Held s → (e : Event) → Step s e → part (facts_of (after_of s e)) ≡ part (facts_of s)
  step_kept s h _ (asking c t) = refl
  step_kept s h _ (placing c held n e a t) = ap part (ap facts_of t ∙ stored-facts s c h.constraints_long (room s h)) ∙ kept (facts_of s) c
  step_kept s h _ (refusing c held k n r a t) = ap (λ (x : Sheet). part (facts_of x)) t
  step_kept s h _ (staling c held n a t) = ap (λ (x : Sheet). part (facts_of x)) t

step-constraints : (s : Sheet) → Held s → (e : Event) → Step s e → (later : List Constraint)
    → (facts_of (after_of s e)).constraints ++ later ≡ (facts_of s).constraints ++ (placed_by e (answer_of s e) ++ later)
step-constraints s h _ (asking c t) later = refl
step-constraints s h _ (placing c held n e a t) later =
    ap (λ (x : Facts). x.constraints ++ later) (ap facts_of t ∙ stored-facts s c h.constraints_long (room s h)) ∙ rw (a, append_assoc)
step-constraints s h _ (refusing c held k n r a t) later = ap (λ (x : Sheet). (facts_of x).constraints ++ later) t ∙ rw a
step-constraints s h _ (staling c held n a t) later = ap (λ (x : Sheet). (facts_of x).constraints ++ later) t ∙ rw a

all_held : (s : Sheet) → Held s → (events : List Event) → Held (after_all s events)
unfolding after_all
all_held s h [] = h
all_held s h (e ∷ events) = all_held (after_of s e) (after-held s h e (step s h e)) events

all_plain : (s : Sheet) → Held s → (events : List Event) → Plain (facts_of s) events (answers_to s events) (facts_of (after_all s events))
unfolding after_all answers_to
all_plain s h [] = ends (facts_of s)
all_plain s h (e ∷ events) =
    let t = step s h e in plain_step s h e t events _ _ (all_plain (after_of s e) (after-held s h e t) events)

module _ {A : Type 0} (part : Facts → A) (kept : (f : Facts) (c : Constraint) → part (extended f c) ≡ part f) where
  all-kept : (s : Sheet) → Held s → (events : List Event) → part (facts_of (after_all s events)) ≡ part (facts_of s)
  unfolding after_all
  all-kept s h [] = refl
  all-kept s h (e ∷ events) = let t = step s h e in all-kept (after_of s e) (after-held s h e t) events ∙ step_kept part kept s h e t

all-elements : (s : Sheet) → Held s → (events : List Event) → (facts_of (after_all s events)).elements ≡ (facts_of s).elements
all-elements = all-kept (λ f. f.elements) (λ f c. refl)

all-opening : (s : Sheet) → Held s → (events : List Event) → (facts_of (after_all s events)).opening ≡ (facts_of s).opening
all-opening = all-kept (λ f. f.opening) (λ f c. refl)

all-constraints : (s : Sheet) → Held s → (events : List Event)
    → (facts_of (after_all s events)).constraints ≡ (facts_of s).constraints ++ placed_in s events
unfolding after_all placed_in
all-constraints s h [] = sym (append-nil (facts_of s).constraints)
all-constraints s h (e ∷ events) =
    let t = step s h e in all-constraints (after_of s e) (after-held s h e t) events ∙ step-constraints s h e t (placed_in (after_of s e) events)

-- ---- the number of an ask before them

none-added : (xs ys : List Constraint) → length (xs ++ ys) ≡ length xs → xs ++ ys ≡ xs
none-added xs [] e = append-nil xs
none-added xs (y ∷ ys) e = absurd (omega (arith, length-append xs (y ∷ ys)))

module _ (s : Sheet) (h : Held s) (events : List Event) where
  abbrev later : Sheet
  later = after_all s events

  later-held : Held later
  later-held = all_held s h events

  same-facts : later.e ≡ s.e → facts_of later ≡ facts_of s
  same-facts e =
      let more = all-constraints s h events in
      let long : length ((facts_of s).constraints ++ placed_in s events) ≡ length (facts_of s).constraints =
      ap length (sym more) ∙ count later later-held ∙ e ∙ sym (count s h) in
      let cs = more ∙ none-added (facts_of s).constraints (placed_in s events) long in
      λ i. record { opening = all-opening s h events i; elements = all-elements s h events i; constraints = cs i }

  same_number : (c : Constraint) → later.e ≡ s.e → place_answer later c s.e ≡ ask_answer s c
  unfolding place_answer
  same_number c e =
      ap (λ (k : ℕ). as_judged k (verdict_of (graph_of (extended (facts_of later) c))))
      (held-rule later later-held c s.e (sym e ∙ sym (count later later-held)))
      ∙ ap (λ (f : Facts). as_judged (next_fault f c) (verdict_of (graph_of (extended f c)))) (same-facts e) ∙ sym (held-ask s h c)

  old_number : (c : Constraint) → later.e ≢ s.e → (place_answer later c s.e ≡ Refused 24) × (place_after later c s.e ≡ later)
  old_number c n =
      refused-placed later c s.e 24 (λ z. omega arith)
      (stale-rule later later-held c s.e (λ e. n (sym (count later later-held) ∙ sym e)))

-- ---- a record that may not be held

module _ (s : Sheet) (c : Constraint) (held : ℕ) (e : sheet_fault s ≡ 0) where
  hold-none : over_fault (graph_of (facts_of s)) ≡ 0 → hold_fault s ≡ 0
  unfolding hold_fault
  hold-none o = rw (e, o)

  ask-over : (k : ℕ) → over_fault (graph_of (facts_of s)) ≡ suc k → ask_answer s c ≡ Refused 27
  unfolding ask_fault
  ask-over k o = ask-sound s c e ∙ rw o

  place-over : (k : ℕ) → over_fault (graph_of (facts_of s)) ≡ suc k → place_rule s c held ≡ 27
  unfolding place_fault
  place-over k o = place-sound s c held e ∙ rw o

never-rule : (s : Sheet) → hold_fault s ≢ 0 → (c : Constraint) (held : ℕ) → (ask_answer s c ≡ Refused 27) × (place_rule s c held ≡ 27)
never-rule s n c held = by (sheet_fault s) refl
  where
    over : sheet_fault s ≡ 0 → (k : ℕ) → over_fault (graph_of (facts_of s)) ≡ k → (ask_answer s c ≡ Refused 27) × (place_rule s c held ≡ 27)
    over e zero o = absurd (n (hold-none s c held e o))
    over e (suc k) o = (ask-over s c held e k o, place-over s c held e k o)

    by : (k : ℕ) → sheet_fault s ≡ k → (ask_answer s c ≡ Refused 27) × (place_rule s c held ≡ 27)
    by zero e = over e (over_fault (graph_of (facts_of s))) refl
    by (suc k) e =
        let m : sheet_fault s ≢ 0 = λ z. let y : ◌≡◌ {A = ℕ} (suc k) 0 = sym e ∙ z in omega arith in (ask-unsound s c m, place-unsound s c held m)

never-event : (s : Sheet) → hold_fault s ≢ 0 → (e : Event) → (answer_of s e ≡ Refused 27) × (after_of s e ≡ s)
never-event s n (asks c) = ((never-rule s n c 0).0, refl)
never-event s n (places c held) = refused-placed s c held 27 (λ z. omega arith) (never-rule s n c held).1

never : (s : Sheet) → hold_fault s ≢ 0 → (events : List Event)
    → (answers_to s events ≡ map (λ (e : Event). Refused 27) events) × (after_all s events ≡ s)
unfolding after_all answers_to
never s n [] = (refl, refl)
never s n (e ∷ events) =
    let (a, t) = never-event s n e in
    let (as', ts) = never s n events in
    rw (t, a, as', ts) (refl, refl)

pub runs : Runs
runs = record {
  run = λ s h events. record {
    plain = all_plain s h events;
    opening = all-opening s h events;
    elements = all-elements s h events;
    constraints = all-constraints s h events;
    held = all_held s h events;
    same_number = same_number s h events;
    old_number = old_number s h events;
  };
  never = never;
}
