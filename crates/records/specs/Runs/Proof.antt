-- A record and a value that hold the same facts answer alike, event after event. Assumes nothing.
use Rattle.std.specs.Prelude.{◌^◌, ◌≤◌, ◌<◌, ◌≡◌, ◌∷◌, ◌++◌}
use Rattle.theory.specs.Prelude.{ℕ, zero, suc, dec_lt, arith, refl, sym, ap, ap₂, ◌∙◌, subst, inl, inr, List, [], map}
use Rattle.theory.specs.Prelude.{append_assoc, le-leb, le-ltb, ne_eqb}
use Rattle.theory.specs.Prelude.{length, drop, length-append, length-drop, take_at}
use Rattle.space.specs.Space.{after}
use Rattle.space.specs.Space.Laws.{long-answer, put_refused}
use Rattle.theory.specs.Graph.{verdict_of}
use Rattle.sheet.specs.declared.Constraint.{Constraint}
use Rattle.sheet.specs.declared.Sheet.{Sheet}
use Rattle.sheet.specs.Facts.{Facts, facts_of}
use Rattle.sheet.specs.Field.{Field, value, refused, next}
use Rattle.sheet.specs.Field.Laws.{field-digits, next-value, refused-value}
use Rattle.sheet.specs.Rules.Laws.{constraints-most}
use Rattle.sheet.specs.Encode.{sheet_bytes}
use Rattle.sheet.specs.Encode.Laws.{sheet-length}
use Rattle.sheet.specs.Accepted.{Accepted}
use Rattle.sheet.specs.Accepted.Laws.{accepted-most}
use Rattle.sheet.specs.Answer.{by_rule}
use Rattle.sheet.specs.Graph.{graph_of, over_fault}
use Rattle.sheet.specs.RoundTrip.{read-written}
use Rattle.sketch.specs.Judgement.{Judgement}
use Rattle.sketch.specs.Judgement.{Is, Refused}
use Rattle.sketch.specs.Sketch.{extended, next_fault, by27, ask_fault, place_fault, as_judged, ask_answer}
use Rattle.sketch.specs.Sketch.Laws.{ask-place, ask-sound, place-sound, refused-placed, taken-placed, stored-facts}
use Rattle.sketch.specs.Runs.{Event, asks, places, answer_of, after_of, answers_to, after_all, Told, takes, refuses, Held}
use Rattle.sketch.specs.Runs.Proof.{Rule, next-rule, writes, room, held-accepted, Step, asking, placing, refusing, staling, after-held, step}
use Rattle.records.specs.Record.{record_bytes, record_sheet, place_field, held_record}
use Rattle.records.specs.Record.Laws.{asked-value}
use Rattle.records.specs.Record.Room.{more-held, record-room}
use Rattle.records.specs.Runs.{answer_in, after_in, answers_in, all_in, NoRoom, PlacesAnyLength, unless17, others_than17, with_room, SameFacts}
use Rattle.records.specs.Runs.{RecordRuns}

-- ---- what is written in a record stands there

module _ (g : Facts) (h : Accepted g) where
  short : length (sheet_bytes g) ≤ 1678
  short = sheet-length g (accepted-most g h) (constraints-most (length g.constraints) h.constraints_fit)

  stands : (tail : List ℕ) → record_sheet (record_bytes g ++ tail) ≡ value g []
  unfolding record_sheet record_bytes
  stands tail =
      let u = length (sheet_bytes g) in
      let below : u < 256 ^ 2 = omega (arith, short) in
      let all : u ≤ length (sheet_bytes g ++ tail) = omega (arith, length-append (sheet_bytes g) tail) in
      rw (append_assoc, field-digits 2 u (sheet_bytes g ++ tail) below, le-leb _ _ all, take_at (sheet_bytes g) tail u refl, read-written g h)

  module _ (lent : List ℕ) (fits : length (record_bytes g) ≤ length lent) where
    after_is : after (record_bytes g) lent ≡ record_bytes g ++ drop (length (record_bytes g)) lent
    unfolding after
    after_is = rw (le-ltb _ _ fits)

    pub after-stands : record_sheet (after (record_bytes g) lent) ≡ value g []
    after-stands = ap record_sheet after_is ∙ stands (drop (length (record_bytes g)) lent)

    pub after-long : length (after (record_bytes g) lent) ≡ length lent
    after-long = ap length after_is ∙ omega (arith, length-append (record_bytes g) (drop (length (record_bytes g)) lent), length-drop (length (record_bytes g)) lent)

-- ---- one event

-- what it is answered of both, and what both hold then
pub record Alike (lent : List ℕ) (s : Sheet) (e : Event) : Type 0 where
  pub answers : answer_in lent e ≡ answer_of s e
  pub facts : SameFacts (after_in lent e) (after_of s e)
  pub long : length (after_in lent e) ≡ length lent

-- a placing that 17 refuses
pub record Short (lent : List ℕ) (e : Event) : Type 0 where
  pub by17 : answer_in lent e ≡ Refused 17
  pub unchanged : after_in lent e ≡ lent

pub data One (lent : List ℕ) (s : Sheet) (e : Event) : Type 0 where
  same_answer : Alike lent s e → One lent s e
  no_room : length lent < 1155 → Short lent e → One lent s e

module _ (lent : List ℕ) (s : Sheet) (h : Held s) (same : SameFacts lent s) where
  one : (e : Event) → One lent s e
  one (asks c) = same_answer (record { answers = asked-value lent c same ∙ sym (ask-sound s c (writes s h)); facts = same; long = refl })
  one (places c held) = by (place_fault (facts_of s) c held) refl
    where
      g : Facts
      g = extended (facts_of s) c

      fits : Accepted g → place_fault (facts_of s) c held ≡ 0 → length (record_bytes g) ≤ length lent → Alike lent s (places c held)
      fits a z l =
          let t = taken-placed s c held (place-sound s c held (writes s h) ∙ z) in
          record {
            answers = rw (same, z, long-answer (record_bytes g) lent l) (sym t.0);
            facts =
                rw (same, z) (after-stands g a lent l)
                ∙ ap (λ (f : Facts). value f []) (sym (ap facts_of t.1 ∙ stored-facts s c h.constraints_long (room s h)));
            long = rw (same, z) (after-long g a lent l);
          }

      taken : place_fault (facts_of s) c held ≡ 0 → Dec (length lent < length (record_bytes g)) → One lent s (places c held)
      taken z (yes l) =
          let (a, o) = more-held (facts_of s) c held (held-accepted s h) z in
          let w = put_refused (record_bytes g) lent l in
          no_room (omega (arith, record-room g a o))
          (record { by17 = rw (same, z, ← w.0); unchanged = rw (same, z) (sym w.1) })
      taken z (no l) = same_answer (fits (more-held (facts_of s) c held (held-accepted s h) z).0 z (omega arith))

      by : (k : ℕ) → place_fault (facts_of s) c held ≡ k → One lent s (places c held)
      by zero z = taken z (dec_lt (length lent) (length (record_bytes g)))
      by (suc k) z =
          let t = refused-placed s c held (suc k) (λ e. omega arith) (place-sound s c held (writes s h) ∙ z) in
          same_answer (record {
            answers = rw (same, z) (sym t.0);
            facts = rw (same, z) (same ∙ ap (λ (x : Sheet). value (facts_of x) []) (sym t.1));
            long = rw (same, z);
          })

  alike : 1155 ≤ length lent → (e : Event) → Alike lent s e
  alike long e = by (one e)
    where
      by : One lent s e → Alike lent s e
      by (same_answer a) = a
      by (no_room l a) = absurd (omega arith)

-- ---- every run

run : (lent : List ℕ) (s : Sheet) → 1155 ≤ length lent → Held s → SameFacts lent s → (events : List Event)
    → (answers_in lent events ≡ answers_to s events) × SameFacts (all_in lent events) (after_all s events)
unfolding answers_in all_in answers_to after_all
run lent s long h same [] = (refl, same)
run lent s long h same (e ∷ events) =
    let t = alike lent s h same long e in
    let (as', fs) = run (after_in lent e) (after_of s e) (omega (arith, t.long)) (after-held s h e (step s h e)) t.facts events in
    (rw (t.answers, as'), fs)

-- ---- a record of any length

-- no rule of a sketch by value is 17
not-next : (k : ℕ) → Rule k → k ≡ 17 → ⊥
not-next k (inl z) e = omega arith
not-next k (inr (inl z)) e = omega arith
not-next k (inr (inr (inl z))) e = omega arith
not-next k (inr (inr (inr (inl z)))) e = omega arith
not-next k (inr (inr (inr (inr (inl z))))) e = omega arith
not-next k (inr (inr (inr (inr (inr (inl z)))))) e = omega arith
not-next k (inr (inr (inr (inr (inr (inr (inl z))))))) e = omega arith
not-next k (inr (inr (inr (inr (inr (inr (inr z))))))) e = elim z [ ]

not-told : (f : Facts) (c : Constraint) (a : Judgement) → Told f c a → a ≡ Refused 17 → ⊥
not-told f c _ (takes z) e = let q : ◌≡◌ {A = ℕ} 0 1 = cc in omega arith
not-told f c _ (refuses k among z) e = let q : k ≡ 17 = cc in not-next k (inr among) q

not-17 : (s : Sheet) (e : Event) → Step s e → answer_of s e ≡ Refused 17 → ⊥
not-17 s _ (asking c t) q = not-told (facts_of s) c (ask_answer s c) t q
not-17 s _ (placing c held n e a t) q = let z : ◌≡◌ {A = ℕ} 0 1 = cc in omega arith
not-17 s _ (refusing c held k n r a t) q = not-told (facts_of s) c (Refused k) r (sym a ∙ q)
not-17 s _ (staling c held n a t) q = let z : ◌≡◌ {A = ℕ} 24 17 = cc in omega arith

module _ {A : Type 0} (x : A) (xs : List A) where
  kept : (a : Judgement) → (a ≡ Refused 17 → ⊥) → unless17 a x xs ≡ x ∷ xs
  kept (Is v) n = refl
  kept (Refused k) n = rw (ne_eqb k 17 (λ e. n (ap Refused e)))

  left_out : (a : Judgement) → a ≡ Refused 17 → unless17 a x xs ≡ xs
  left_out a e = rw e

abbrev ByValue : List ℕ → Sheet → List Event → Type 0
ByValue lent s events =
    (others_than17 (answers_in lent events) ≡ answers_to s (with_room lent events)) × SameFacts (all_in lent events) (after_all s (with_room lent events))

-- one event more
any-more : (lent : List ℕ) (s : Sheet) → Held s → (e : Event) (events : List Event) → One lent s e
    → (Alike lent s e → ByValue (after_in lent e) (after_of s e) events) → ByValue lent s events → ByValue lent s (e ∷ events)
unfolding answers_in all_in answers_to after_all others_than17 with_room
any-more lent s h e events (same_answer t) later same =
    let n : answer_in lent e ≡ Refused 17 → ⊥ = λ q. not-17 s e (step s h e) (sym t.answers ∙ q) in
    let (as', fs) = later t in
    let is = kept e (with_room (after_in lent e) events) (answer_in lent e) n in (
      kept (answer_in lent e) (others_than17 (answers_in (after_in lent e) events)) (answer_in lent e) n
          ∙ ap₂ (λ (a : Judgement) (l : List Judgement). a ∷ l) t.answers as' ∙ sym (ap (answers_to s) is),
      fs ∙ sym (ap (λ (l : List Event). value (facts_of (after_all s l)) []) is),
    )
any-more lent s h e events (no_room l t) later same =
    let (as', fs) = same in
    let is = left_out e (with_room (after_in lent e) events) (answer_in lent e) t.by17 ∙ ap (λ (b : List ℕ). with_room b events) t.unchanged in (
      left_out (answer_in lent e) (others_than17 (answers_in (after_in lent e) events)) (answer_in lent e) t.by17
          ∙ ap (λ (b : List ℕ). others_than17 (answers_in b events)) t.unchanged ∙ as' ∙ sym (ap (answers_to s) is),
      ap (λ (b : List ℕ). record_sheet (all_in b events)) t.unchanged ∙ fs ∙ sym (ap (λ (l : List Event). value (facts_of (after_all s l)) []) is),
    )

any_length : (lent : List ℕ) (s : Sheet) → Held s → SameFacts lent s → (events : List Event) → ByValue lent s events
unfolding answers_in all_in answers_to after_all others_than17 with_room
any_length lent s h same [] = (refl, same)
any_length lent s h same (e ∷ events) =
    any-more lent s h e events (one lent s h same e)
    (λ t. any_length (after_in lent e) (after_of s e) (after-held s h e (step s h e)) t.facts events) (any_length lent s h same events)

-- ---- placing by the number held

value_same : {f g : Facts} {s t : List ℕ} → ◌≡◌ {A = Field Facts} (value f s) (value g t) → f ≡ g
value_same e = cc

module _ (lent : List ℕ) (f : Facts) (c : Constraint) (held-is : held_record lent ≡ value f []) where
  abbrev number : ℕ
  number = length f.constraints

  pub read_is : (t : List ℕ) × (record_sheet lent ≡ value f t) × (over_fault (graph_of f) ≡ 0)
  unfolding held_record
  read_is = next-value (record_sheet lent) _ held-is (λ g t was e. by g t was (over_fault (graph_of g)) refl e)
    where
      by : (g : Facts) (t : List ℕ) → record_sheet lent ≡ value g t → (k : ℕ) → over_fault (graph_of g) ≡ k
          → by_rule (by27 k) (value g []) ≡ value f [] → (u : List ℕ) × (record_sheet lent ≡ value f u) × (over_fault (graph_of f) ≡ 0)
      by g t was zero z e = let same : g ≡ f = cc in (t, rw same at was, rw same at z)
      by g t was (suc k) z e = refused-value e

  fault-is : place_fault f c number ≡ next_fault f c
  unfolding ask_fault
  fault-is = ask-place f c ∙ rw read_is.2

  field_is : {k : ℕ} → next_fault f c ≡ k → place_field lent c number ≡ by_rule k (value (extended f c) [])
  field_is e = rw (read_is.1, fault-is, e)

  asked_is : {k : ℕ} → next_fault f c ≡ k → answer_in lent (asks c) ≡ as_judged k (verdict_of (graph_of (extended f c)))
  asked_is e =
      asked-value lent c read_is.1
      ∙ ap (λ (k : ℕ). as_judged k (verdict_of (graph_of (extended f c)))) (sym (ask-place f c) ∙ fault-is ∙ e)

  abbrev more : Facts
  more = extended f c

  places-any : PlacesAnyLength lent f c
  places-any = by (next_fault f c) refl
    where
      room : next_fault f c ≡ 0 → Dec (length lent < length (record_bytes more)) → PlacesAnyLength lent f c
      room z (yes l) =
          let q = field_is z in
          let w = put_refused (record_bytes more) lent l in
          let n : NoRoom lent c number = record { facts = more; takes = q; longer = l } in
          record {
            as_asked = λ m. absurd (m n);
            short = (λ e. n, λ m. rw (q, ← w.0));
            unchanged = λ m. rw q (sym w.1);
          }
      room z (no l) =
          let q = field_is z in
          let a : answer_in lent (places c number) ≡ Is (verdict_of (graph_of more)) = rw (q, long-answer (record_bytes more) lent (omega arith)) in
          let n : NoRoom lent c number → ⊥ = λ m.
          let same : more ≡ m.facts = value_same (sym q ∙ m.takes) in
          let longer : length lent < length (record_bytes more) = rw same m.longer in
          l longer in
          record {
            as_asked = λ m. a ∙ sym (asked_is z);
            short = (λ e. absurd (let y : ◌≡◌ {A = ℕ} 0 1 = cc in omega arith), λ m. absurd (n m));
            unchanged = λ m. absurd (n m);
          }

      by : (k : ℕ) → next_fault f c ≡ k → PlacesAnyLength lent f c
      by zero z = room z (dec_lt (length lent) (length (record_bytes more)))
      by (suc k) z =
          let q = field_is z in
          let a : answer_in lent (places c number) ≡ Refused (suc k) = rw q in
          let n : NoRoom lent c number → ⊥ = λ m. refused-value (sym q ∙ m.takes) in
          record {
            as_asked = λ m. a ∙ sym (asked_is z);
            short = (λ e. absurd (let y : suc k ≡ 17 = cc in not-next (suc k) (subst Rule z (next-rule f c)) y), λ m. absurd (n m));
            unchanged = λ m. absurd (n m);
          }

-- ---- a record that may not be held

pub data Unheld (lent : List ℕ) : Type 0 where
  unread : record_sheet lent ≡ refused 27 → Unheld lent
  over : (f : Facts) (t : List ℕ) (k : ℕ) → record_sheet lent ≡ value f t → over_fault (graph_of f) ≡ suc k → Unheld lent

-- the facts, unless they are over
abbrev held_facts : Field Facts → Field Facts
held_facts x = next x (λ f rest. by_rule (by27 (over_fault (graph_of f))) (value f []))

unheld : (lent : List ℕ) → held_record lent ≡ refused 27 → Unheld lent
unfolding held_record
unheld lent e = by (record_sheet lent) refl
  where
    over_by : (f : Facts) (t : List ℕ) → record_sheet lent ≡ value f t → (k : ℕ) → over_fault (graph_of f) ≡ k
        → by_rule (by27 k) (value f []) ≡ refused 27 → Unheld lent
    over_by f t q zero o n = absurd (let z : ◌≡◌ {A = ℕ} 0 1 = cc in omega arith)
    over_by f t q (suc k) o n = over f t k q o

    by : (x : Field Facts) → record_sheet lent ≡ x → Unheld lent
    by (value f t) q = over_by f t q (over_fault (graph_of f)) refl (sym (ap held_facts q) ∙ e)
    by (refused k) q = unread (q ∙ sym (ap held_facts q) ∙ e)

never-event : (lent : List ℕ) → Unheld lent → (e : Event) → (answer_in lent e ≡ Refused 27) × (after_in lent e ≡ lent)
unfolding ask_fault place_fault
never-event lent (unread q) (asks c) = (rw q, refl)
never-event lent (unread q) (places c held) = rw q (refl, refl)
never-event lent (over f t k q o) (asks c) = (rw (q, o), refl)
never-event lent (over f t k q o) (places c held) = rw (q, o) (refl, refl)

never : (lent : List ℕ) → Unheld lent → (events : List Event)
    → (answers_in lent events ≡ map (λ (e : Event). Refused 27) events) × (all_in lent events ≡ lent)
unfolding answers_in all_in
never lent n [] = (refl, refl)
never lent n (e ∷ events) =
    let (a, t) = never-event lent n e in
    let (as', ts) = never lent n events in
    rw (t, a, as', ts) (refl, refl)

pub record-runs : RecordRuns
record-runs = record { run = run; any_length = any_length; places = λ lent f e c. places-any lent f c e; never = λ lent e. never lent (unheld lent e) }
