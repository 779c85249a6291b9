-- Each entry point refuses by its numbered rules alone: those of the fields that it reads, one after another. Assumes nothing.
use Rattle.std.specs.Prelude.{◌≤◌, ◌<◌, ◌≡◌, ◌↔◌, ◌⊎◌, ◌&&◌, ◌∷◌}
use Rattle.theory.specs.Prelude.{ℕ, zero, suc, dec_lt, arith, ltb-true, refl, sym, ◌∙◌, subst, inl, inr, Bool, true, false, cond, List}
use Rattle.theory.specs.Prelude.{[], eqb, ltb, Option, none, some, length}
use Rattle.theory.specs.Finding.{Finding}
use Rattle.theory.specs.Finding.{Fine, First}
use Rattle.theory.specs.Graph.{Graph, finding_of, verdict_of, steps_of}
use Rattle.theory.specs.declared.Step.{Step}
use Rattle.space.specs.Written.{Done, Refused}
use Rattle.space.specs.Space.{answer}
use Rattle.space.specs.Space.Laws.{long-answer, put_refused}
use Rattle.sheet.specs.declared.Constraint.{Constraint}
use Rattle.sheet.specs.declared.Sheet.{Sheet}
use Rattle.sheet.specs.Facts.{Facts, facts_of}
use Rattle.sheet.specs.Rules.{elements_in_range, fault_unless, or_else, sheet_fault}
use Rattle.sheet.specs.Field.{Field, value, refused, next, demand, field, Bytes}
use Rattle.sheet.specs.Field.Laws.{refused-value}
use Rattle.sheet.specs.Decode.{read_sheet}
use Rattle.sheet.specs.Encode.{sheet_bytes}
use Rattle.sheet.specs.Answer.{by_rule, answer_to}
use Rattle.sheet.specs.RoundTrip.{written_read}
use Rattle.sheet.specs.Refusals.{Rule, OfSheet, By, given, ruled, Fault}
use Rattle.sheet.specs.Refusals.Laws.{by_next, by-wider, which, by-sheet}
use Rattle.sheet.specs.Refusals.Laws.{fault-else, fault-sheet}
use Rattle.sheet.specs.Graph.{graph_of, sized_of, over_rule, over_fault}
use Rattle.plans.specs.Check.{saved_steps_of, plan_fault}
use Rattle.plans.specs.Check.Laws.{fault-range}
use Rattle.theory.specs.declared.Verdict.{Verdict}
use Rattle.theory.specs.Constraints.{Among}
use Rattle.sketch.specs.Judgement.{Is, Refused as Not}
use Rattle.sketch.specs.Sketch.{next_fault, by27, ask_fault, place_fault, ask_rule, place_rule, as_judged, ask_answer, place_answer}
use Rattle.sketch.specs.Runs.Proof.{Rule as Told-rule, next-rule}
use Rattle.records.specs.Record.{record_bytes, as27, counted, record_sheet, place_field, written_field, placed_in, held_record}
use Rattle.sketch.specs.Runs.{hold_fault}
use Rattle.held.specs.Held.{held_value, held_count_of}
use Rattle.account.specs.Account.{list_report, report_of}
use Rattle.steps.specs.Records.{filled_to}
use Rattle.account.specs.Account.Room.{report-room}
use Rattle.longest.specs.Longest.{longest_sheet, longest_field}
use Rattle.chain.specs.Says.{Refused as No}
use Rattle.chain.specs.Answer.{as_run, ends_fault, asked as chained, chain_to}
use Rattle.missing.specs.Missing.Laws.{by-rules}
use Rattle.pattern.specs.Entries.{report_field, held, held_sheet}
use Rattle.part.specs.Part.{number_fault}
use Rattle.pattern.specs.Entries.{part_of}
use Rattle.pattern.specs.Refusals.{Short, ShortList, ShortRun, Asking, Holding, Checking, Numbered, Refusals}

-- items into lent space: 17 alone, where it is shorter
lent : (x : Field (List ℕ)) (space : List ℕ) (k : ℕ) → answer_to x space ≡ Refused k → (x ≡ refused k) ⊎ ((k ≡ 17) × Short x space)
unfolding answer
lent (refused j) space k e = let n : j ≡ k = cc in inl (rw n)
lent (value items rest) space k e = by (ltb (length space) (length items)) refl e
  where
    by : (b : Bool) → ltb (length space) (length items) ≡ b → cond b (Refused 17) (Done (length items)) ≡ Refused k
        → (value items rest ≡ refused k) ⊎ ((k ≡ 17) × Short (value items rest) space)
    by true p h =
        let n : k ≡ 17 = cc in
        inr (n, record { items = items; rest = rest; gives = refl; longer = ltb-true (length space) (length items) p })
    by false p h = absurd (let z : ◌≡◌ {A = ℕ} 0 1 = cc in omega arith)

-- records into a lent list: the same
lent-list : (x : Field (List Step)) (list : List Step) (k : ℕ) → filled_to x list ≡ Refused k → (x ≡ refused k) ⊎ ((k ≡ 17) × ShortList x list)
lent-list (refused j) list k e = let n : j ≡ k = cc in inl (rw n)
lent-list (value steps rest) list k e = by (ltb (length list) (length steps)) refl e
  where
    by : (b : Bool) → ltb (length list) (length steps) ≡ b → cond b (Refused 17) (Done (length steps)) ≡ Refused k
        → (value steps rest ≡ refused k) ⊎ ((k ≡ 17) × ShortList (value steps rest) list)
    by true p h =
        let n : k ≡ 17 = cc in
        inr (n, record { steps = steps; rest = rest; gives = refl; longer = ltb-true (length list) (length steps) p })
    by false p h = absurd (let z : ◌≡◌ {A = ℕ} 0 1 = cc in omega arith)

-- 4,667 bytes take every report
printed : (bytes space : List ℕ) (k : ℕ) → Bytes bytes → 4667 ≤ length space → answer_to (report_field bytes) space ≡ Refused k → OfSheet k
printed bytes space k all room e = by (read_sheet bytes) (by-sheet bytes) refl e
  where
    by : (x : Field Facts) → By OfSheet x → read_sheet bytes ≡ x → answer_to (next x (λ f rest. value (report_of (sized_of f)) [])) space ≡ Refused k
        → OfSheet k
    by (refused j) h q e = let n : j ≡ k = cc in subst OfSheet n (which h)
    by (value f rest) h q e =
        let fits = report-room f (written_read bytes f rest all q).2 in
        let never : Done (length (report_of (sized_of f))) ≡ Refused k = sym (long-answer (report_of (sized_of f)) space (omega (arith, fits))) ∙ e in
        absurd (let z : ◌≡◌ {A = ℕ} 0 1 = cc in omega arith)

-- ---- numbers of rules

-- the rule that refuses, else what refuses the field
by-rule : {rules : ℕ → Type 0} {A : Type 0} (k : ℕ) (x : Field A) → Fault rules k → By rules x → By rules (by_rule k x)
by-rule zero x h l = l
by-rule (suc k) x h l = ruled h

fault-over : (rules : ℕ → Type 0) → rules 11 → (g : Graph) → Fault rules (over_fault g)
unfolding over_fault
fault-over rules h g = by (finding_of g)
  where
    by : (o : Finding) → Fault rules (over_rule o)
    by Fine = tt
    by (First c x) = h

abbrev Placing : ℕ → Type 0
Placing k = Among k (24 ∷ Asking)

-- what refuses one constraint more, after 27 of an over sheet
module _ (rules : ℕ → Type 0) (wider : (k : ℕ) → Among k Asking → rules k) where
  named : (k : ℕ) → Told-rule k → Fault rules k
  named zero h = tt
  named (suc k) (inl e) = absurd (omega arith)
  named (suc k) (inr h) = wider (suc k) (inr h)

  fault-27 : (k : ℕ) → Fault rules (by27 k)
  fault-27 zero = tt
  fault-27 (suc k) = wider 27 (inl refl)

  fault-ask : (f : Facts) (c : Constraint) → Fault rules (ask_fault f c)
  unfolding ask_fault
  fault-ask f c = fault-else rules (by27 (over_fault (graph_of f))) (next_fault f c) (fault-27 (over_fault (graph_of f))) (named (next_fault f c) (next-rule f c))

fault-place : (f : Facts) (c : Constraint) (held : ℕ) → Fault Placing (place_fault f c held)
unfolding place_fault
fault-place f c held =
    fault-else Placing (by27 (over_fault (graph_of f))) _ (fault-27 Placing (λ k h. inr h) (over_fault (graph_of f))) (by (eqb held (length f.constraints)))
  where
    by : (b : Bool) → Fault Placing (fault_unless b 24 (next_fault f c))
    by true = named Placing (λ k h. inr h) (next_fault f c) (next-rule f c)
    by false = inl refl

judged-rule : (rules : ℕ → Type 0) (j : ℕ) (v : Verdict) (k : ℕ) → Fault rules j → as_judged j v ≡ Not k → rules k
judged-rule rules zero v k h q = absurd (let z : ◌≡◌ {A = ℕ} 0 1 = cc in omega arith)
judged-rule rules (suc j) v k h q = let n : suc j ≡ k = cc in subst rules n h

asked : (s : Sheet) (c : Constraint) (k : ℕ) → ask_answer s c ≡ Not k → Among k Asking
unfolding ask_answer ask_rule
asked s c k e =
    judged-rule (λ k. Among k Asking) (or_else (by27 (sheet_fault s)) (ask_fault (facts_of s) c)) _ k
    (fault-else (λ k. Among k Asking) (by27 (sheet_fault s)) (ask_fault (facts_of s) c) (fault-27 (λ k. Among k Asking) (λ k h. h) (sheet_fault s))
    (fault-ask (λ k. Among k Asking) (λ k h. h) (facts_of s) c)) e

placed : (s : Sheet) (c : Constraint) (held k : ℕ) → place_answer s c held ≡ Not k → Placing k
unfolding place_answer place_rule
placed s c held k e =
    judged-rule Placing (or_else (by27 (sheet_fault s)) (place_fault (facts_of s) c held)) _ k
    (fault-else Placing (by27 (sheet_fault s)) (place_fault (facts_of s) c held) (fault-27 Placing (λ k h. inr h) (sheet_fault s))
    (fault-place (facts_of s) c held)) e

fault-plan : (cs l : List ℕ) → Fault Checking (plan_fault cs l)
fault-plan cs l = by (plan_fault cs l) refl
  where
    by : (k : ℕ) → plan_fault cs l ≡ k → Fault Checking k
    by zero q = tt
    by (suc r) q = let h = fault-range cs l r q in inl (record { from = omega arith; to = h.1 }, h.2)

-- ---- the entry points

by-held : (f : Facts) (rest : List ℕ) → By Holding (held f rest)
by-held f rest =
    by-rule (over_fault (graph_of f)) (value f rest) (fault-over Holding (inl (record { from = omega arith; to = omega arith })) (graph_of f)) given

sheet-held : (k : ℕ) → OfSheet k → Holding k
sheet-held k (inl h) = inl (record { from = h.from; to = omega (arith, h.to) })
sheet-held k (inr h) = inr h

held-checked : (k : ℕ) → Holding k → Checking k
held-checked k (inl h) = inl (record { from = h.from; to = omega (arith, h.to) }, λ z. omega (arith, h.to))
held-checked k (inr h) = inr h

by-sketch : (bytes : List ℕ) → By Holding (held_sheet bytes)
unfolding held_sheet
by-sketch bytes = by_next (by-wider sheet-held (by-sheet bytes)) by-held

-- the rules of the plan check, after those of the sheet
checked : {A : Type 0} (bytes plan : List ℕ) (what : Facts → A)
    → By Checking (next (held_sheet bytes) (λ f rest. by_rule (plan_fault (graph_of f).clusters plan) (value (what f) [])))
checked bytes plan what =
    by_next (by-wider held-checked (by-sketch bytes))
    (λ f rest. by-rule (plan_fault (graph_of f).clusters plan) _ (fault-plan (graph_of f).clusters plan) given)

-- whatever refuses the bytes of a record, 27 refuses it
by-record : (lent : List ℕ) → By (Rule 27 27) (record_sheet lent)
unfolding record_sheet
by-record lent = by (next (field 2 lent) counted)
  where
    by : (x : Field Facts) → By (Rule 27 27) (as27 x)
    by (value f rest) = given
    by (refused k) = ruled {k = 27} (record { from = omega arith; to = omega arith })

only-27 : (k : ℕ) → Rule 27 27 k → k ≡ 27
only-27 k h = omega (arith, h.from, h.to)

by_part : (bytes : List ℕ) (c : ℕ) → By Numbered (part_of bytes c)
by_part bytes c =
    by_next (by-wider (λ k h. inl h) (by-sketch bytes)) (λ f rest. by-rule (number_fault (graph_of f) c) _ (by_number (ltb c _)) given)
  where
    by_number : (b : Bool) → Fault Numbered (cond b 0 26)
    by_number true = tt
    by_number false = inr refl

by_count : (n : ℕ) → By (Rule 3 3) (longest_field n)
unfolding longest_field
by_count n = by-range (elements_in_range n) (value (sheet_bytes (longest_sheet n)) []) given
  where
    by-range : (b : Bool) (x : Field (List ℕ)) → By (Rule 3 3) x → By (Rule 3 3) (demand b 3 x)
    by-range true x h = h
    by-range false x h = ruled {k = 3} (record { from = omega arith; to = omega arith })

by_place : (lent : List ℕ) (c : Constraint) (held : ℕ) → By Placing (place_field lent c held)
by_place lent c held =
    by_next (by-wider (λ k h. inr (inl (only-27 k h))) (by-record lent)) (λ f rest. by-rule (place_fault f c held) _ (fault-place f c held) given)

over-27 : (k : ℕ) → Fault (Rule 27 27) (by27 k)
over-27 zero = tt
over-27 (suc k) = record { from = omega arith; to = omega arith }

-- ---- a held sketch

by-held-record : (lent : List ℕ) → By (Rule 27 27) (held_record lent)
unfolding held_record
by-held-record lent = by_next (by-record lent) (λ f rest. by-rule (by27 (over_fault (graph_of f))) _ (over-27 (over_fault (graph_of f))) given)

by-held-value : (s : Sheet) → By (Rule 27 27) (held_value s)
unfolding held_value
by-held-value s = by-rule (by27 (hold_fault s)) _ (over-27 (hold_fault s)) given

count-27 : (x : Field Facts) → By (Rule 27 27) x → (k : ℕ) → held_count_of x ≡ Refused k → k ≡ 27
count-27 (value f rest) h k e = absurd (let z : ◌≡◌ {A = ℕ} 0 1 = cc in omega arith)
count-27 (refused j) h k e = let n : j ≡ k = cc in sym n ∙ only-27 j (which h)

-- the answer is 17 where the record is too short, and no rule of placing has that number
place_short : (lent : List ℕ) (c : Constraint) (held : ℕ)
    → (placed_in (place_field lent c held) lent ≡ Not 17) ↔ Short (written_field (place_field lent c held)) lent
place_short space c number = by (place_field space c number) (by_place space c number)
  where
    not-17 : Placing 17 → ⊥
    not-17 (inl e) = omega arith
    not-17 (inr (inl e)) = omega arith
    not-17 (inr (inr (inl e))) = omega arith
    not-17 (inr (inr (inr (inl e)))) = omega arith
    not-17 (inr (inr (inr (inr (inl e))))) = omega arith
    not-17 (inr (inr (inr (inr (inr (inl e)))))) = omega arith
    not-17 (inr (inr (inr (inr (inr (inr (inl e))))))) = omega arith
    not-17 (inr (inr (inr (inr (inr (inr (inr (inl e)))))))) = omega arith
    not-17 (inr (inr (inr (inr (inr (inr (inr (inr e)))))))) = elim e [ ]

    written : (f : Facts) (rest : List ℕ) → Dec (length space < length (record_bytes f))
        → (placed_in (value f rest) space ≡ Not 17) ↔ Short (written_field (value f rest)) space
    written f rest (yes l) = (
      λ e. record { items = record_bytes f; rest = []; gives = refl; longer = l },
      λ s. rw (← (put_refused (record_bytes f) space l).0),
    )
    written f rest (no l) = (
      λ e. absurd (let z : Is (verdict_of (graph_of f)) ≡ Not 17 = sym (rw (long-answer (record_bytes f) space (omega arith))) ∙ e in let y : ◌≡◌ {A = ℕ} 0 1 = cc in omega arith),
      λ s. absurd (l (let same : record_bytes f ≡ s.items = same-items s.gives in rw same s.longer)),
    )
      where
        same-items : {a b s t : List ℕ} → ◌≡◌ {A = Field (List ℕ)} (value a s) (value b t) → a ≡ b
        same-items e = cc

    by : (x : Field Facts) → By Placing x → (placed_in x space ≡ Not 17) ↔ Short (written_field x) space
    by (value f rest) h = written f rest (dec_lt (length space) (length (record_bytes f)))
    by (refused k) h = (
      λ e. absurd (let n : k ≡ 17 = cc in not-17 (subst Placing n (which h))),
      λ s. refused-value s.gives,
    )

-- the chain: 25 where the start or the end is no element
abbrev Chaining : ℕ → Type 0
Chaining k = Holding k ⊎ (k ≡ 25)

by-ends : (g : Graph) (u v : ℕ) → By Chaining (chained g u v)
by-ends g u v = by-rule (ends_fault g.n u v) _ (fault-ends (ltb u g.n && ltb v g.n)) given
  where
    fault-ends : (b : Bool) → Fault Chaining (cond b 0 25)
    fault-ends true = tt
    fault-ends false = inr refl

-- and 17 where the run is longer than the space
ran : (x : Field (Option (List ℕ))) (space : List ℕ) (k : ℕ) → chain_to x space ≡ No k → (x ≡ refused k) ⊎ ((k ≡ 17) × ShortRun x space)
unfolding answer
ran (refused j) space k e = let n : j ≡ k = cc in inl (rw n)
ran (value none rest) space k e = absurd (let z : ◌≡◌ {A = ℕ} 0 1 = cc in omega arith)
ran (value (some r) rest) space k e = long (ltb (length space) (length r)) refl e
  where
    long : (b : Bool) → ltb (length space) (length r) ≡ b → as_run (cond b (Refused 17) (Done (length r))) ≡ No k
        → (value (some r) rest ≡ refused k) ⊎ ((k ≡ 17) × ShortRun (value (some r) rest) space)
    long true q e =
        let n : k ≡ 17 = cc in
        inr (n, record { run = r; rest = rest; gives = refl; longer = ltb-true (length space) (length r) q })
    long false q e = absurd (let z : ◌≡◌ {A = ℕ} 0 1 = cc in omega arith)

pub refusals : Refusals
refusals = record {
  lent = lent;
  read = by-sheet;
  verdict = λ bytes. by_next (by-sheet bytes) (λ f rest. given);
  rewrite = λ bytes. by_next (by-sheet bytes) (λ f rest. given);
  items = λ what bytes. by_next (by-sheet bytes) (λ f rest. given);
  report = λ bytes. by_next (by-sheet bytes) (λ f rest. given);
  write = λ s. by-rule (sheet_fault s) _ (fault-sheet s) given;
  check = λ bytes plan. checked bytes plan (λ f. list_report (sized_of f) (saved_steps_of plan));
  steps = λ bytes. by_next (by-sketch bytes) (λ f rest. given);
  saved_steps = λ bytes plan. checked bytes plan (λ f. steps_of (sized_of f) (saved_steps_of plan));
  records = lent-list;
  hold = by-sketch;
  missing = λ bytes prices. by_next (by-wider (λ k h. inl h) (by-sketch bytes)) (λ f rest. by-wider (λ k h. inr h) (by-rules (graph_of f) prices));
  ask = asked;
  place = placed;
  hold_in = λ bytes. by_next (by-sketch bytes) (λ f rest. given);
  ask_in = λ lent c. by_next (by-wider (λ k h. inl (only-27 k h)) (by-record lent))
      (λ f rest. by-rule (ask_fault f c) _ (fault-ask (λ k. Among k Asking) (λ k h. h) f c) given);
  place_in = by_place;
  held_in = λ lent. by_next (by-held-record lent) (λ f rest. given);
  place_in_short = place_short;
  held_count = λ s. count-27 (held_value s) (by-held-value s);
  held_count_in = λ lent. count-27 (held_record lent) (by-held-record lent);
  held_items = λ what s. by_next (by-held-value s) (λ f rest. given);
  held_items_in = λ what lent. by_next (by-held-record lent) (λ f rest. given);
  part = λ bytes c. by_next (by_part bytes c) (λ l rest. given);
  part_steps = by_part;
  longest = by_count;
  chain = λ bytes start end. by_next (by-wider (λ k h. inl h) (by-sketch bytes)) (λ f rest. by-ends (graph_of f) start end);
  run = ran;
  open_merges = λ bytes steps. by_next (by-sketch bytes) (λ f rest. given);
  program = printed;
}
