-- Over is one finding that every answer goes by. Assumes nothing.
use Rattle.std.specs.Prelude.{◌+◌, ◌≡◌, ◌≢◌, ◌↔◌, ◌&&◌, ◌∷◌, ◌++◌}
use Rattle.theory.specs.Prelude.{ℕ, zero, suc, arith, refl, sym, ap, ◌∙◌, subst, Iff-trans, Bool}
use Rattle.theory.specs.Prelude.{true, false, cond, ltb}
use Rattle.theory.specs.Prelude.{List, [], length, get_or, inl, inr, map}
use Rattle.theory.specs.Constraints.{Pairs, Below}
use Rattle.theory.specs.Over.{IsOver, FirstOver}
use Rattle.theory.specs.Over.Laws.{over_of-first}
use Rattle.theory.specs.Plan.{plan_of, ascending}
use Rattle.theory.specs.Graph.{Graph, finding_of, list_verdict, verdict_of}
use Rattle.theory.specs.Graph.Laws.{first-verdict, fine-not-over, over-verdict, verdict-over, list-not-over}
use Rattle.theory.specs.Finding.{Finding}
use Rattle.theory.specs.Finding.{Fine, First}
use Rattle.theory.specs.declared.Step.{Step}
use Rattle.theory.specs.declared.Verdict.{Verdict}
use Rattle.theory.specs.declared.Verdict.TheVariants.{Over, Angle, Well, Stuck, Under}
use Rattle.space.specs.Written.{Done, Refused}
use Rattle.space.specs.Space.{answer}
use Rattle.sheet.specs.declared.Constraint.{Constraint}
use Rattle.sheet.specs.declared.Sheet.{Sheet}
use Rattle.sheet.specs.Facts.{Facts, facts_of}
use Rattle.sheet.specs.Field.{Field, value, refused, next}
use Rattle.sheet.specs.Rules.{or_else, constraint_fault}
use Rattle.sheet.specs.Decode.{read_sheet}
use Rattle.sheet.specs.Accepted.{Accepted}
use Rattle.sheet.specs.Answer.{by_rule}
use Rattle.sheet.specs.Refusals.{Rule, By, Fault}
use Rattle.sheet.specs.Refusals.Laws.{OfFacts, which, fault-constraint}
use Rattle.sheet.specs.Graph.{graph_of, sized_of, over_fault}
use Rattle.sheet.specs.Graph.Laws.{clusters-pairs, clusters-below, first-fault, fine-fault}
use Rattle.merges.specs.Run.{flat}
use Rattle.judge.specs.Judged.{plan_by, plan_numbers, finals_by, final_clusters}
use Rattle.plans.specs.Check.{plan_fault}
use Rattle.plans.specs.Check.Laws.{fault-range}
use Rattle.report.specs.Report.{report, over_report, verdict_line}
use Rattle.account.specs.Account.{list_report, report_by, report_of, saved_field}
use Rattle.account.specs.Resting.{rests_by, rest_numbers}
use Rattle.steps.specs.Records.{plan_steps, saved_records}
use Rattle.part.specs.Part.{number_fault, cluster_field, lines_field}
use Rattle.chain.specs.Answer.{asked, ends_fault}
use Rattle.missing.specs.Missing.{cheapest_field}
use Rattle.missing.specs.Missing.Laws.{by-rules}
use Rattle.opens.specs.Opens.{open_field}
use Rattle.sketch.specs.Judgement.{Judgement}
use Rattle.sketch.specs.Judgement.{Is, Refused as Not}
use Rattle.sketch.specs.Sketch.{extended, next_fault, as_judged}
use Rattle.sketch.specs.Sketch.Laws.{extended_none, judged-not}
use Rattle.sketch.specs.Runs.{Held}
use Rattle.sketch.specs.Runs.Proof.{held-accepted}
use Rattle.records.specs.Record.{record_bytes, place_judged, placed_in, written_field}
use Rattle.pattern.specs.Entries.{items_field, report_field, verdict_field, over_items, over_numbers, held_sheet, count_of}
use Rattle.pattern.specs.Over.Held.{ask-rule, place-rule, asked-next, placed-next}
use Rattle.pattern.specs.Over.{OverTold, OverWith, OverNext}

-- a report that is not the over report: the ninth byte is the first of the verdict's name
unlike : (v : Verdict) (r q : List ℕ) → v ≢ Over → verdict_line v ++ r ≡ verdict_line Over ++ q → ⊥
unlike Over r q ne e = ne refl
unlike Angle r q ne e = let z : ◌≡◌ {A = ℕ} 97 111 = ap (λ (l : List ℕ). get_or l 8 0) e in omega arith
unlike Well r q ne e = let z : ◌≡◌ {A = ℕ} 119 111 = ap (λ (l : List ℕ). get_or l 8 0) e in omega arith
unlike Stuck r q ne e = let z : ◌≡◌ {A = ℕ} 115 111 = ap (λ (l : List ℕ). get_or l 8 0) e in omega arith
unlike Under r q ne e = let z : ◌≡◌ {A = ℕ} 117 111 = ap (λ (l : List ℕ). get_or l 8 0) e in omega arith

same-value : {A : Type 0} {a b : A} → ◌≡◌ {A = Field A} (value a []) (value b []) → a ≡ b
same-value e = cc

-- ---- the rule that refuses a field

module _ {A : Type 0} where
  not-refused : {B : Type 0} {a : A} {t : List ℕ} {r : ℕ} → ◌≡◌ {A = Field A} (value a t) (refused r) → B
  not-refused e = absurd (let z : ◌≡◌ {A = ℕ} 0 1 = cc in omega arith)

  rule_is : (k : ℕ) (a : A) (t : List ℕ) (r : ℕ) → by_rule k (value a t) ≡ refused r → k ≡ r
  rule_is zero a t r e = not-refused e
  rule_is (suc k) a t r e = cc

  rule-counted : (k : ℕ) (l : List A) (r : ℕ) → count_of (by_rule k (value l [])) ≡ Refused r → k ≡ r
  rule-counted zero l r e = absurd (let z : ◌≡◌ {A = ℕ} 0 1 = cc in omega arith)
  rule-counted (suc k) l r e = cc

rule-lines : (k : ℕ) (l : List Step) (r : ℕ) → lines_field (by_rule k (value l [])) ≡ refused r → k ≡ r
rule-lines zero l r e = not-refused e
rule-lines (suc k) l r e = cc

rule-lines-counted : (k : ℕ) (l : List Step) (r : ℕ) → count_of (lines_field (by_rule k (value l []))) ≡ Refused r → k ≡ r
rule-lines-counted zero l r e = absurd (let z : ◌≡◌ {A = ℕ} 0 1 = cc in omega arith)
rule-lines-counted (suc k) l r e = cc

-- 25 and 26 are not 11, and no rule of the plan check is
apart : (b : Bool) (k : ℕ) → cond b 0 k ≡ 11 → (k ≡ 11 → ⊥) → ⊥
apart true k e n = omega arith
apart false k e n = n e

not-ended : (g : Graph) (start end : ℕ) → ends_fault g.n start end ≡ 11 → ⊥
not-ended g start end e = apart (ltb start g.n && ltb end g.n) 25 e (λ z. omega arith)

not-numbered : (g : Graph) (c : ℕ) → number_fault g c ≡ 11 → ⊥
not-numbered g c e = apart (ltb c (length g.clusters + length (plan_of g.clusters))) 26 e (λ z. omega arith)

not_saved : (cs plan : List ℕ) → plan_fault cs plan ≡ 11 → ⊥
not_saved cs plan e = omega (arith, (fault-range cs plan 10 e).0)

-- ---- what is found decides

data Found (g : Graph) : Type 0 where
  is-over : (c x : ℕ) → finding_of g ≡ First c x → IsOver g.clusters → Found g
  is_fine : finding_of g ≡ Fine → (IsOver g.clusters → ⊥) → Found g

found : (g : Graph) → Pairs g.clusters → Below g.n g.clusters → Found g
found g pairs below = by (finding_of g) refl
  where
    by : (o : Finding) → finding_of g ≡ o → Found g
    by Fine q = is_fine q (λ o. fine-not-over g q (over-verdict g pairs below o))
    by (First c x) q = is-over c x q (verdict-over g pairs below (first-verdict g q))

-- ---- an accepted sheet

module _ (bytes : List ℕ) (f : Facts) (rest : List ℕ) (a : Accepted f) (reads : read_sheet bytes ≡ value f rest) where
  abbrev g : Graph
  g = graph_of f

  pairs : Pairs g.clusters
  pairs = clusters-pairs f a.no_fault

  below : Below g.n g.clusters
  below = clusters-below f a.no_fault

  items-are : (what : Graph → List ℕ) → items_field what bytes ≡ value (what g) []
  items-are what = rw reads refl

  report_is : report_field bytes ≡ value (report_of (sized_of f)) []
  report_is = rw reads refl

  verdict_is : verdict_field bytes ≡ value (verdict_of g) []
  verdict_is = rw reads refl

  held-is : held_sheet bytes ≡ by_rule (over_fault g) (value f rest)
  unfolding held_sheet
  held-is = rw reads refl

  -- what a held sheet gives is refused by 11 where it is over; where it is not, no other rule is 11
  meets-11 : {B : Type 0} (give : Field Facts → B) (eleven : B) → give (refused 11) ≡ eleven
      → (give (value f rest) ≡ eleven → ⊥)
      → IsOver g.clusters ↔ (give (held_sheet bytes) ≡ eleven)
  meets-11 {B} give eleven is never = by (found g pairs below)
    where
      by : Found g → IsOver g.clusters ↔ (give (held_sheet bytes) ≡ eleven)
      by (is-over c x q o) = (
        λ h. ap give (held-is ∙ ap (λ (k : ℕ). by_rule k (value f rest)) (first-fault g q)) ∙ is,
        λ h. o,
      )
      by (is_fine q none) = (
        λ h. absurd (none h),
        λ e. absurd (never (ap give (sym (held-is ∙ ap (λ (k : ℕ). by_rule k (value f rest)) (fine-fault g q))) ∙ e)),
      )

  named : {c x : ℕ} → finding_of g ≡ First c x
      → report_field bytes ≡ value (over_report g.n (length g.clusters) c x) []
  unfolding report_of
  named q = report_is ∙ ap (λ (r : Finding). value (report_by (sized_of f) r) []) q

  listed : {c x : ℕ} → finding_of g ≡ First c x → items_field over_numbers bytes ≡ value (c ∷ x ∷ []) []
  listed q = items-are over_numbers ∙ ap (λ (r : Finding). value (over_items r) []) q

  not_named : (c x : ℕ) → finding_of g ≡ Fine
      → report_field bytes ≡ value (over_report g.n (length g.clusters) c x) [] → ⊥
  unfolding report_of list_report report over_report
  not_named c x q e =
      unlike (list_verdict g (plan_of g.clusters)) _ _ (list-not-over g (plan_of g.clusters))
      (same-value (sym (report_is ∙ ap (λ (r : Finding). value (report_by (sized_of f) r) []) q) ∙ e))

  not_listed : (c x : ℕ) → finding_of g ≡ Fine → items_field over_numbers bytes ≡ value (c ∷ x ∷ []) [] → ⊥
  not_listed c x q e =
      let z : [] ≡ c ∷ x ∷ [] = same-value
      (sym (items-are over_numbers ∙ ap (λ (r : Finding). value (over_items r) []) q) ∙ e) in
      omega (arith, ap length z)

  verdict-told : Found g → IsOver g.clusters ↔ (verdict_field bytes ≡ value Over [])
  verdict-told (is-over c x q o) =
      (λ h. verdict_is ∙ ap (λ (v : Verdict). value v []) (over-verdict g pairs below o), λ h. o)
  verdict-told (is_fine q none) =
      (λ h. absurd (none h), λ e. absurd (fine-not-over g q (same-value (sym verdict_is ∙ e))))

  report-told : Found g
      → IsOver g.clusters
      ↔ ((c x : ℕ) × (report_field bytes ≡ value (over_report g.n (length g.clusters) c x) []))
  report-told (is-over c x q o) = (λ h. (c, x, named q), λ h. o)
  report-told (is_fine q none) = (λ h. absurd (none h), λ (c, x, e). absurd (not_named c x q e))

  items-told : Found g → IsOver g.clusters ↔ ((c x : ℕ) × (items_field over_numbers bytes ≡ value (c ∷ x ∷ []) []))
  items-told (is-over c x q o) = (λ h. (c, x, listed q), λ h. o)
  items-told (is_fine q none) = (λ h. absurd (none h), λ (c, x, e). absurd (not_listed c x q e))

  first-told : Found g → (c x : ℕ) → items_field over_numbers bytes ≡ value (c ∷ x ∷ []) []
      → FirstOver g.clusters c x
      × (report_field bytes ≡ value (over_report g.n (length g.clusters) c x) [])
  first-told (is-over c x q o) d y e =
      let both = same-items c x d y (same-value (sym (listed q) ∙ e)) in
      rw (← both.0, ← both.1) (over_of-first g.n g.clusters pairs below c x q, named q)
    where
      same-items : (c x d y : ℕ) → c ∷ x ∷ [] ≡ d ∷ y ∷ [] → (c ≡ d) × (x ≡ y)
      same-items c x d y e = (cc, cc)
  first-told (is_fine q none) c x e = absurd (not_listed c x q e)

  -- no plan, no final cluster
  none-listed : (what : Graph → List ℕ) (by : Finding → List ℕ) → what g ≡ by (finding_of g)
      → ((c x : ℕ) → by (First c x) ≡ []) → Found g
      → IsOver g.clusters → items_field what bytes ≡ value [] []
  none-listed what by is none (is-over c x q h) o = items-are what
      ∙ ap (λ (l : List ℕ). value l []) (is ∙ ap by q ∙ none c x)
  none-listed what by is none (is_fine q unless) o = absurd (unless o)

  pub over-told : OverTold bytes g
  unfolding plan_numbers final_clusters rest_numbers flat
  over-told =
      let o = found g pairs below in
      record {
        verdict = verdict-told o;
        report = report-told o;
        items = items-told o;
        first = first-told o;
        no_plan = none-listed plan_numbers (λ r. flat (map ascending (plan_by g r))) refl (λ c x. refl) o;
        no_cluster = none-listed final_clusters (finals_by g) refl (λ c x. refl) o;
        no_rests = none-listed rest_numbers (rests_by g) refl (λ c x. refl) o;
        check = λ plan.
            meets-11 (λ x. next x (λ h t. saved_field (sized_of h) plan)) (refused 11) refl (λ e.
            not_saved g.clusters plan (rule_is (plan_fault g.clusters plan) _ [] 11 e));
        saved_steps = λ plan.
            meets-11 (λ x. next x (λ h t. saved_records (sized_of h) plan)) (refused 11) refl (λ e.
            not_saved g.clusters plan (rule_is (plan_fault g.clusters plan) _ [] 11 e));
        steps = meets-11 (λ x. next x (λ h t. value (plan_steps (sized_of h)) [])) (refused 11) refl (λ e. not-refused e);
        part = λ c.
            meets-11 (λ x. lines_field (next x (λ h t. cluster_field (sized_of h) c))) (refused 11) refl (λ e.
            not-numbered g c (rule-lines (number_fault g c) _ 11 e));
        part_steps = λ c.
            meets-11 (λ x. count_of (next x (λ h t. cluster_field (sized_of h) c))) (Refused 11) refl (λ e.
            not-numbered g c (rule-counted (number_fault g c) _ 11 e));
        part_bytes = λ c.
            meets-11 (λ x. count_of (lines_field (next x (λ h t. cluster_field (sized_of h) c)))) (Refused 11) refl (λ e.
            not-numbered g c (rule-lines-counted (number_fault g c) _ 11 e));
        chain = λ start end.
            meets-11 (λ x. next x (λ h t. asked (graph_of h) start end)) (refused 11) refl (λ e.
            not-ended g start end (rule_is (ends_fault g.n start end) _ [] 11 e));
        missing = λ prices.
            meets-11 (λ x. next x (λ h t. cheapest_field (graph_of h) prices)) (refused 11) refl (λ e.
            let r : Rule 21 23 11 = which (subst (By (Rule 21 23)) e (by-rules g prices)) in omega (arith, r.from));
        open_merges = λ steps. meets-11 (λ x. next x (λ h t. open_field (graph_of h) steps)) (refused 11) refl
            (λ e. not-refused e);
        hold = meets-11 (λ x. x) (refused 11) refl (λ e. not-refused e);
        hold_in = meets-11 written_field (refused 11) refl (λ e. not-refused e);
      }

-- ---- a held sketch and one constraint more

-- 11 is the rule that refuses the constraint if and only if no earlier one does and the sheet with it is over
module _ (f : Facts) (a : Accepted f) (c : Constraint) where
  abbrev first_rule : ℕ
  first_rule = constraint_fault f.elements f.constraints c

  with_it : first_rule ≡ 0 → Found (graph_of (extended f c))
  with_it z =
      let none = extended_none f c a.no_fault z in
      found (graph_of (extended f c)) (clusters-pairs (extended f c) none) (clusters-below (extended f c) none)

  next-11 : OverWith f c ↔ (next_fault f c ≡ 11)
  unfolding next_fault
  next-11 = (
    λ h. rw h.0 (over-then (with_it h.0) h.1),
    by first_rule refl
        (fault-constraint f.elements f.constraints c),
  )
    where
      over-then : Found (graph_of (extended f c)) → IsOver (graph_of (extended f c)).clusters
          → over_fault (graph_of (extended f c)) ≡ 11
      over-then (is-over d x q o) h = first-fault (graph_of (extended f c)) q
      over-then (is_fine q none) h = absurd (none h)

      then-over : Found (graph_of (extended f c)) → over_fault (graph_of (extended f c)) ≡ 11
          → IsOver (graph_of (extended f c)).clusters
      then-over (is-over d x q o) e = o
      then-over (is_fine q none) e = absurd (omega (arith, e, fine-fault (graph_of (extended f c)) q))

      by : (k : ℕ) → first_rule ≡ k → Fault OfFacts k → or_else k (over_fault (graph_of (extended f c))) ≡ 11
          → OverWith f c
      by zero z h e = (z, then-over (with_it z) e)
      by (suc k) z (inl h) e = absurd (omega (arith, h.0.to, e))
      by (suc k) z (inr h) e = absurd (omega (arith, h.from, e))

judged-11 : (k : ℕ) (v : Verdict) → (k ≡ 11) ↔ (as_judged k v ≡ Not 11)
judged-11 k v = (λ e. rw e, λ e. (judged-not k v e).0)

rule-11 : {A : Type 0} (k : ℕ) (x : A) → (k ≡ 11) ↔ (by_rule k (value x []) ≡ refused 11)
rule-11 k x = (λ e. rw e, rule_is k x [] 11)

-- placing answers 11 by its rule alone: a record that is short is 17
placed-11 : (k : ℕ) (f : Facts) (lent : List ℕ) → (k ≡ 11) ↔ (placed_in (by_rule k (value f [])) lent ≡ Not 11)
unfolding answer
placed-11 k f lent = (λ e. rw e, by k)
  where
    room_of : (b : Bool) (n : ℕ) (v : Verdict) → place_judged (cond b (Refused 17) (Done n)) (Is v) ≡ Not 11 → ⊥
    room_of true n v e = let z : ◌≡◌ {A = ℕ} 17 11 = cc in omega arith
    room_of false n v e = let z : ◌≡◌ {A = ℕ} 0 1 = cc in omega arith

    by : (k : ℕ) → placed_in (by_rule k (value f [])) lent ≡ Not 11 → k ≡ 11
    by zero e = absurd (room_of (ltb (length lent) (length (record_bytes f))) _ _ e)
    by (suc k) e = cc

module _ (s : Sheet) (h : Held s) (c : Constraint) where
  abbrev f : Facts
  f = facts_of s

  abbrev verdict_with : Verdict
  verdict_with = verdict_of (graph_of (extended f c))

  over-next-is : OverWith f c ↔ (next_fault f c ≡ 11)
  over-next-is = next-11 f (held-accepted s h) c

  pub over_next : OverNext s c
  over_next = record {
    ask =
        Iff-trans over-next-is
        (subst (λ (j : Judgement). (next_fault f c ≡ 11) ↔ (j ≡ Not 11)) (sym (asked-next s h c))
        (judged-11 (next_fault f c) verdict_with));
    place =
        Iff-trans over-next-is
        (subst (λ (j : Judgement). (next_fault f c ≡ 11) ↔ (j ≡ Not 11)) (sym (placed-next s h c))
        (judged-11 (next_fault f c) verdict_with));
    ask_in = λ lent e.
        Iff-trans over-next-is
        (rw (e, ask-rule s h c) (rule-11 (next_fault f c) verdict_with));
    place_in = λ lent e.
        Iff-trans over-next-is
        (rw (e, place-rule s h c) (placed-11 (next_fault f c) (extended f c) lent));
  }
