-- What a call answers is short: the bounds of reports and sheets, and of the merges of constraints that are not over. Assumes nothing.
use Rattle.std.specs.Prelude.{◌+◌, ◌*◌, ◌-◌, ◌≤◌, ◌≡◌}
use Rattle.theory.specs.Prelude.{ℕ, zero, suc, arith, refl, sym, ap, ◌∙◌, subst, List, [], map, some}
use Rattle.theory.specs.Prelude.{length, length-map, length-append, length-replicate, replicate}
use Rattle.theory.specs.Constraints.{NotOver}
use Rattle.theory.specs.Over.Laws.{over_of-fine, fine-most}
use Rattle.theory.specs.Merge.{Merge, Valid, final, left}
use Rattle.theory.specs.Merge.Count.{steps-left}
use Rattle.theory.specs.Plan.{plan_of, ascending}
use Rattle.theory.specs.Plan.Laws.{plan-of-maximal}
use Rattle.theory.specs.Graph.{Graph, finding_of, steps_of}
use Rattle.theory.specs.Graph.Laws.{length-steps}
use Rattle.theory.specs.declared.Step.{Step}
use Rattle.theory.specs.Finding.{Finding}
use Rattle.theory.specs.Finding.{Fine, First}
use Rattle.sheet.specs.declared.Opening.TheVariants.{Pf01}
use Rattle.sheet.specs.Facts.{Facts, facts_of, blank_element}
use Rattle.sheet.specs.Field.{Field, value, refused, next, kind_bytes, Bytes}
use Rattle.sheet.specs.Field.Laws.{next-value, demand-value, refused-value, length_digits, opening-length}
use Rattle.sheet.specs.Rules.{elements_in_range, sheet_fault}
use Rattle.sheet.specs.Rules.Laws.{elements-range, constraints-most}
use Rattle.sheet.specs.Decode.{read_sheet}
use Rattle.sheet.specs.Encode.{radii_bytes, sheet_bytes}
use Rattle.sheet.specs.Encode.Laws.{constraints-length}
use Rattle.sheet.specs.Accepted.{Accepted}
use Rattle.sheet.specs.Accepted.Laws.{accepted-two, accepted-most}
use Rattle.sheet.specs.Graph.{cluster_of, graph_of, sized_of, over_fault}
use Rattle.sheet.specs.Graph.Laws.{fault-none}
use Rattle.sheet.specs.Answer.{by_rule}
use Rattle.sheet.specs.RoundTrip.{written_read, written-most}
use Rattle.merges.specs.Run.{flat}
use Rattle.merges.specs.Run.Laws.{length-numbers}
use Rattle.engine.specs.Lists.Laws.{living-count}
use Rattle.judge.specs.Judged.{plan_by, plan_numbers, finals_by, final_clusters}
use Rattle.plans.specs.Check.{saved_steps_of, plan_fault}
use Rattle.plans.specs.Check.Laws.{accepted-maximal}
use Rattle.longest.specs.Longest.{longest_sheet, longest_field}
use Rattle.longest.specs.Longest.Rules.{strip-length}
use Rattle.steps.specs.Records.{plan_steps, step_numbers, numbers_field}
use Rattle.steps.specs.Records.Laws.{length-numbers as length-records}
use Rattle.sketch.specs.Sketch.{by27}
use Rattle.sketch.specs.Sketch.Laws.{few-held}
use Rattle.records.specs.Record.{record_bytes, record_sheet, place_field, held_record, sheet_field}
use Rattle.held.specs.Held.{held_count_of}
use Rattle.space.specs.Written.{Done}
use Rattle.records.specs.Record.Laws.{record-accepted, sheet-short}
use Rattle.records.specs.Record.Room.{held-length, record-room, by27-none, placed-room}
use Rattle.account.specs.Account.{list_report, report_of, saved_fault}
use Rattle.theory.specs.Rests.{rests_on}
use Rattle.account.specs.Resting.{rests_by, rest_numbers}
use Rattle.account.specs.Resting.Laws.{words-most}
use Rattle.account.specs.Account.Room.{report-room, saved-room}
use Rattle.account.specs.Own.Proof.{paired, below}
use Rattle.pattern.specs.Entries.{held, held_sheet, initial_clusters, over_items, over_numbers, check_field, steps_field, saved_steps_field}
use Rattle.pattern.specs.Entries.{hold_field}
use Rattle.report.specs.Report.{step_lines}
use Rattle.pattern.specs.Entries.{part_of, chain_field, missing_field}
use Rattle.chain.specs.Answer.{finals_of, ends_fault}
use Rattle.chain.specs.Layers.{chain_of}
use Rattle.chain.specs.Layers.Shortest.{chain-few}
use Rattle.pattern.specs.Entries.Parts.{part-short}
use Rattle.pattern.specs.Entries.Sketches.{held-accepted, check-saved}
use Rattle.missing.specs.Missing.Laws.{listed-most}
use Rattle.pattern.specs.Opens.Proof.{open-short}
use Rattle.pattern.specs.Counts.{AtMost, Counts}

-- items after a value, or a rule and then items
after-value : {A : Type 0} (x : Field A) (what : A → List ℕ) {most : ℕ} → ((a : A) (t : List ℕ) → x ≡ value a t → length (what a) ≤ most)
    → AtMost most (next x (λ a t. value (what a) []))
after-value x what {most} h items rest e =
    next-value x _ e (λ a t was e1. let same : what a ≡ items = cc in omega (arith, h a t was, ap length same))

after-rule : (k : ℕ) (what : List ℕ) {most : ℕ} → (k ≡ 0 → length what ≤ most) → AtMost most (by_rule k (value what []))
after-rule zero what h items rest e = let same : what ≡ items = cc in omega (arith, h refl, ap length same)
after-rule (suc k) what h items rest e = refused-value e

rule_value : {A : Type 0} (k : ℕ) (x : Field A) {a : A} {t : List ℕ} → by_rule k x ≡ value a t → (k ≡ 0) × (x ≡ value a t)
rule_value zero x e = (refl, e)
rule_value (suc k) x e = refused-value e

-- ---- an accepted sheet that is not over has at most 125 constraints

module _ (f : Facts) (a : Accepted f) where
  abbrev g : Graph
  g = graph_of f

  few : finding_of g ≡ Fine → length g.clusters ≤ 125
  few q =
      let fine : NotOver g.clusters = over_of-fine g.n g.clusters (paired f a) (below f a) q in
      omega (arith, fine-most g.n g.clusters (accepted-two f a) (below f a) fine, accepted-most f a)

  merged : left (final g.clusters (plan_of g.clusters)) + 2 * length (plan_of g.clusters) ≡ length g.clusters
  merged = steps-left g.clusters (paired f a) (plan_of g.clusters) (plan-of-maximal g.clusters (paired f a)).valid

  initial-short : length (initial_clusters g) ≤ 200
  initial-short = omega (arith, length-map f.constraints cluster_of, constraints-most (length f.constraints) a.constraints_fit)

  plan-short : length (plan_numbers g) ≤ 186
  unfolding plan_numbers
  plan-short = by (finding_of g) refl
    where
      by : (o : Finding) → finding_of g ≡ o → length (flat (map ascending (plan_by g o))) ≤ 186
      by Fine q = omega (arith, length-numbers (plan_of g.clusters), merged, few q)
      by (First c x) q = omega (arith, length-numbers [])

  -- seven numbers a step, and two clusters fewer at each
  steps-short : finding_of g ≡ Fine → (p : List Merge) → Valid g.clusters p → length (step_numbers (steps_of (sized_of f) p)) ≤ 434
  steps-short q p v =
      omega (arith, length-records (steps_of (sized_of f) p), length-steps (sized_of f) g.clusters p, steps-left g.clusters (paired f a) p v, few q)

  clusters-short : length (final_clusters g) ≤ 125
  unfolding final_clusters
  clusters-short = by (finding_of g) refl
    where
      by : (o : Finding) → finding_of g ≡ o → length (finals_by g o) ≤ 125
      by Fine q = omega (arith, living-count (final g.clusters (plan_of g.clusters)), merged, few q)
      by (First c x) q = omega arith

  rests-short : length (rest_numbers g) ≤ 250
  unfolding rest_numbers
  rests-short = by (finding_of g) refl
    where
      by : (o : Finding) → finding_of g ≡ o → length (rests_by g o) ≤ 250
      by Fine q =
          let p = plan_of g.clusters in
          omega (arith, words-most (final g.clusters p) (rests_on (length g.clusters) p), merged, few q)
      by (First c x) q = omega arith

over-short : (o : Finding) → length (over_items o) ≤ 2
over-short Fine = omega arith
over-short (First c x) = omega arith

-- ---- by a record

module _ (lent : List ℕ) (all : Bytes lent) where
  sketch-few : (f : Facts) (t : List ℕ) → held_record lent ≡ value f t → Accepted f × (over_fault (graph_of f) ≡ 0)
  unfolding held_record
  sketch-few f t e =
      next-value (record_sheet lent) _ e (λ h u was e1.
      let (z, q) = rule_value (by27 (over_fault (graph_of h))) (value h []) e1 in
      let same : h ≡ f = cc in
      subst (λ (x : Facts). Accepted x × (over_fault (graph_of x) ≡ 0)) same
      ((record-accepted lent all was).1, by27-none (over_fault (graph_of h)) z))

  held-short : AtMost 1153 (sheet_field lent)
  held-short = after-value (held_record lent) sheet_bytes (λ f t e. let (h, o) = sketch-few f t e in held-length f h o)

  count-short : (x : Field Facts) → ((f : Facts) (t : List ℕ) → x ≡ value f t → length f.constraints ≤ 125) → (k : ℕ) → held_count_of x ≡ Done k → k ≤ 125
  count-short (value f t) h k e = let same : length f.constraints ≡ k = cc in omega (arith, h f t refl)
  count-short (refused j) h k e = absurd (let z : ◌≡◌ {A = ℕ} 0 1 = cc in omega arith)

-- ---- by bytes

module _ (bytes : List ℕ) (all : Bytes bytes) where
  accepted : (f : Facts) (t : List ℕ) → read_sheet bytes ≡ value f t → Accepted f
  accepted f t e = (written_read bytes f t all e).2

  check-short : (plan : List ℕ) → AtMost 4667 (check_field bytes plan)
  unfolding held_sheet
  check-short plan items rest e =
      next-value (held_sheet bytes) _ e (λ h u was e1. next-value (read_sheet bytes) held was (λ f t read e2.
      after-rule (saved_fault (graph_of f) plan) (list_report (sized_of f) (saved_steps_of plan)) (λ z. saved-room f (accepted f t read) plan z) items rest
      (sym (check-saved bytes plan f t read) ∙ e)))

  missing-short : (prices : List ℕ) → AtMost 125 (missing_field bytes prices)
  missing-short prices items rest e =
      next-value (held_sheet bytes) _ e (λ f t was e1.
      listed-most (graph_of f) prices (accepted-most f (held-accepted bytes f t all was).0) items rest e1)

  -- the steps of a list of merges of a held sheet
  few-numbers : (x : Field (List Step)) → ((steps : List Step) (u : List ℕ) → x ≡ value steps u → length (step_numbers steps) ≤ 434) → AtMost 434
      (numbers_field x)
  few-numbers x h items rest e =
      next-value x _ e (λ steps u was e1. let same : step_numbers steps ≡ items = cc in omega (arith, h steps u was, ap length same))

  steps-few : AtMost 434 (numbers_field (steps_field bytes))
  unfolding plan_steps
  steps-few = few-numbers (steps_field bytes) (λ steps u was. next-value (held_sheet bytes) _ was (λ f t is e.
      let (a, o) = held-accepted bytes f t all is in
      let g = graph_of f in
      let same : steps_of (sized_of f) (plan_of g.clusters) ≡ steps = cc in
      let short = steps-short f a (fault-none g o) (plan_of g.clusters) (plan-of-maximal g.clusters (paired f a)).valid in
      omega (arith, short, ap (λ (l : List Step). length (step_numbers l)) same)))

  saved-few : (plan : List ℕ) → AtMost 434 (numbers_field (saved_steps_field bytes plan))
  saved-few plan = few-numbers (saved_steps_field bytes plan) (λ steps u was. next-value (held_sheet bytes) _ was (λ f t is e.
      let (a, o) = held-accepted bytes f t all is in
      let g = graph_of f in
      let (z, e1) = rule_value (plan_fault g.clusters plan) (value (steps_of (sized_of f) (saved_steps_of plan)) []) e in
      let same : steps_of (sized_of f) (saved_steps_of plan) ≡ steps = cc in
      let short = steps-short f a (fault-none g o) (saved_steps_of plan) ((accepted-maximal g.clusters plan).0 z).1.valid in
      omega (arith, short, ap (λ (l : List Step). length (step_numbers l)) same)))

  hold-short : AtMost 1155 (hold_field bytes)
  hold-short = after-value (held_sheet bytes) record_bytes (λ f t e. let (h, o) = held-accepted bytes f t all e in record-room f h o)

-- ---- the sheet with the longest plan: 2n-3 constraints of seven bytes between points

no-radii : (n : ℕ) → radii_bytes (replicate n blank_element) ≡ []
unfolding radii_bytes
no-radii zero = refl
no-radii (suc n) = no-radii n

sheet-length : (f : Facts)
    → length (sheet_bytes f)
    ≤ 6 + kind_bytes f.opening (length f.elements) + length (radii_bytes f.elements)
    + 7 * length f.constraints
unfolding sheet_bytes
sheet-length f =
    simp (length-append, length_digits, opening-length f.opening)
    (omega (arith, constraints-length f.constraints))

longest-short : (n : ℕ) → AtMost 889 (longest_field n)
unfolding longest_field
longest-short n items rest e =
    demand-value (elements_in_range n) 3 _ e (λ ok e1.
    let same : sheet_bytes (longest_sheet n) ≡ items = cc in
    let range = elements-range n ok in
    let kinds : kind_bytes Pf01 (length (replicate n blank_element)) ≤ 8 = rw (length-replicate n blank_element)
    (omega (arith, range.1)) in
    omega (
      arith,
      sheet-length (longest_sheet n),
      kinds,
      ap length (no-radii n),
      strip-length (n - 2),
      range.0,
      range.1,
      ap length same,
    ))

chain-short : (bytes : List ℕ) (u v : ℕ) (run rest : List ℕ) → chain_field bytes u v ≡ value (some run) rest → length run ≤ 63
chain-short bytes u v run rest e = next-value (held_sheet bytes) _ e (λ f t was e1. by (graph_of f) (ends_fault (graph_of f).n u v) e1)
  where
    by : (g : Graph) (k : ℕ) → by_rule k (value (chain_of (finals_of g) u v) []) ≡ value (some run) rest → length run ≤ 63
    by g zero h = chain-few (finals_of g) u v run (cc)
    by g (suc k) h = refused-value h

pub counts : Counts
counts = record {
  report = λ bytes all. after-value (read_sheet bytes) (λ f. report_of (sized_of f)) (λ f t e. report-room f (accepted bytes all f t e));
  check = λ bytes plan all. check-short bytes all plan;
  missing = λ bytes prices all. missing-short bytes all prices;
  plan = λ bytes all. after-value (read_sheet bytes) (λ f. plan_numbers (graph_of f)) (λ f t e. plan-short f (accepted bytes all f t e));
  initial = λ bytes all. after-value (read_sheet bytes) (λ f. initial_clusters (graph_of f)) (λ f t e. initial-short f (accepted bytes all f t e));
  steps = steps-few;
  saved_steps = λ bytes plan all. saved-few bytes all plan;
  clusters = λ bytes all. after-value (read_sheet bytes) (λ f. final_clusters (graph_of f)) (λ f t e. clusters-short f (accepted bytes all f t e));
  rests = λ bytes all. after-value (read_sheet bytes) (λ f. rest_numbers (graph_of f)) (λ f t e. rests-short f (accepted bytes all f t e));
  over = λ bytes. after-value (read_sheet bytes) (λ f. over_numbers (graph_of f)) (λ f t e. over-short (finding_of (graph_of f)));
  rewrite = λ bytes all. after-value (read_sheet bytes) _ (λ f t e.
      let r = written_read bytes f t all e in omega (arith, written-most f r.2, ap length r.1));
  write = λ s. after-rule (sheet_fault s) (sheet_bytes (facts_of s)) (sheet-short s);
  hold_in = hold-short;
  place_in = λ lent c held all. after-value (place_field lent c held) record_bytes (placed-room lent c held all);
  held_in = λ lent all. held-short lent all;
  held_count = λ lent k all. count-short lent all (held_record lent) (λ f t e. let (h, o) = sketch-few lent all f t e in few-held f h o) k;
  held_clusters = λ lent all. after-value (held_record lent) (λ f. final_clusters (graph_of f)) (λ f t e. clusters-short f (sketch-few lent all f t e).0);
  held_rests = λ lent all. after-value (held_record lent) (λ f. rest_numbers (graph_of f)) (λ f t e. rests-short f (sketch-few lent all f t e).0);
  part = λ bytes c all. after-value (part_of bytes c) step_lines (λ l t e. (part-short bytes c all e).1);
  part_steps = λ bytes c all l t e. (part-short bytes c all e).0;
  chain = chain-short;
  open_merges = λ bytes steps all l t e. open-short bytes steps all e;
  longest = longest-short;
}
