-- The promises hold: the answers' lists are those of `account` Own; over and orders are shown beside (Over, Orders).
-- Assumes nothing.
use Rattle.std.specs.Prelude.{◌+◌, ◌*◌, ◌%◌, ◌≤◌, ◌<◌, ◌≡◌, ◌≢◌, ◌↔◌, ◌∷◌}
use Rattle.theory.specs.Prelude.{ℕ, zero, suc, refl, sym, ap, ap₂, ◌∙◌, subst}
use Rattle.theory.specs.Prelude.{Iff-trans, List, [], map}
use Rattle.theory.specs.Prelude.{arith, lt-ltb, length}
use Rattle.theory.specs.Constraints.{Among, Pairs, Below, NotOver}
use Rattle.theory.specs.Constraints.Perm.{same}
use Rattle.theory.specs.Merge.{Merge, put, Maximal, final, joints, live, left}
use Rattle.theory.specs.Plan.{plan_of, ascending, IsPlan}
use Rattle.theory.specs.Plan.Laws.{ascending-same, plan-of-is}
use Rattle.theory.specs.Ring.Laws.{ringed-is}
use Rattle.theory.specs.Verdict.{Meets, meets_angle, meets_well, meets_stuck, meets_under}
use Rattle.theory.specs.Verdict.Laws.{judged-meets, under-below, stuck-several}
use Rattle.theory.specs.Graph.{Graph, list_verdict, verdict_of}
use Rattle.theory.specs.Graph.Laws.{not-over-fine, verdict-fine}
use Rattle.theory.specs.Graph.Laws.{verdict-every}
use Rattle.theory.specs.Finding.{Finding}
use Rattle.theory.specs.declared.Verdict.{Verdict}
use Rattle.theory.specs.declared.Verdict.TheVariants.{Over, Stuck, Under}
use Rattle.sheet.specs.Answer.{by_rule}
use Rattle.space.specs.Space.{after}
use Rattle.sheet.specs.Facts.{Facts, sheet_of}
use Rattle.sheet.specs.Field.{Field, value, Bytes, next}
use Rattle.sheet.specs.Decode.{read_sheet}
use Rattle.sheet.specs.Accepted.{Accepted}
use Rattle.sheet.specs.RoundTrip.{written_read}
use Rattle.sheet.specs.Graph.{graph_of, sized_of, over_fault}
use Rattle.sheet.specs.Accepted.Laws.{accepted-two, facts_of-sheet_of}
use Rattle.sheet.specs.Graph.Laws.{clusters-pairs, clusters-below, sheet-demand3, fine-fault}
use Rattle.engine.specs.Lists.{living_of}
use Rattle.engine.specs.Lists.Laws.{living-live, living-count}
use Rattle.merges.specs.Run.{flat}
use Rattle.judge.specs.Judged.{plan_by, plan_numbers, final_clusters}
use Rattle.plans.specs.Check.{saved_steps_of}
use Rattle.plans.specs.Check.Laws.{whole-saved}
use Rattle.sketch.specs.Runs.{after_all}
use Rattle.sketch.specs.Runs.Proof.{sheet-held, runs}
use Rattle.records.specs.Record.{record_bytes}
use Rattle.records.specs.Record.Room.{record-room}
use Rattle.records.specs.Runs.Proof.{after-stands, after-long, record-runs}
use Rattle.account.specs.Account.{list_report, report_of, saved_fault}
use Rattle.theory.specs.Rests.{rests_on}
use Rattle.theory.specs.Rests.Laws.{rests as rests-hold}
use Rattle.account.specs.Resting.{words_of, rests_by, rest_numbers}
use Rattle.account.specs.Own.{ReportsOwn, EngineList}
use Rattle.account.specs.Own.Proof.{own-lists}
use Rattle.missing.specs.Missing.{cheapest_field, Told}
use Rattle.missing.specs.Missing.Laws.{told}
use Rattle.chain.specs.Chain.Laws.{chain-one}
use Rattle.chain.specs.Layers.{chain_of}
use Rattle.chain.specs.Answer.{finals_of}
use Rattle.chain.specs.Answer.Finals.{finals-chain}
use Rattle.graph.specs.Lent.Sheets.{accepted-sound}
use Rattle.pattern.specs.Entries.{items_field, report_field, verdict_field, held_sheet, check_field}
use Rattle.pattern.specs.Entries.Sketches.{check-saved}
use Rattle.pattern.specs.Over.Proof.{over-told, over_next}
use Rattle.pattern.specs.Orders.Proof.{in-orders}
use Rattle.pattern.specs.Held.Proof.{held-page}
use Rattle.pattern.specs.Promises.Growth.{grown-told, placed-told}
use Rattle.pattern.specs.Promises.{NameSays, OwnList, HeldRuns, ChainTold, Promises}

-- the engine's plan lists its numbers ascending
plan-ascends : (p : List Merge) (s : List ℕ) → IsPlan s p → map ascending p ≡ p
plan-ascends [] s h = refl
plan-ascends (m ∷ p) s h =
    ap₂ (λ (x : Merge) (l : List Merge). x ∷ l) (ascending-same m h.0.i<j h.0.j<k)
    (plan-ascends p (put s m) h.1)

module _ (bytes : List ℕ) (f : Facts) (rest : List ℕ) (all : Bytes bytes) (reads : read_sheet bytes ≡ value f rest) where
  abbrev g : Graph
  g = graph_of f

  accepted : Accepted f
  accepted = (written_read bytes f rest all reads).2

  pairs : Pairs g.clusters
  pairs = clusters-pairs f accepted.no_fault

  below : Below g.n g.clusters
  below = clusters-below f accepted.no_fault

  -- ---- what the entry points answer, from the facts

  items-are : (what : Graph → List ℕ) → items_field what bytes ≡ value (what g) []
  items-are what = rw reads refl

  report_is : report_field bytes ≡ value (report_of (sized_of f)) []
  report_is = rw reads refl

  verdict_is : verdict_field bytes ≡ value (verdict_of g) []
  verdict_is = rw reads refl

  held-is : held_sheet bytes ≡ by_rule (over_fault g) (value f rest)
  unfolding held_sheet
  held-is = rw reads refl

  -- ---- what is not over

  module _ (not_over : verdict_of g ≢ Over) where
    fine : NotOver g.clusters
    fine = verdict-fine g pairs below not_over

    -- ---- what a verdict's name says

    name-says : (p : List Merge) → Maximal g.clusters p → NameSays g p
    unfolding list_verdict
    name-says p v = record {
      meets = met;
      several = λ e. stuck-is (list_verdict g p) met e;
      below = λ e. under-is (list_verdict g p) met e;
    }
      where
        met : Meets g.lines g.n (length g.clusters) (joints g.clusters p) (final g.clusters p) (list_verdict g p)
        met =
            judged-meets g.lines g.n (length g.clusters) (joints g.clusters p) (final g.clusters p)
            (ringed-is g.clusters pairs fine p v g.lines)

        stuck-is : (w : Verdict) → Meets g.lines g.n (length g.clusters) (joints g.clusters p) (final g.clusters p) w → w ≡ Stuck
            → 2 ≤ left (final g.clusters p)
        stuck-is w (meets_stuck a b c) e = stuck-several g.n g.clusters (accepted-two f accepted) pairs b p v.valid c
        stuck-is w (meets_angle a) e = let x : ◌≡◌ {A = ℕ} 0 1 = cc in absurd (omega arith)
        stuck-is w (meets_well a b c) e = let x : ◌≡◌ {A = ℕ} 0 1 = cc in absurd (omega arith)
        stuck-is w (meets_under a b) e = let x : ◌≡◌ {A = ℕ} 0 1 = cc in absurd (omega arith)

        under-is : (w : Verdict) → Meets g.lines g.n (length g.clusters) (joints g.clusters p) (final g.clusters p) w → w ≡ Under
            → length g.clusters + 3 < 2 * g.n
        under-is w (meets_under a b) e = under-below g.n g.clusters (accepted-two f accepted) below fine b
        under-is w (meets_angle a) e = let x : ◌≡◌ {A = ℕ} 0 1 = cc in absurd (omega arith)
        under-is w (meets_well a b c) e = let x : ◌≡◌ {A = ℕ} 0 1 = cc in absurd (omega arith)
        under-is w (meets_stuck a b c) e = let x : ◌≡◌ {A = ℕ} 0 1 = cc in absurd (omega arith)

    -- ---- the answers are a list's own

    engine-list : EngineList (sized_of f)
    engine-list = (own-lists f accepted).engine not_over

    -- the list behind the plan's numbers is the engine's, which ascend at every step
    first-at-every-step : IsPlan g.clusters engine-list.p
    unfolding plan_numbers
    first-at-every-step =
        let own = plan-of-is g.clusters pairs in
        let numbers : flat (plan_of g.clusters) ≡ flat engine-list.p =
        ap flat (sym (plan-ascends (plan_of g.clusters) g.clusters own))
        ∙ sym (ap (λ (o : Finding). flat (map ascending (plan_by g o))) (not-over-fine g not_over))
        ∙ engine-list.plan in
        subst (IsPlan g.clusters)
        (sym (whole-saved (plan_of g.clusters)) ∙ ap saved_steps_of numbers ∙ whole-saved engine-list.p) own

    -- every maximal list has the sets that `clusters` answers
    finals-of : (p : List Merge) → Maximal g.clusters p → (finals : List ℕ) × (items_field final_clusters bytes ≡ value finals [])
        × ((x : ℕ) → Among x finals ↔ live (final g.clusters p) x) × (length finals ≡ left (final g.clusters p))
    finals-of p v =
        let l = engine-list in
        let a = (sheet-demand3 f accepted not_over).every f.constraints same l.p p l.maximal v in (
          living_of (final g.clusters l.p),
          items-are final_clusters ∙ ap (λ (x : List ℕ). value x []) l.clusters,
          λ x. Iff-trans (living-live (final g.clusters l.p) x) (a.finals x),
          living-count (final g.clusters l.p) ∙ a.lefts,
        )

    own : (p : List Merge) (plan : List ℕ) → Maximal g.clusters p → saved_steps_of plan ≡ p → ReportsOwn (sized_of f) p
        → OwnList bytes (sized_of f) p plan (list_report (sized_of f) p)
    own p plan v e r = record {
      maximal = v;
      numbers = e;
      verdict = verdict_is ∙ ap (λ (w : Verdict). value w []) (verdict-every g pairs below fine p v);
      name = name-says p v;
      report = refl;
      same_joints = r.same_joints;
      steps = r.steps;
      clusters = finals-of p v;
    }

  -- ---- the page

  saved-own : (plan told : List ℕ) → check_field bytes plan ≡ value told [] → OwnList bytes (sized_of f) (saved_steps_of plan) plan told
  saved-own plan told e = by (saved_fault g plan) refl (sym (check-saved bytes plan f rest reads) ∙ e)
    where
      by : (k : ℕ) → saved_fault g plan ≡ k → by_rule k (value (list_report (sized_of f) (saved_steps_of plan)) []) ≡ value told []
          → OwnList bytes (sized_of f) (saved_steps_of plan) plan told
      by zero z e =
          let s = (own-lists f accepted).saved plan in
          let m = s.accepted.0 z in
          let t : list_report (sized_of f) (saved_steps_of plan) ≡ told = cc in
          subst (OwnList bytes (sized_of f) (saved_steps_of plan) plan) t (own m.0 (saved_steps_of plan) plan m.2 refl (s.own z))
      by (suc k) z e = let x : ◌≡◌ {A = ℕ} 0 1 = cc in absurd (omega arith)

  accepts : verdict_of g ≢ Over → (plan : List ℕ)
      → ((told : List ℕ) × (check_field bytes plan ≡ value told [])) ↔ ((length plan % 3 ≡ 0) × Maximal g.clusters (saved_steps_of plan))
  accepts v plan = (
    λ (told, e). whole told (saved_fault g plan) refl (sym (check-saved bytes plan f rest reads) ∙ e),
    λ h. (
      list_report (sized_of f) (saved_steps_of plan),
      check-saved bytes plan f rest reads
          ∙ ap (λ (k : ℕ). by_rule k (value (list_report (sized_of f) (saved_steps_of plan)) [])) (((own-lists f accepted).saved plan).accepted.1 (v, h.0, h.1)),
    ),
  )
    where
      whole : (told : List ℕ) (k : ℕ) → saved_fault g plan ≡ k → by_rule k (value (list_report (sized_of f) (saved_steps_of plan)) []) ≡ value told []
          → (length plan % 3 ≡ 0) × Maximal g.clusters (saved_steps_of plan)
      whole told zero z e = let m = ((own-lists f accepted).saved plan).accepted.0 z in (m.1, m.2)
      whole told (suc k) z e = let x : ◌≡◌ {A = ℕ} 0 1 = cc in absurd (omega arith)

  -- ---- a held sketch

  held-runs : verdict_of g ≢ Over → HeldRuns bytes f
  unfolding held_sheet
  held-runs v =
      let o = fine-fault g (not-over-fine g v) in
      let is : held_sheet bytes ≡ value f [] = rw (reads, o) (ap (value f) (written_read bytes f rest all reads).0) in
      let h = sheet-held f accepted o in
      record {
        hold = is;
        value_runs = λ events. runs.run (sheet_of f) h events;
        lent_runs = λ lent long events.
            let fits : length (record_bytes f) ≤ length lent = omega (arith, record-room f accepted o) in
            rw is (record-runs.run (after (record_bytes f) lent) (sheet_of f) (omega (arith, after-long f accepted lent fits)) h
            (after-stands f accepted lent fits ∙ ap (λ (x : Facts). value x []) (sym (facts_of-sheet_of f))) events);
      }

  words_are : verdict_of g ≢ Over → items_field rest_numbers bytes
      ≡ value (words_of (final g.clusters (plan_of g.clusters)) (rests_on (length g.clusters) (plan_of g.clusters))) []
  unfolding rest_numbers
  words_are v = items-are rest_numbers ∙ ap (λ (o : Finding). value (rests_by g o) []) (not-over-fine g v)

  chain-told : verdict_of g ≢ Over → (u v : ℕ) → u < g.n → v < g.n → ChainTold bytes g u v
  chain-told n u v l m =
      let is = finals-chain g (accepted-sound f accepted) u v l m in record {
        chain = chain_of (finals_of g) u v;
        given = rw (held-is, fine-fault g (not-over-fine g n), lt-ltb u g.n l, lt-ltb v g.n m);
        is = is;
        only = λ o h. chain-one (finals_of g) u v o _ h is;
      }

  pub promises : Promises bytes f
  promises = record {
    over = over-told bytes f rest accepted reads;
    over_next = λ v events c. over_next (after_all (sheet_of f) events) ((held-runs v).value_runs events).held c;
    orders = in-orders bytes f rest all reads;
    engine = λ v.
        let l = engine-list v in (
          l.p,
          flat l.p,
          list_report (sized_of f) l.p,
          items-are plan_numbers ∙ ap (λ (x : List ℕ). value x []) l.plan,
          report_is ∙ ap (λ (x : List ℕ). value x []) l.report,
          first-at-every-step v,
          own v l.p (flat l.p) l.maximal (whole-saved l.p) l.own,
        );
    saved = saved-own;
    accepts = accepts;
    missing = λ not_over prices long ok.
        subst (Told g prices) (sym (ap (λ (x : Field Facts). next x (λ h t. cheapest_field (graph_of h) prices)) (held-is ∙ ap (λ (k : ℕ). by_rule k (value f rest))
        (fine-fault g (not-over-fine g not_over)))))
        (told g prices (accepted-two f accepted) pairs below (fine not_over) long ok);
    chain = chain-told;
    runs = held-runs;
    rests = λ v p w. rests-hold g.clusters pairs (fine v) p w;
    words = words_are;
    grown = λ new left h b e w v. grown-told bytes rest f accepted reads new left h (written_read new h left b e).2 e w v;
    placed = λ v events. placed-told bytes rest f accepted reads v (held-runs v) events;
    held = held-page bytes f rest all reads;
  }
