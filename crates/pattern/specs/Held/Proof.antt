-- The page of the held sketch holds: the facts after any run are accepted and not over. Assumes nothing.
use Rattle.std.specs.Prelude.{◌+◌, ◌≤◌, ◌≡◌, ◌≢◌}
use Rattle.theory.specs.Prelude.{ℕ, sym, ap, ◌∙◌, List, [], length, length-append}
use Rattle.theory.specs.Constraints.{Pairs, NotOver}
use Rattle.theory.specs.Merge.{final}
use Rattle.theory.specs.Plan.{plan_of}
use Rattle.theory.specs.Plan.Laws.{plan-of-maximal}
use Rattle.theory.specs.Graph.{verdict_of}
use Rattle.theory.specs.Graph.Laws.{not-over-fine}
use Rattle.theory.specs.Finding.{Finding}
use Rattle.theory.specs.declared.Verdict.TheVariants.{Over}
use Rattle.space.specs.Space.{after}
use Rattle.space.specs.Written.{Done}
use Rattle.sheet.specs.declared.Sheet.{Sheet}
use Rattle.sheet.specs.Facts.{Facts, sheet_of, facts_of}
use Rattle.sheet.specs.Field.{Field, value, Bytes}
use Rattle.sheet.specs.Rules.{sheet_fault}
use Rattle.sheet.specs.Rules.Laws.{none-else}
use Rattle.sheet.specs.Decode.{read_sheet}
use Rattle.sheet.specs.Accepted.{Accepted}
use Rattle.sheet.specs.Accepted.Laws.{facts_of-sheet_of}
use Rattle.sheet.specs.RoundTrip.{written_read}
use Rattle.sheet.specs.Graph.{graph_of, over_fault}
use Rattle.sheet.specs.Graph.Laws.{clusters-pairs, fault-none, fine-fault}
use Rattle.graph.specs.Lent.Sheets.{accepted-sound, found-fine}
use Rattle.engine.specs.Lists.{living_of}
use Rattle.engine.specs.Lists.Laws.{living-live, living-count}
use Rattle.judge.specs.Judged.{finals_by, final_clusters}
use Rattle.theory.specs.Rests.Laws.{rests as rests-hold}
use Rattle.account.specs.Resting.{rests_by, rest_numbers}
use Rattle.sketch.specs.Runs.{Event, after_all, placed_in, hold_fault, Held, Run}
use Rattle.sketch.specs.Runs.Proof.{held-accepted, sheet-held, runs}
use Rattle.records.specs.Record.{record_bytes, held_record}
use Rattle.records.specs.Record.Laws.{held-value}
use Rattle.records.specs.Runs.{all_in, with_room, SameFacts}
use Rattle.records.specs.Runs.Proof.{after-stands, record-runs}
use Rattle.held.specs.Held.{held_value, held_count_of, held_items_of}
use Rattle.pattern.specs.Entries.{held_sheet}
use Rattle.pattern.specs.Held.{clusters_of, SketchTold, RecordTold, HeldPage}

-- ---- a sketch whose facts no rule refuses, and that is not over

module _ (x : Field Facts) (g : Facts) (holds : x ≡ value g []) (a : Accepted g) (o : over_fault (graph_of g) ≡ 0) where
  pairs : Pairs (clusters_of g)
  pairs = clusters-pairs g a.no_fault

  fine : NotOver (clusters_of g)
  fine = found-fine (accepted-sound g a) (fault-none (graph_of g) o)

  items : (what : _) → held_items_of what x ≡ value (what (graph_of g)) []
  items what = ap (held_items_of what) holds

  sketch-told : SketchTold x g
  unfolding rest_numbers final_clusters
  sketch-told = record {
    holds = holds;
    count = ap held_count_of holds;
    rests = λ p v. rests-hold (clusters_of g) pairs fine p v;
    words = items rest_numbers ∙ ap (λ (r : Finding). value (rests_by (graph_of g) r) []) (fault-none (graph_of g) o);
    plan = plan-of-maximal (clusters_of g) pairs;
    clusters =
        let ends = final (clusters_of g) (plan_of (clusters_of g)) in (
          living_of ends,
          items final_clusters ∙ ap (λ (r : Finding). value (finals_by (graph_of g) r) []) (fault-none (graph_of g) o),
          living-live ends,
          living-count ends,
        );
  }

-- ---- a value that may be held

module _ (s : Sheet) (h : Held s) where
  not_over : over_fault (graph_of (facts_of s)) ≡ 0
  unfolding hold_fault
  not_over = (none-else (sheet_fault s) (over_fault (graph_of (facts_of s))) h.no_fault).1

  value-is : held_value s ≡ value (facts_of s) []
  unfolding held_value
  value-is = rw h.no_fault

  value-told : SketchTold (held_value s) (facts_of s)
  value-told = sketch-told (held_value s) (facts_of s) value-is (held-accepted s h) not_over

  -- a record with the same facts
  record-told : (lent : List ℕ) → SameFacts lent s → SketchTold (held_record lent) (facts_of s)
  record-told lent same = sketch-told (held_record lent) (facts_of s) (held-value lent same not_over) (held-accepted s h) not_over

-- ---- after a run

module _ (bytes : List ℕ) (f : Facts) (a : Accepted f) (o : over_fault (graph_of f) ≡ 0) (hold : held_sheet bytes ≡ value f []) where
  first : Held (sheet_of f)
  first = sheet-held f a o

  later : (events : List Event) → Run (sheet_of f) events
  later events = runs.run (sheet_of f) first events

  in_record : (events : List Event) (lent : List ℕ) → length (record_bytes f) ≤ length lent → RecordTold f (after (record_bytes f) lent) events
  in_record events lent fits =
      let space = after (record_bytes f) lent in
      let same : SameFacts space (sheet_of f) = after-stands f a lent fits ∙ ap (λ (x : Facts). value x []) (sym (facts_of-sheet_of f)) in
      let (answers, facts) = record-runs.any_length space (sheet_of f) first same events in
      let told = record-told (after_all (sheet_of f) (with_room space events)) (later (with_room space events)).held (all_in space events) facts in
      record { answers = answers; sketch = told; places = λ c. record-runs.places (all_in space events) _ told.holds c }

  page : (events : List Event) → HeldPage bytes f events
  page events =
      let s = after_all (sheet_of f) events in
      let told = value-told s (later events).held in
      record {
        by_value = told;
        number = told.count ∙ ap Done (
            ap length (later events).constraints ∙ length-append (facts_of (sheet_of f)).constraints (placed_in (sheet_of f) events)
            ∙ ap (λ (x : Facts). length x.constraints + length (placed_in (sheet_of f) events)) (facts_of-sheet_of f));
        in_record = λ lent fits. rw hold (in_record events lent fits);
      }

pub held-page : (bytes : List ℕ) (f : Facts) (rest : List ℕ) → Bytes bytes → read_sheet bytes ≡ value f rest → verdict_of (graph_of f) ≢ Over
    → (events : List Event) → HeldPage bytes f events
unfolding held_sheet
held-page bytes f rest all reads v events =
    let o = fine-fault (graph_of f) (not-over-fine (graph_of f) v) in
    let r = written_read bytes f rest all reads in
    page bytes f r.2 o (rw (reads, o) (ap (value f) r.0)) events
