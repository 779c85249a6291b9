-- The steps of one cluster of a sheet that is read: 11 and 26 go by its graph; what is had beforehand is what is then written. Assumes nothing.
use Rattle.std.specs.Prelude.{◌+◌, ◌≤◌, ◌<◌, ◌≡◌}
use Rattle.theory.specs.Prelude.{ℕ, refl, sym, ap, ◌∙◌, Bool, true, false, cond, List, [], ltb-true, ltb, length}
use Rattle.theory.specs.Graph.{SizedGraph}
use Rattle.theory.specs.Plan.{plan_of}
use Rattle.theory.specs.declared.Step.{Step}
use Rattle.space.specs.Written.{Done, Refused}
use Rattle.sheet.specs.Facts.{Facts}
use Rattle.sheet.specs.Field.{Field, value, Bytes}
use Rattle.sheet.specs.Field.Laws.{next-value, refused-value}
use Rattle.sheet.specs.Decode.{read_sheet}
use Rattle.sheet.specs.Accepted.{Accepted}
use Rattle.sheet.specs.Answer.{by_rule}
use Rattle.sheet.specs.Answer.Laws.{next-rule}
use Rattle.sheet.specs.Graph.{graph_of, sized_of, over_fault}
use Rattle.sheet.specs.Graph.Laws.{fault-none}
use Rattle.graph.specs.Lent.Sheets.{accepted-sound, found-fine}
use Rattle.report.specs.Report.{step_lines}
use Rattle.part.specs.declared.Tally.{Tally}
use Rattle.part.specs.Measured.{Measured}
use Rattle.part.specs.Measured.{Is, Refused as Not}
use Rattle.part.specs.Part.{cluster_steps, cluster_field, held_field, lines_field}
use Rattle.part.specs.Tallies.Plan.{short-plan}
use Rattle.part.specs.Tallies.{measure_of}
use Rattle.part.specs.Tallies.Answers.{had, not-had}
use Rattle.pattern.specs.Entries.{held_sheet, part_of, count_of}
use Rattle.pattern.specs.Entries.Sketches.{held-accepted}

pub part_held : (bytes : List ℕ) {f : Facts} {rest : List ℕ} (c : ℕ) → read_sheet bytes ≡ value f rest → part_of bytes c ≡ held_field (sized_of f) c
unfolding held_sheet
part_held bytes {f} {rest} c e = rw e (next-rule (over_fault (graph_of f)) (value f rest) (λ y r. cluster_field (sized_of y) c))

-- ---- counted by a measure

module _ (x : Field (List Step)) {r : Measured} (is : r ≡ measure_of x) where
  pub steps-counted : {t : Tally} → r ≡ Is t → Done t.steps ≡ count_of x
  steps-counted q = let h = had x is q in ap Done h.steps_are ∙ sym (ap count_of h.gives)

  pub bytes_counted : {t : Tally} → r ≡ Is t → Done t.bytes ≡ count_of (lines_field x)
  bytes_counted q = let h = had x is q in ap Done h.bytes_are ∙ sym (ap (λ (y : Field (List Step)). count_of (lines_field y)) h.gives)

  pub steps_refused : {k : ℕ} → r ≡ Not k → Refused k ≡ count_of x
  steps_refused q = sym (ap count_of (not-had x is q))

  pub bytes-refused : {k : ℕ} → r ≡ Not k → Refused k ≡ count_of (lines_field x)
  bytes-refused q = sym (ap (λ (y : Field (List Step)). count_of (lines_field y)) (not-had x is q))

-- ---- the facts that it goes by

pub record PartFound (bytes : List ℕ) (c : ℕ) (l : List Step) : Type 0 where
  pub facts : Facts
  pub accepted : Accepted facts
  pub not_over : over_fault (graph_of facts) ≡ 0
  pub below : c < length (graph_of facts).clusters + length (plan_of (graph_of facts).clusters)
  pub steps_are : l ≡ cluster_steps (sized_of facts) c

-- a number that is taken is one of a cluster
numbered : (g : SizedGraph) (c : ℕ) {l : List Step} {rest : List ℕ} → cluster_field g c ≡ value l rest
    → (c < length g.graph.clusters + length (plan_of g.graph.clusters)) × (l ≡ cluster_steps g c)
numbered g c {l} {rest} e = by (ltb c (length g.graph.clusters + length (plan_of g.graph.clusters))) refl e
  where
    by : (b : Bool) → ltb c (length g.graph.clusters + length (plan_of g.graph.clusters)) ≡ b → by_rule (cond b 0 26) (value (cluster_steps g c) []) ≡ value l rest
        → (c < length g.graph.clusters + length (plan_of g.graph.clusters)) × (l ≡ cluster_steps g c)
    by true q h = let same : cluster_steps g c ≡ l = cc in (ltb-true c _ q, sym same)
    by false q h = refused-value h

pub part-found : (bytes : List ℕ) (c : ℕ) {l : List Step} {rest : List ℕ} → Bytes bytes → part_of bytes c ≡ value l rest → PartFound bytes c l
part-found bytes c all e =
    next-value (held_sheet bytes) _ e (λ f t was e1.
    let (h, o) = held-accepted bytes f t all was in
    let n = numbered (sized_of f) c e1 in
    record { facts = f; accepted = h; not_over = o; below = n.0; steps_are = n.1 })

-- 62 steps and 3,534 bytes at most
pub part-short : (bytes : List ℕ) (c : ℕ) {l : List Step} {rest : List ℕ} → Bytes bytes → part_of bytes c ≡ value l rest
    → (length l ≤ 62) × (length (step_lines l) ≤ 3534)
part-short bytes c all e =
    let p = part-found bytes c all e in
    let g = sized_of p.facts in
    let sound = accepted-sound p.facts p.accepted in
    rw p.steps_are (short-plan g sound.simple.pairs c p.below sound (found-fine sound (fault-none g.graph p.not_over)))
