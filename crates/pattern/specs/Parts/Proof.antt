-- The promises of one cluster's steps hold. Assumes nothing.
use Rattle.std.specs.Prelude.{◌≤◌, ◌<◌, ◌≡◌}
use Rattle.theory.specs.Prelude.{ℕ, arith, lt-ltb, le-ltb, refl, ap, ◌∙◌, Bool, true, false, cond, List}
use Rattle.theory.specs.Prelude.{[], ltb, length}
use Rattle.theory.specs.declared.Step.{Step}
use Rattle.space.specs.Written.{Written, Done, Refused}
use Rattle.space.specs.Space.{answer, after}
use Rattle.space.specs.Space.Laws.{long-answer}
use Rattle.sheet.specs.Facts.{Facts}
use Rattle.sheet.specs.Field.{Field, value, refused, next, Bytes}
use Rattle.sheet.specs.Graph.{sized_of}
use Rattle.sheet.specs.Answer.{by_rule, answer_to, after_to}
use Rattle.report.specs.Report.{step_lines}
use Rattle.graph.specs.Lent.Sheets.{accepted-sound}
use Rattle.part.specs.Part.{cluster_steps, cluster_field, lines_field}
use Rattle.part.specs.Shown.{Shown}
use Rattle.part.specs.Shown.Proof as shown
use Rattle.pattern.specs.Entries.{held_sheet, part_of, part_field, count_of}
use Rattle.pattern.specs.Entries.Sketches.{held-accepted}
use Rattle.pattern.specs.Parts.{clusters_made, Parts}

-- ---- items counted, then written

enough : (x : Field (List ℕ)) (space : List ℕ) (n : ℕ) → count_of x ≡ Done n → n ≤ length space → answer_to x space ≡ Done n
enough (value items rest) space n e h = let same : length items ≡ n = cc in long-answer items space (omega arith) ∙ ap Done same
enough (refused k) space n e h = absurd (let z : ◌≡◌ {A = ℕ} 0 1 = cc in omega arith)

written : (x : Field (List ℕ)) (space : List ℕ) (n : ℕ) → answer_to x space ≡ Done n → count_of x ≡ Done n
unfolding answer
written (value items rest) space n e = by (ltb (length space) (length items)) e
  where
    by : (b : Bool) → cond {A = Written} b (Refused 17) (Done (length items)) ≡ Done n → count_of (value items rest) ≡ Done n
    by true h = absurd (let z : ◌≡◌ {A = ℕ} 0 1 = cc in omega arith)
    by false h = h
written (refused k) space n e = e

refused_then : (x : Field (List ℕ)) (space : List ℕ) (k : ℕ) → count_of x ≡ Refused k → answer_to x space ≡ Refused k
refused_then (value items rest) space k e = absurd (let z : ◌≡◌ {A = ℕ} 0 1 = cc in omega arith)
refused_then (refused j) space k e = e

-- steps counted, then their lines written

steps_written : (x : Field (List Step)) (space : List ℕ) (n : ℕ) → answer_to (lines_field x) space ≡ Done n
    → (steps : List Step) × (count_of x ≡ Done (length steps))
    × (after_to (lines_field x) space ≡ after (step_lines steps) space)
steps_written (value steps rest) space n e = (steps, refl, refl)
steps_written (refused k) space n e = absurd (let z : ◌≡◌ {A = ℕ} 0 1 = cc in omega arith)

steps_enough : (x : Field (List Step)) (space : List ℕ) (m : ℕ) → count_of x ≡ Done m
    → (steps : List Step) × (length steps ≡ m) × (after_to (lines_field x) space ≡ after (step_lines steps) space)
steps_enough (value steps rest) space m e = (steps, cc, refl)
steps_enough (refused k) space m e = absurd (let z : ◌≡◌ {A = ℕ} 0 1 = cc in omega arith)

steps_refused : (x : Field (List Step)) (space : List ℕ) (k : ℕ) → count_of x ≡ Refused k
    → (count_of (lines_field x) ≡ Refused k) × (answer_to (lines_field x) space ≡ Refused k)
steps_refused (value steps rest) space k e = absurd (let z : ◌≡◌ {A = ℕ} 0 1 = cc in omega arith)
steps_refused (refused j) space k e = (e, e)

-- ---- a sheet that is held

module _ (bytes rest : List ℕ) (f : Facts) (c : ℕ) (e : held_sheet bytes ≡ value f rest) where
  of-facts : part_of bytes c ≡ cluster_field (sized_of f) c
  of-facts = ap (λ (x : Field Facts). next x (λ y r. cluster_field (sized_of y) c)) e

  taken : c < clusters_made f → part_of bytes c ≡ value (cluster_steps (sized_of f) c) []
  taken b = of-facts ∙ ap (λ (t : Bool). by_rule (cond t 0 26) (value (cluster_steps (sized_of f) c) [])) (lt-ltb c (clusters_made f) b)

  beyond : clusters_made f ≤ c → part_of bytes c ≡ refused 26
  beyond b = of-facts ∙ ap (λ (t : Bool). by_rule (cond t 0 26) (value (cluster_steps (sized_of f) c) [])) (le-ltb c (clusters_made f) b)

  known : Bytes bytes → c < clusters_made f → Shown (sized_of f) c
  known all b = shown.shown (sized_of f) (accepted-sound f (held-accepted bytes f rest all e).0).simple.pairs c b

pub parts : Parts
parts = record {
  enough = λ bytes space c n. enough (part_field bytes c) space n;
  written = λ bytes space c n. written (part_field bytes c) space n;
  refused_then = λ bytes space c k. refused_then (part_field bytes c) space k;
  steps_written = λ bytes space c n. steps_written (part_of bytes c) space n;
  steps_enough = λ bytes space c m n e h room. steps_enough (part_of bytes c) space m e;
  steps_refused = λ bytes space c k. steps_refused (part_of bytes c) space k;
  taken = taken;
  beyond = beyond;
  shown = λ bytes rest f c all e. known bytes rest f c e all;
}
