-- A held sketch answers by the rule that refuses one constraint more, and then by the verdict with it. Assumes nothing.
use Rattle.std.specs.Prelude.{◌≡◌}
use Rattle.theory.specs.Prelude.{ℕ, arith, ap, ◌∙◌, length, length-take}
use Rattle.theory.specs.Graph.{verdict_of}
use Rattle.theory.specs.declared.Verdict.{Verdict}
use Rattle.sheet.specs.declared.Constraint.{Constraint}
use Rattle.sheet.specs.declared.Sheet.{Sheet}
use Rattle.sheet.specs.Facts.{Facts, facts_of}
use Rattle.sheet.specs.Rules.{sheet_fault}
use Rattle.sheet.specs.Rules.Laws.{none-else}
use Rattle.sheet.specs.Graph.{graph_of, over_fault}
use Rattle.sketch.specs.Sketch.{extended, next_fault, ask_fault, place_fault, as_judged, ask_answer, place_answer}
use Rattle.sketch.specs.Sketch.Laws.{ask-sound, ask-place, answer-sound}
use Rattle.sketch.specs.Runs.{hold_fault, Held}
use Rattle.sketch.specs.Runs.Proof.{writes, room}

module _ (s : Sheet) (h : Held s) (c : Constraint) where
  abbrev f : Facts
  f = facts_of s

  abbrev verdict_with : Verdict
  verdict_with = verdict_of (graph_of (extended f c))

  fine : over_fault (graph_of f) ≡ 0
  unfolding hold_fault
  fine = (none-else (sheet_fault s) (over_fault (graph_of f)) h.no_fault).1

  held-is-e : s.e ≡ length f.constraints
  held-is-e = omega (arith, length-take s.e s.constraints, h.constraints_long, room s h)

  pub ask-rule : ask_fault f c ≡ next_fault f c
  unfolding ask_fault
  ask-rule = rw fine

  pub place-rule : place_fault f c s.e ≡ next_fault f c
  place-rule = ap (place_fault f c) held-is-e ∙ ask-place f c ∙ ask-rule

  pub asked-next : ask_answer s c ≡ as_judged (next_fault f c) verdict_with
  asked-next = ask-sound s c (writes s h) ∙ ap (λ (k : ℕ). as_judged k verdict_with) ask-rule

  pub placed-next : place_answer s c s.e ≡ as_judged (next_fault f c) verdict_with
  placed-next = answer-sound s c s.e (writes s h) ∙ ap (λ (k : ℕ). as_judged k verdict_with) place-rule
