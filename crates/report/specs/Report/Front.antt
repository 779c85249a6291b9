-- A report is its front and then its clusters. Assumes nothing.
use Rattle.std.specs.Prelude.{◌+◌, ◌≡◌, ◌++◌}
use Rattle.theory.specs.Prelude.{ℕ, sym, ap, ◌∙◌, List, append_assoc, length, length-append}
use Rattle.theory.specs.declared.Verdict.{Verdict}
use Rattle.theory.specs.declared.Step.{Step}
use Rattle.report.specs.Report.{verdict_line, elements_line, step_lines, cluster_lines, report}
use Rattle.report.specs.Pieces.{front}

module _ (n e : ℕ) (v : Verdict) (steps : List Step) where
  pub front-clusters : (slots rests : List ℕ) → front n e v steps ++ cluster_lines 0 slots rests ≡ report n e v steps slots rests
  unfolding front report
  front-clusters slots rests =
      append_assoc (verdict_line v) (elements_line n e ++ step_lines steps) (cluster_lines 0 slots rests)
      ∙ ap (λ (x : List ℕ). verdict_line v ++ x) (append_assoc (elements_line n e) (step_lines steps) (cluster_lines 0 slots rests))

  pub clusters-long : (slots rests : List ℕ)
      → length (front n e v steps) + length (cluster_lines 0 slots rests) ≡ length (report n e v steps slots rests)
  clusters-long slots rests =
      sym (length-append (front n e v steps) (cluster_lines 0 slots rests)) ∙ ap length (front-clusters slots rests)

  pub front_length : length (front n e v steps) ≡ length (verdict_line v) + (length (elements_line n e) + length (step_lines steps))
  unfolding front
  front_length =
      length-append (verdict_line v) (elements_line n e ++ step_lines steps)
      ∙ ap (λ (k : ℕ). length (verdict_line v) + k) (length-append (elements_line n e) (step_lines steps))
