-- What a measure says of the steps, and the space after it. Assumes nothing.
use Rattle.std.specs.Prelude.{◌≤◌, ◌≡◌}
use Rattle.theory.specs.Prelude.{ℕ, arith, refl, sym, ap, ◌∙◌, List, [], length}
use Rattle.theory.specs.declared.Step.{Step}
use Rattle.sheet.specs.Field.{Field, value, refused}
use Rattle.sheet.specs.Field.Laws.{refused-value}
use Rattle.report.specs.Report.{step_lines}
use Rattle.report.specs.Block.{Stands}
use Rattle.part.specs.declared.Tally.{Tally}
use Rattle.part.specs.Measured.{Measured}
use Rattle.part.specs.Measured.{Is, Refused}
use Rattle.part.specs.Tallies.{Listed, nothing, tally_of, measure_of, Tallied}

-- a measure of steps, and a refusal
pub record Had (x : Field (List Step)) (t : Tally) : Type 0 where
  pub steps : List Step
  pub rest : List ℕ
  pub gives : x ≡ value steps rest
  pub steps_are : t.steps ≡ length steps
  pub bytes_are : t.bytes ≡ length (step_lines steps)

pub had : (x : Field (List Step)) {r : Measured} {t : Tally} → r ≡ measure_of x → r ≡ Is t → Had x t
had (value l rest) {r} {t} e q =
    let w : tally_of l ≡ t = cc in
    record {
      steps = l;
      rest = rest;
      gives = refl;
      steps_are = sym (ap (λ (y : Tally). y.steps) w);
      bytes_are = sym (ap (λ (y : Tally). y.bytes) w);
    }
had (refused k) e q = absurd (let z : ◌≡◌ {A = ℕ} 0 1 = cc in omega arith)

pub not-had : (x : Field (List Step)) {r : Measured} {k : ℕ} → r ≡ measure_of x → r ≡ Refused k → x ≡ refused k
not-had (value l rest) e q = absurd (let z : ◌≡◌ {A = ℕ} 0 1 = cc in omega arith)
not-had (refused j) {r} {k} e q = let n : j ≡ k = cc in ap refused n

-- ---- the answers of the code

pub tallied-refused : {x : Field (List Step)} {space : List ℕ} {k : ℕ} → x ≡ refused k → Tallied x space (Refused k) space
tallied-refused {x} {space} {k} e = record {
  measured = ap measure_of (sym e);
  puts = λ l rest q. refused-value (sym e ∙ q);
  short = λ l rest q. refused-value (sym e ∙ q);
}

pub tallied-listed : {x : Field (List Step)} {space after : List ℕ} {steps : List Step} {r : Tally} → x ≡ value steps []
    → Listed space nothing steps r after → length (step_lines steps) ≤ 3534 → Tallied x space (Is r) after
tallied-listed {x} {space} {after} {steps} {r} e l few = record {
  measured = (λ z. Is (record { steps = count z; bytes = bytes z })) ∙ ap measure_of (sym e);
  puts = λ m rest q. let same : steps ≡ m = listed_same q in rw (← same) put;
  short = λ m rest q. let same : steps ≡ m = listed_same q in rw (← same) few;
}
  where
    count : r.steps ≡ length steps
    count = omega (arith, l.counts)

    bytes : r.bytes ≡ length (step_lines steps)
    bytes = omega (arith, l.puts.next_is)

    put : Stands space 0 (step_lines steps) (length (step_lines steps)) after
    put = rw (← bytes) l.puts

    listed_same : {m : List Step} {rest : List ℕ} → x ≡ value m rest → steps ≡ m
    listed_same q = cc
