-- Step lines put into a block, and counted: what the code asks and answers. Assumes nothing.
use Rattle.std.specs.Prelude.{ℕ, ◌+◌, ◌≤◌, ◌<◌, ◌^◌, ◌≡◌, List, length}
use Rattle.theory.specs.declared.Step.{Step}
use Rattle.sheet.specs.Field.{Field, value, refused}
use Rattle.report.specs.Report.{step_lines}
use Rattle.report.specs.Block.{block, Stands}
use Rattle.part.specs.declared.Tally.{Tally}
use Rattle.part.specs.Measured.{Measured}
use Rattle.part.specs.Measured.{Is, Refused}
pub mod Laws
pub mod Plan
pub mod Judged
pub mod Answers

-- up to cluster c, each part of a step is lower than the cluster that the step makes
pub record Lower (e : ℕ) (step : ℕ → Step) (c : ℕ) : Type 0 where
  pub i_lower : (t : ℕ) → e + t ≤ c → (step t).i < e + t
  pub j_lower : (t : ℕ) → e + t ≤ c → (step t).j < e + t
  pub k_lower : (t : ℕ) → e + t ≤ c → (step t).k < e + t

-- the lines of the steps l are put from the place `t.bytes` on, and counted
pub record Listed (space : List ℕ) (t : Tally) (l : List Step) (r : Tally) (after : List ℕ) : Type 0 where
  pub puts : Stands space t.bytes (step_lines l) r.bytes after
  pub counts : r.steps ≡ t.steps + length l

-- the count stays in its range, and the lines have room in the block, with a line's length to spare
pub record Room (t : Tally) (l : List Step) : Type 0 where
  pub steps_fit : t.steps + length l < 2 ^ 64
  pub bytes_fit : t.bytes + length (step_lines l) + 310 ≤ block

-- ---- steps, or the rule that refuses

abbrev pub nothing : Tally
nothing = record { steps = 0; bytes = 0 }

abbrev pub tally_of : List Step → Tally
tally_of l = record { steps = length l; bytes = length (step_lines l) }

abbrev pub measure_of : Field (List Step) → Measured
measure_of (value l rest) = Is (tally_of l)
measure_of (refused k) = Refused k

-- they are measured, and their lines put from the front of the block: 3,534 bytes take them
pub record Tallied (x : Field (List Step)) (space : List ℕ) (r : Measured) (after : List ℕ) : Type 0 where
  pub measured : r ≡ measure_of x
  pub puts : (l : List Step) (rest : List ℕ) → x ≡ value l rest → Stands space 0 (step_lines l) (length (step_lines l)) after
  pub short : (l : List Step) (rest : List ℕ) → x ≡ value l rest → length (step_lines l) ≤ 3534
