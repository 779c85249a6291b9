-- How many of the sets of distances among two to five points are over, well, stuck and under, and the lines that say so (document 02, 2026-10).
use Rattle.std.specs.Prelude.{◌≡◌, ◌∷◌, ◌++◌, ◌+◌}
use Rattle.theory.specs.Prelude.{List, [], ℕ, zero, suc}
use Rattle.theory.specs.declared.Verdict.{Verdict}
use Rattle.theory.specs.declared.Verdict.TheVariants.{Over, Angle, Well, Stuck, Under}
use Rattle.space.specs.Text.{ascii, decimal}
use Rattle.report.specs.Report.{line}
use Rattle.card.specs.Card.{set_verdict, sets}
pub mod Proof

-- how many are over, well, stuck and under
pub data Counts : Type 0 where
  counts : ℕ → ℕ → ℕ → ℕ → Counts

-- one more of a verdict
abbrev pub one_more_of : Verdict → Counts → Counts
one_more_of Over (counts o w s u) = counts (o + 1) w s u
one_more_of Angle (counts o w s u) = counts o w s u
one_more_of Well (counts o w s u) = counts o (w + 1) s u
one_more_of Stuck (counts o w s u) = counts o w (s + 1) u
one_more_of Under (counts o w s u) = counts o w s (u + 1)

-- the sets of distances among n points, by number: the first k, and all
unfoldable pub counts_below : ℕ → ℕ → Counts
counts_below n zero = counts 0 0 0 0
counts_below n (suc k) = one_more_of (set_verdict n k) (counts_below n k)

unfoldable pub counts_of : ℕ → Counts
counts_of n = counts_below n (sets n)

-- a line for n points
abbrev pub counts_line : ℕ → Counts → List ℕ
counts_line n (counts o w s u) =
    line (
    ascii "points" ∷ decimal n ∷ ascii "over" ∷ decimal o ∷ ascii "well" ∷ decimal w ∷ ascii "stuck" ∷ decimal s ∷ ascii "under" ∷ decimal u ∷ []
    )

-- a line for each count of points, two first
unfoldable pub counts_lines : List ℕ
counts_lines = counts_line 2 (counts_of 2) ++ counts_line 3 (counts_of 3) ++ counts_line 4 (counts_of 4) ++ counts_line 5 (counts_of 5)

-- what the counts are
pub record Counted : Type 0 where
  pub two : counts_of 2 ≡ counts 0 1 0 1
  pub three : counts_of 3 ≡ counts 0 1 0 7
  pub four : counts_of 4 ≡ counts 1 6 0 57
  pub five : counts_of 5 ≡ counts 81 100 0 843
