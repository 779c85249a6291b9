-- A rule's number with its sign, and a count, in 32 bits. Assumes nothing.
use Rattle.std.specs.Prelude.{◌<◌, ◌≡◌, ◌-ℤ◌}
use Rattle.theory.specs.Prelude.{ℕ, zero, suc, arith, refl, ap, ◌∙◌, List, Option, lt-ltb, ℤ, pos, negsuc}
use Rattle.std.specs.Int.{w32}
use Rattle.std.proofs.Common.{SFits, to_z, of_z, to_z-of_z}
use Rattle.space.specs.Written.{Written}
use Rattle.sheet.specs.Field.{Field}
use Rattle.sheet.specs.Answer.{Answers}
use Rattle.chain.specs.Says.{Answer}
use Rattle.chain.specs.Answer.{ChainAnswers}
use Rattle.pattern_c.specs.Numbers.{minus, as_count, AnswersCount, as_items, ChainCount}

pub zero_minus : (k : ℕ) → pos 0 -ℤ pos k ≡ minus k
zero_minus zero = refl
zero_minus (suc k) = let h : 0 < suc k = omega arith in rw (lt-ltb 0 (suc k) h) (ap negsuc (omega arith))

pub minus-fits : (k : ℕ) → k < 256 → SFits w32 (minus k)
minus-fits zero h = record { sfits = omega arith }
minus-fits (suc k) h = record { sfits = omega arith }

-- what a function answers that counts what it has written
pub counted : (z : ℤ) (w v : Written) → SFits w32 z → z ≡ as_count w → w ≡ v → to_z w32 (of_z w32 z) ≡ as_count v
counted z w v fits e f = to_z-of_z fits ∙ e ∙ ap as_count f

pub counts : {x : Field (List ℕ)} {space left : List ℕ} (z : ℤ) (w : Written) → SFits w32 z → z ≡ as_count w → Answers x space w left
    → AnswersCount x space (to_z w32 (of_z w32 z)) left
counts z w fits e a = record { answer_is = counted z w _ fits e a.answer_is; left_is = a.left_is }

pub chain-counts : (x : Field (Option (List ℕ))) (space left : List ℕ) (a : Answer) (z : ℤ) → SFits w32 z → z ≡ as_count (as_items a)
    → ChainAnswers x space a left → ChainCount x space (to_z w32 (of_z w32 z)) left
chain-counts x space left a z fits e h =
    record { answer_is = counted z _ _ fits e (ap as_items h.answer_is); left_is = h.left_is }
