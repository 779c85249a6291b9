-- An answer as one number: the count of items written, or minus the number of the rule that refuses.
use Rattle.std.specs.Prelude.{ℕ, cond, ◌≡◌, List, ltb, ℤ, pos, neg_ℤ}
use Rattle.std.proofs.Math.Option.{Option}
use Rattle.sheet.specs.Facts.{Facts}
use Rattle.sheet.specs.Field.{Field}
use Rattle.sheet.specs.Answer.{answer_to, after_to}
use Rattle.theory.specs.Verdict.{verdict_number}
use Rattle.chain.specs.Says.{Answer}
use Rattle.chain.specs.Says.{Run, None, Refused as Not}
use Rattle.chain.specs.Answer.{chain_to, chain_left}
use Rattle.sketch.specs.Judgement.{Judgement}
use Rattle.sketch.specs.Judgement.{Is, Refused as No}
use Rattle.records.specs.Record.{written_field, placed_in}
use Rattle.space.specs.Written.{Written}
use Rattle.space.specs.Written.{Done, Refused}
pub mod Laws
pub mod Counts

abbrev pub minus : ℕ → ℤ
minus k = neg_ℤ (pos k)

-- no answer has 2^31 items: a sheet or report has some thousand bytes, a list at most some hundred items (`uncut`, from `pattern` Counts)
abbrev pub as_count : Written → ℤ
as_count (Done n) = pos (cond (ltb n 2147483648) n 2147483647)
as_count (Refused k) = minus k

-- the verdict's place among the names, from 0, or the rule
abbrev pub as_number : Judgement → Written
as_number (Is v) = Done (verdict_number v)
as_number (No k) = Refused k

-- what a call that gives the items, or the rule that refuses, answers as a number, and what it leaves in the space
pub record AnswersCount (x : Field (List ℕ)) (space : List ℕ) (r : ℤ) (left : List ℕ) : Type 0 where
  pub answer_is : r ≡ as_count (answer_to x space)
  pub left_is : left ≡ after_to x space

-- what placing gives of these facts answers as a number, and what it leaves in the record
pub record PlacedCount (x : Field Facts) (lent : List ℕ) (r : ℤ) (left : List ℕ) : Type 0 where
  pub answer_is : r ≡ as_count (as_number (placed_in x lent))
  pub left_is : left ≡ after_to (written_field x) lent

-- ---- the chain (document 02, 2026-08)

-- its clusters are counted like items; "none" is told as minus 100, a number that no rule has
abbrev pub as_items : Answer → Written
as_items (Run n) = Done n
as_items None = Refused 100
as_items (Not k) = Refused k

pub record ChainCount (x : Field (Option (List ℕ))) (space : List ℕ) (r : ℤ) (left : List ℕ) : Type 0 where
  pub answer_is : r ≡ as_count (as_items (chain_to x space))
  pub left_is : left ≡ chain_left x space
