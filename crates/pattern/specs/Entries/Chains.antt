-- The chain of a sheet that is read is that of its graph. Assumes nothing.
use Rattle.std.specs.Prelude.{◌≡◌}
use Rattle.theory.specs.Prelude.{ℕ, sym, subst, List, Option}
use Rattle.theory.specs.Graph.{Graph}
use Rattle.sheet.specs.Facts.{Facts}
use Rattle.sheet.specs.Field.{Field, value}
use Rattle.sheet.specs.Decode.{read_sheet}
use Rattle.sheet.specs.Graph.{graph_of, over_fault}
use Rattle.sheet.specs.Answer.{by_rule}
use Rattle.sheet.specs.Answer.Laws.{next-rule}
use Rattle.chain.specs.Answer.{asked, ChainAnswers}
use Rattle.chain.specs.Says.{Answer}
use Rattle.pattern.specs.Entries.{held_sheet, chain_field}

module _ (bytes : List ℕ) (u v : ℕ) where
  pub chain-asked : {f : Facts} {rest : List ℕ} → read_sheet bytes ≡ value f rest
      → chain_field bytes u v ≡ by_rule (over_fault (graph_of f)) (asked (graph_of f) u v)
  unfolding held_sheet
  chain-asked {f} {rest} e = rw e (next-rule (over_fault (graph_of f)) (value f rest) (λ h t. asked (graph_of h) u v))

  pub chain-read : {f : Facts} {rest : List ℕ} → read_sheet bytes ≡ value f rest → {g : Graph} → g ≡ graph_of f → (space left : List ℕ) (r : Answer)
      → ChainAnswers (by_rule (over_fault g) (asked g u v)) space r left → ChainAnswers (chain_field bytes u v) space r left
  chain-read e is space left r h =
      subst (λ (x : Field (Option (List ℕ))). ChainAnswers x space r left) (sym (chain-asked e))
      (subst (λ (x : Graph). ChainAnswers (by_rule (over_fault x) (asked x u v)) space r left) is h)
