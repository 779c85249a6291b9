-- The steps of a sheet that is read, by value: what the arrays give is what the bytes stand for. Assumes nothing.
use Rattle.std.specs.Prelude.{◌≡◌, Result, Ok, Err}
use Rattle.theory.specs.Prelude.{ℕ, refl, sym, ap, ◌∙◌, subst, List, ℤ, length}
use Rattle.theory.specs.Graph.{SizedGraph}
use Rattle.theory.specs.declared.Rule.{Rule}
use Rattle.theory.specs.Rule.{rule_number}
use Rattle.theory.specs.declared.Step.{Step}
use Rattle.space.specs.Written.{Written}
use Rattle.sheet.specs.Field.{Field, value, refused, next}
use Rattle.sheet.specs.Decode.{read_sheet}
use Rattle.sheet.specs.Graph.{graph_of, sized_of, over_fault}
use Rattle.sheet.specs.Answer.{by_rule, Answers}
use Rattle.sheet.specs.Answer.Laws.{next-rule, answers-refused}
use Rattle.graph.specs.declared.Head.{Head}
use Rattle.graph.specs.Lent.{graph_in, sized_in}
use Rattle.space.specs.Written.{Refused}
use Rattle.steps.specs.declared.Listing.{Listing}
use Rattle.steps.specs.declared.Filled.{Filled}
use Rattle.steps.specs.Records.{numbers_field}
use Rattle.steps.specs.Listing.{Listed, filled_of, numbers_from}
use Rattle.steps.specs.Records.Laws.{as-listed, as-refused, listed-refused, fills, numbers-are}
use Rattle.pattern.specs.Entries.{held_sheet}
use Rattle.pattern.specs.Entries.Reading.{FactsRead}

-- what a held sheet's graph gives
module _ (what : SizedGraph → Field (List Step)) (bytes : List ℕ) where
  abbrev given : Field (List Step)
  given = next (held_sheet bytes) (λ f rest. what (sized_of f))

  -- a sheet that is refused
  pub refused-listed : (r : Rule) → read_sheet bytes ≡ refused (rule_number r) → Listed given (Err r)
  unfolding held_sheet
  refused-listed r e = as-refused r (rw e)

  -- one that is read: 11, or what its graph gives
  pub read-listed : {h : Head} {near start : List ℕ} {sizes : List ℤ} {l : Result Listing Rule} (f : FactsRead bytes h near start sizes)
      → Listed (by_rule (over_fault (graph_in h start)) (what (sized_in h start sizes))) l → Listed given l
  unfolding held_sheet
  read-listed f is =
      as-listed is
      (rw f.reads
      (next-rule (over_fault (graph_of f.facts)) (value f.facts f.rest) (λ x rest. what (sized_of x))
      ∙ ap (λ (g : SizedGraph). by_rule (over_fault g.graph) (what g)) (sym f.sized_read)))

-- the numbers of a list of 62 that is filled
pub listed-numbers : {x : Field (List Step)} {l : Listing} (old : List Step) {f : Filled} {space left : List ℕ} {r : Written} → Listed x (Ok l)
    → length old ≡ 62 → f ≡ filled_of old (Ok l) → Answers (numbers_from f.list f.answer) space r left → Answers (numbers_field x) space r left
unfolding filled_of
listed-numbers {x} {l} old {f} {space} {left} {r} is long e h =
    let w = fills old (Ok l) is (refl, refl) in
    subst (λ (y : Field (List ℕ)). Answers y space r left)
    (ap (λ (g : Filled). numbers_from g.list g.answer) e ∙ numbers-are _ is.fit long w) h

-- and of one that a rule refuses
pub refused-numbers : (x : Field (List Step)) {r : Rule} {space : List ℕ} → Listed x (Err r) → Answers (numbers_field x) space (Refused (rule_number r)) space
refused-numbers x is = answers-refused (ap numbers_field (listed-refused x is))
