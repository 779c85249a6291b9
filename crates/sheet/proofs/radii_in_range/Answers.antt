-- `sheet::radii_in_range` meets its contract: each element's radius is in range. Assumes nothing.
use borrow.Author.Tests.{tests}
use Rattle.std.proofs.lemmas.Iterator.{YieldsList-from_slice}
use Rattle.std.proofs.lemmas.Iterator.Search.{all_from_yields_List}
use Rattle.std.specs.Prelude.{◌||◌}
use Rattle.theory.specs.Prelude.{rules, ◌∙◌, not}
use Rattle.sheet.specs.Facts.{is_circle, radius_of}
use Rattle.sheet.specs.Rules.{radius_in_range}
use Rattle.sheet.specs.Rules.Kinds.{all-radii}
use Rattle.sheet.proofs.radii_in_range.Goals as goal

pub returns : goal.returns
returns c =
    all_from_yields_List (λ x. not (is_circle x.kind) || radius_in_range (radius_of x.kind)) _ _ c.all.result c.all.ensures.ran
    (YieldsList-from_slice c.args.elements.now c.iter.ensures.rest) (λ x b q k. search (rules, tests))
    ∙ all-radii _
