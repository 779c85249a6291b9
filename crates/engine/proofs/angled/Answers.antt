-- `engine::angled` meets its contract: the test of each joint is the definition's. Assumes nothing.
use Rattle.std.specs.Prelude.{◌≡◌, ◌||◌}
use Rattle.std.specs.List.{list_any}
use Rattle.std.proofs.Common.{tests}
use Rattle.std.proofs.lemmas.Iterator.{YieldsList-from_slice}
use Rattle.std.proofs.lemmas.Iterator.Search.{any_from_yields_List}
use Rattle.theory.specs.Prelude.{rules, refl, ap, Bool, List, ℕ, [], ◌∷◌, take}
use Rattle.theory.specs.Set.{◌∩◌}
use Rattle.theory.specs.Verdict.{angled, all_lines}
use Rattle.engine.proofs.angled.Goals as goal

any-is : (lines : ℕ) (joints : List ℕ) → angled lines joints ≡ list_any (all_lines lines) joints
unfolding angled
any-is lines [] = refl
any-is lines (j ∷ joints) = ap (λ (b : Bool). all_lines lines j || b) (any-is lines joints)

pub returns : goal.returns
unfolding ◌∩◌
returns c =
    let joints = YieldsList-from_slice (take c.args.steps c.args.joints.now) c.iter.ensures.rest in
    rw any-is (any_from_yields_List (all_lines c.args.lines) _ _ _ c.any.ensures.ran joints (λ x b q k. search (rules, tests)))
