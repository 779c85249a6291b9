-- The checker computes the verdict of every set of distances among two to five points, and counts. Assumes nothing.
use Rattle.std.specs.Prelude.{◌≡◌, ◌&&◌}
use Rattle.theory.specs.Prelude.{Bool, ℕ, ones, T, eqb, eqb→eq}
use Rattle.theory.specs.Tests.{and_both}
use Rattle.theory.specs.Set.{◌∩◌, ◌∪◌}
use Rattle.theory.specs.Constraints.{pair, has, carried}
use Rattle.theory.specs.Over.{heavy, any_below, is_over, is_tight, smaller, fewest_below, smallest_set, next, over_up_to, over_of}
use Rattle.theory.specs.Merge.{union, joint, cleared, put, total, left, joints}
use Rattle.theory.specs.Plan.{open_test, third_of, second_of, first_of, plan, plan_of}
use Rattle.theory.specs.Ring.{ringed, stripped}
use Rattle.theory.specs.Verdict.{angled, judged}
use Rattle.theory.specs.Graph.{list_verdict, verdict_of}
use Rattle.sheet.specs.Facts.{set_of}
use Rattle.card.specs.Card.{with_each, each_two, standing, points_sheet, set_verdict, sets}
use Rattle.card_counts.specs.Counts.{Counts, counts, counts_below, counts_of, Counted}

-- ---- a test that computes

abbrev equal : Counts → Counts → Bool
equal (counts o w s u) (counts o' w' s' u') = eqb o o' && (eqb w w' && (eqb s s' && eqb u u'))

equal-same : (a b : Counts) → T (equal a b) → a ≡ b
equal-same (counts o w s u) (counts o' w' s' u') t =
    let x = and_both (eqb o o') (eqb w w' && (eqb s s' && eqb u u')) t in
    let y = and_both (eqb w w') (eqb s s' && eqb u u') x.1 in
    let z = and_both (eqb s s') (eqb u u') y.1 in
    let p = eqb→eq o o' x.0 in
    let q = eqb→eq w w' y.0 in
    let r = eqb→eq s s' z.0 in
    let v = eqb→eq u u' z.1 in
    cc

-- ---- the counts

test : (n : ℕ) (c : Counts) → T (equal (counts_of n) c) → counts_of n ≡ c
test n c t = equal-same (counts_of n) c t

pub counted : Counted
unfolding counts_of counts_below sets set_verdict points_sheet standing each_two with_each verdict_of list_verdict judged angled ringed stripped plan_of
    plan first_of
    second_of third_of open_test put cleared union joint joints left total over_of over_up_to next is_over any_below heavy is_tight smaller fewest_below
    smallest_set has carried pair set_of ones ◌∩◌ ◌∪◌
counted = record {
  two = test 2 (counts 0 1 0 1) tt;
  three = test 3 (counts 0 1 0 7) tt;
  four = test 4 (counts 1 6 0 57) tt;
  five = test 5 (counts 81 100 0 843) tt;
}
