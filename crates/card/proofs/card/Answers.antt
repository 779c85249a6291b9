-- `card::card` meets its contract: the checker computes the verdicts of all 1,024 sets and compares each with its entry. Assumes nothing.
use lib.Count.{ones}
use Rattle.theory.specs.Set.{◌∩◌, ◌∪◌}
use Rattle.theory.specs.Constraints.{pair, has, carried}
use Rattle.theory.specs.Over.{heavy, any_below, is_over, is_tight, smaller, fewest_below, smallest_set, next, over_up_to, over_of}
use Rattle.theory.specs.Merge.{union, joint, cleared, put, total, left, joints}
use Rattle.theory.specs.Plan.{open_test, third_of, second_of, first_of, plan, plan_of}
use Rattle.theory.specs.Ring.{ringed, stripped}
use Rattle.theory.specs.Verdict.{angled, judged}
use Rattle.theory.specs.Graph.{list_verdict, verdict_of}
use Rattle.sheet.specs.Facts.{set_of}
use Rattle.card.specs.Card.{with_each, each_two, standing, points_sheet, set_verdict, all_right}
use Rattle.card.proofs.card.Goals as goal

pub returns : goal.returns
unfolding all_right set_verdict points_sheet standing each_two with_each verdict_of list_verdict judged angled ringed stripped plan_of plan first_of
    second_of third_of open_test put cleared union joint joints left total over_of over_up_to next
    is_over any_below heavy is_tight smaller fewest_below smallest_set
    has carried pair set_of ones ◌∩◌ ◌∪◌
returns c = tt
