-- The sheets marked P print what the table says. Assumes nothing.
use Rattle.std.specs.Prelude.{◌≡◌}
use Rattle.theory.specs.Prelude.{refl, map, ones}
use Rattle.theory.specs.Set.{◌∩◌, ◌∪◌, at}
use Rattle.theory.specs.Constraints.{pair, has, carried}
use Rattle.theory.specs.Over.{heavy, any_below, is_over, is_tight, smaller, fewest_below, smallest_set, next, over_up_to, over_of}
use Rattle.theory.specs.Merge.{union, joint, cleared, put, total, left, joints}
use Rattle.theory.specs.Plan.{open_test, third_of, second_of, first_of, plan, plan_of, ascending}
use Rattle.theory.specs.Ring as ring
use Rattle.theory.specs.Ring.{ringed, stripped, once, linked}
use Rattle.theory.specs.Verdict.{angled, judged}
use Rattle.theory.specs.Placement.{joint_kind, against, triangle, strip, strip_of, placed, ways}
use Rattle.theory.specs.Graph.{list_verdict, step_of, steps_from}
use Rattle.space.specs.Text.{decimal}
use Rattle.sheet.specs.Facts.{sheet_of, set_of}
use Rattle.sheet.specs.Rules.{sheet_fault, elements_fault, kinds_allowed, radii_in_range, constraint_fault, constraints_fault, size_fault, stands}
use Rattle.sheet.specs.Graph.{sized_of}
use Rattle.theory.specs.Rests.{alone_from, rests_on}
use Rattle.report.specs.Elements.{among, elements, constraints_of}
use Rattle.report.specs.Report.{step_line, cluster_line, step_lines, slot_line, cluster_lines, report, over_report}
use Rattle.account.specs.Account.{list_report, report_of}
use Rattle.account.specs.Table.{Row, table, Printed}

printed : map (λ (r : Row). report_of (sized_of r.facts)) table ≡ map (λ (r : Row). r.prints) table
unfolding report_of list_report report over_report step_lines step_line cluster_lines slot_line cluster_line decimal elements constraints_of among rests_on alone_from at steps_from
    step_of ascending ways placed triangle strip strip_of against joint_kind list_verdict judged angled ringed stripped ring.strip once linked plan_of plan first_of second_of third_of
    open_test put cleared union joint joints left total has carried ones ◌∩◌ ◌∪◌ set_of pair is_over any_below heavy is_tight smaller
    fewest_below smallest_set next over_up_to over_of
printed = refl

fine : map (λ (r : Row). sheet_fault (sheet_of r.facts)) table ≡ map (λ (r : Row). 0) table
unfolding sheet_fault sheet_of elements_fault kinds_allowed radii_in_range constraints_fault constraint_fault size_fault stands
fine = refl

pub sheets-to-try : Printed
sheets-to-try = record { accepted = fine; prints = printed }
