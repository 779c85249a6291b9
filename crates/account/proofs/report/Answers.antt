-- `account::report` meets its contract: what is found tells which report the definition gives. Assumes nothing.
use Rattle.std.specs.Prelude.{◌≡◌}
use Rattle.theory.specs.Prelude.{arith, refl, List, ℕ, take}
use Rattle.theory.specs.Finding.{First}
use Rattle.theory.specs.Graph.{finding_of}
use Rattle.graph.specs.declared.Head.{Head}
use Rattle.graph.specs.Lent.{graph_in, sized_in, Drawn}
use Rattle.graph.specs.Lent.Sheets.{counted}
use Rattle.judge.specs.declared.Found.{Found}
use Rattle.judge.specs.Found.{FoundIn}
use Rattle.report.specs.Report.{over_report}
use Rattle.account.specs.Account.{report_of}
use Rattle.account.specs.Account.Answers.{OverFound, over-found, PlanFound, plan-found}
use Rattle.account.proofs.report.Goals as goal

-- what is found of a graph in lent arrays
module _ {h : Head} {near start : List ℕ} (d : Drawn h near start) where
  over : {first set : ℕ} → finding_of (graph_in h start) ≡ First first set → OverFound (graph_in h start) d.sound first set
  over q = over-found _ _ q

  plan : {f : Found} {parts joints slots : List ℕ} (j : FoundIn (graph_in h start) f parts joints slots) → PlanFound (graph_in h start) d.sound j
  plan j = plan-found _ _ j

pub judge_on-requires : goal.judge_on-requires
judge_on-requires c = (c.requires, record { slots_blank = refl; parts_blank = refl; joints_blank = refl })

pub write_over_report-requires : goal.write_over_report-requires
write_over_report-requires c =
    let d = c.requires in
    let o = over d c.in-Err.ensures in
    (omega (arith, d.sound.most), omega (arith, d.few), omega (arith, o.first_below, counted d, d.few))

pub returns-in-Err : goal.returns-in-Err
returns-in-Err c =
    let a = c.args in
    let d = c.requires in
    let o = over d c.in-Err.ensures in
    let r : over_report a.h.n a.h.e _ _ ≡ report_of (sized_in a.h a.start.now a.sizes.now) =
    rw (counted d) at (o.report_is (take a.h.e a.sizes.now)) in
    (rw r at c.write_over_report.ensures.answers, rw r at c.write_over_report.ensures.leaves)

pub put_list-requires : goal.put_list-requires
put_list-requires c =
    let d = c.requires in
    let p = plan d c.in-Ok.ensures in
    (d.sound, counted d, p.not_over, p.merged)

pub returns-in-Ok : goal.returns-in-Ok
returns-in-Ok c =
    let p = plan c.requires c.in-Ok.ensures in
    rw (p.report_is (take c.args.h.e c.args.sizes.now)) at (c.put_list.ensures p.merged)
