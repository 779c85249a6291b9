-- `pattern::plan` meets its contract: the numbers of the judgement of the graph that is read. Assumes nothing.
use Rattle.std.specs.Prelude.{◌≡◌, Err}
use Rattle.theory.specs.Rule.{by_number, rule_number}
use Rattle.theory.specs.Prelude.{rules, refl, sym, ap, ◌∙◌, List, [], ℕ, ℤ, arith, length-take-le}
use Rattle.theory.specs.Graph.{Graph}
use Rattle.sheet.specs.Graph.{graph_of}
use Rattle.graph.specs.declared.Head.{Head}
use Rattle.graph.specs.Lent.{graph_in}
use Rattle.graph.specs.Lent.Sheets.{accepted-sound}
use Rattle.merges.specs.Run.{Run, run_in}
use Rattle.judge.specs.Judged.{judged_of}
use Rattle.judge.specs.Judged.Lists.{HeldRun, run-held}
use Rattle.sheet.specs.Field.{value}
use Rattle.sheet.specs.Answer.Laws.{answers-refused, answers-items}
use Rattle.pattern.specs.Entries.Reading.{FactsRead, facts-read}
use Rattle.pattern.proofs.plan.Goals as goal

-- the plan of the graph that is read
held : {bytes : List ℕ} {h : Head} {near start : List ℕ} {sizes : List ℤ} (f : FactsRead bytes h near start sizes) (run : Run)
    → run ≡ (judged_of (graph_in h start)).run → HeldRun (graph_of f.facts) (accepted-sound _ f.stands.accepted) run
held f run e = run-held _ _ (e ∙ ap (λ (g : Graph). (judged_of g).run) f.graph_read)

pub read_graph-requires : goal.read_graph-requires
read_graph-requires c = (refl, refl, refl)

pub returns-in_err-head : goal.returns-in_err-head
returns-in_err-head c =
    let passed : by_number c.from_residual.result ≡ Err (rule_number c.in_err-head.field-0.0) = search rules in
    rw passed (answers-refused (rw c.in_err-head.ensures))

pub plan_on-steps-requires : goal.plan_on-steps-requires
plan_on-steps-requires c =
    let read = facts-read c.in_ok-head.ensures in
    (read.drawn_is, record { slots_blank = refl; parts_blank = refl; joints_blank = refl })

pub overflow_mul-count : goal.overflow_mul-count
overflow_mul-count c =
    let f = facts-read c.in_ok-head.ensures in
    let l = c.plan_on-steps.new in
    let h = held f (run_in c.plan_on-steps.result l.parts l.joints l.slots) c.plan_on-steps.ensures in
    omega (arith, h.few_steps)

pub slice_bounds-parts-end : goal.slice_bounds-parts-end
slice_bounds-parts-end c =
    let f = facts-read c.in_ok-head.ensures in
    let l = c.plan_on-steps.new in
    let h = held f (run_in c.plan_on-steps.result l.parts l.joints l.slots) c.plan_on-steps.ensures in
    omega (arith, h.few_steps, h.all_parts)

pub slice_bounds-put_all-end : goal.slice_bounds-put_all-end
slice_bounds-put_all-end c =
    let f = facts-read c.in_ok-head.ensures in
    let l = c.plan_on-steps.new in
    let h = held f (run_in c.plan_on-steps.result l.parts l.joints l.slots) c.plan_on-steps.ensures in
    sym (length-take-le _ l.parts (omega (arith, h.few_steps, h.all_parts)))

pub returns : goal.returns
returns c =
    let f = facts-read c.in_ok-head.ensures in
    let l = c.plan_on-steps.new in
    let h = held f (run_in c.plan_on-steps.result l.parts l.joints l.slots) c.plan_on-steps.ensures in
    answers-items (c.put_all.ensures.answers, c.put_all.ensures.leaves) (rw f.reads (ap (λ (l : List ℕ). value l []) (sym h.plan_is)))
