-- `pattern::initial` meets its contract: the clusters of the graph that is read. Assumes nothing.
use Rattle.std.specs.Prelude.{◌≡◌, Err}
use Rattle.theory.specs.Rule.{by_number, rule_number}
use Rattle.std.specs.Prelude.{◌≤◌}
use Rattle.theory.specs.Prelude.{rules, arith, ℕ, List, refl, sym, ap, [], length, length-take-le}
use Rattle.theory.specs.Graph.{Graph}
use Rattle.graph.specs.declared.Head.{Head}
use Rattle.graph.specs.Lent.{Drawn}
use Rattle.sheet.specs.Field.{value}
use Rattle.sheet.specs.Answer.Laws.{answers-refused, answers-items}
use Rattle.pattern.specs.Entries.Reading.{facts-read}
use Rattle.pattern.proofs.initial.Goals as goal

-- the clusters lie in their array
within : {h : Head} {near start : List ℕ} → Drawn h near start → h.e ≤ length start
within d = omega (arith, d.few, d.places)

pub read_graph-requires : goal.read_graph-requires
read_graph-requires c = (refl, refl, refl)

pub returns-in_err-head : goal.returns-in_err-head
returns-in_err-head c =
    let passed : by_number c.from_residual.result ≡ Err (rule_number c.in_err-head.field-0.0) = search rules in
    rw passed (answers-refused (rw c.in_err-head.ensures))

pub slice_bounds-start-end : goal.slice_bounds-start-end
slice_bounds-start-end c = within (facts-read c.in_ok-head.ensures).drawn_is

pub slice_bounds-put_all-end : goal.slice_bounds-put_all-end
slice_bounds-put_all-end c = sym (length-take-le _ _ (within (facts-read c.in_ok-head.ensures).drawn_is))

pub returns : goal.returns
returns c =
    let f = facts-read c.in_ok-head.ensures in
    answers-items (c.put_all.ensures.answers, c.put_all.ensures.leaves) (rw f.reads (ap (λ (g : Graph). value g.clusters []) (sym f.graph_read)))
