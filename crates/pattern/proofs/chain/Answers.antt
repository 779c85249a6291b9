-- `pattern::chain` meets its contract: the chain of the graph that is read. Assumes nothing.
use Rattle.std.specs.Prelude.{◌≡◌}
use Rattle.theory.specs.Rule.{rule_number}
use Rattle.theory.specs.Prelude.{rules, refl}
use Rattle.chain.specs.Says.{says, Refused}
use Rattle.pattern.specs.Entries.{held_sheet}
use Rattle.pattern.specs.Entries.Reading.{facts-read}
use Rattle.pattern.specs.Entries.Chains.{chain-read}
use Rattle.pattern.proofs.chain.Goals as goal

pub read_graph-requires : goal.read_graph-requires
read_graph-requires c = (refl, refl, refl)

pub returns-in_err-head : goal.returns-in_err-head
unfolding held_sheet
returns-in_err-head c =
    let passed : says c.from_residual.result ≡ Refused (rule_number c.in_err-head.field-0.0) = search rules in
    rw (passed, c.in_err-head.ensures) (record { answer_is = refl; left_is = refl })

pub chain_of-requires : goal.chain_of-requires
chain_of-requires c =
    let read = facts-read c.in_ok-head.ensures in
    read.drawn_is

pub returns : goal.returns
returns c =
    let read = facts-read c.in_ok-head.ensures in
    let a = c.args in
    let f = read in chain-read _ a.from a.to f.reads f.graph_read a.out.now _ _
    c.chain_of.ensures
