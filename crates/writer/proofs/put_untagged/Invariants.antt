-- `writer::put_untagged` meets its contract, by the walk of `Untagged`. Assumes nothing.
use Rattle.std.specs.Prelude.{◌≡◌}
use Rattle.sheet.specs.WithoutTags.{listed}
use Rattle.writer.proofs.Untagged.{Walk}
use Rattle.writer.proofs.put_untagged.Given as goal

abbrev pub invariant-loop : goal.invariant-loop
invariant-loop l = record {
  counted : l.e ≡ listed l.s;
  walk : Walk l.initial.out l.s (listed l.s) l.at l.from l.to l.counter l.out;
}
