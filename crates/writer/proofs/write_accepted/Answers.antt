-- `writer::write_accepted` meets its contract. Assumes nothing.
use Rattle.std.specs.Prelude.{◌≤◌, ◌≡◌}
use Rattle.theory.specs.Prelude.{arith, rules, true, length, length-take}
use Rattle.sheet.specs.declared.Sheet.{Sheet}
use Rattle.sheet.specs.Facts.{facts_of}
use Rattle.sheet.specs.Encode.{sheet_bytes}
use Rattle.sheet.specs.Encode.Laws.{sheet-length}
use Rattle.sheet.specs.Accepted.Laws.{sheet_fault-none}
use Rattle.sheet.specs.Rules.{kinds_allowed, sheet_fault}
use Rattle.sheet.specs.Rules.Laws.{elements-most, constraints-most, elements-taken}
use Rattle.writer.proofs.write_accepted.Goals as goal

record Small (s : Sheet) : Type 0 where
  few-elements : s.n ≤ 64
  few-constraints : s.e ≤ 200
  allowed : kinds_allowed s.opening (facts_of s).elements ≡ true

small : (s : Sheet) → sheet_fault s ≡ 0 → Small s
small s none =
    let ok = sheet_fault-none s none in
    record {
      few-elements = elements-most s.n ok.elements_fit;
      few-constraints = constraints-most s.e ok.constraints_fit;
      allowed = (elements-taken s.opening _ ok.elements_allowed).0;
    }

most : (s : Sheet) → sheet_fault s ≡ 0 → length (sheet_bytes (facts_of s)) ≤ 1678
most s none =
    let k = small s none in
    sheet-length (facts_of s) (omega (arith, length-take s.n s.elements, k.few-elements))
    (omega (arith, length-take s.e s.constraints, k.few-constraints))

pub kind_numbers-kinds-requires : goal.kind_numbers-kinds-requires
kind_numbers-kinds-requires c = let k = small c.args.s c.requires in (k.few-elements, k.allowed)

pub put_whole-requires : goal.put_whole-requires
put_whole-requires c = let k = small c.args.s c.requires in search (rules, k.few-elements, k.few-constraints, k.allowed, c.kind_numbers-kinds.ensures)

pub returns : goal.returns
returns c = c.put_whole.ensures (sheet_bytes (facts_of c.args.s)) (most c.args.s c.requires) (λ p r q met. search rules)
