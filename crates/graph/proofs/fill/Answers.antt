-- `graph::fill` meets its contract: after i turns the arrays hold the first i constraints. Assumes nothing.
use Rattle.std.specs.Prelude.{◌<◌, ◌≤◌, ◌≡◌}
use Rattle.theory.specs.Prelude.{rules, ℕ, arith, add-one, refl, sym, ◌∙◌, pos, length, take, get_or, take-suc}
use Rattle.theory.specs.Prelude.{get_or-take, length-take-le}
use mir.Facts.{to_z-of_z}
use mir.Syntax.{w32}
use Rattle.sheet.specs.declared.Constraint.{Constraint}
use Rattle.sheet.specs.declared.Size.TheVariants.{Given}
use Rattle.sheet.specs.declared.Sheet.{Sheet}
use Rattle.sheet.specs.Facts.{facts_of}
use Rattle.sheet.specs.Rules.{sheet_fault}
use Rattle.sheet.specs.Rules.Laws.{constraints-most, elements-most}
use Rattle.sheet.specs.Accepted.Laws.{sheet_fault-none, facts_of-accepted}
use Rattle.graph.specs.Lent.{Unpacks}
use Rattle.graph.specs.Lent.Laws.{in-arrays-none, accepted-unpack}
use Rattle.graph.proofs.fill.Goals as goal

-- what the code reads past the end of a block
abbrev zeros : Constraint
zeros = record { first = 0; second = 0; size = Given (pos 0) }

-- of a sheet that no rule refuses
module _ (s : Sheet) (long : length s.constraints ≡ 200) (none : sheet_fault s ≡ 0) where
  few : (s.n ≤ 64) × (s.e ≤ 200)
  few = let h = sheet_fault-none s none in (elements-most _ h.elements_fit, constraints-most _ h.constraints_fit)

  counted : length (take s.e s.constraints) ≡ s.e
  counted = length-take-le s.e s.constraints (rw long few.1)

  placed : length s.elements ≡ 64 → length (take s.n s.elements) ≡ s.n
  placed places = length-take-le s.n s.elements (rw places few.0)

  unpacks : length s.elements ≡ 64 → (i : ℕ) → i < s.e → Unpacks (get_or s.constraints i zeros)
  unpacks places i l =
      rw (get_or-take s.e s.constraints i zeros l)
      at (accepted-unpack (facts_of s) i zeros (facts_of-accepted s places long none) (rw counted l))

pub loop-i-init : goal.loop-i-init
loop-i-init c = rw (c.requires.1, c.requires.2, c.requires.3) in-arrays-none

pub offset_bounds-s-i : goal.offset_bounds-s-i
offset_bounds-s-i c = omega (arith, few c.args.s (search rules) c.requires.0)

pub bounds-s-i : goal.bounds-s-i
bounds-s-i c = omega (arith, few c.args.s (search rules) c.requires.0)

pub note-requires : goal.note-requires
note-requires c =
    let long : length c.args.s.constraints ≡ 200 = search rules in
    let places : length c.args.s.elements ≡ 64 = search rules in
    let p = unpacks c.args.s long c.requires.0 places c.loop-i.i c.loop-i-test.true in
    (omega (arith, few c.args.s long c.requires.0), p.ascend, p.below)

pub loop-i-preserved : goal.loop-i-preserved
loop-i-preserved c =
    let i = c.loop-i.i in
    let cs = c.args.s.constraints in
    let long : length cs ≡ 200 = search rules in
    let h : i < length cs = omega (arith, few c.args.s long c.requires.0) in
    rw (add-one, take-suc cs i zeros h)
    (c.note.ensures (take i cs) (get_or cs i zeros) (length-take-le i cs (omega arith))
    (record { first_is = refl; second_is = refl; code_is = sym (to_z-of_z {w = w32} {z = c.code_of.result} (search rules) ∙ c.code_of.ensures) })
    c.loop-i.invariant)

pub slice_bounds-elements-end : goal.slice_bounds-elements-end
slice_bounds-elements-end c = sym (placed c.args.s (search rules) c.requires.0 (search rules))

pub shared_ref_as_front-elements : goal.shared_ref_as_front-elements
shared_ref_as_front-elements c = (few c.args.s (search rules) c.requires.0).0

pub kinds_of-requires : goal.kinds_of-requires
kinds_of-requires c =
    let long : length c.args.s.constraints ≡ 200 = search rules in
    let places : length c.args.s.elements ≡ 64 = search rules in
    rw (placed c.args.s long c.requires.0 places) (few c.args.s long c.requires.0).0

pub returns : goal.returns
returns c =
    let s = c.args.s in
    let long : length s.constraints ≡ 200 = search rules in
    let places : length s.elements ≡ 64 = search rules in
    let same : c.loop-i.i ≡ s.e = omega arith in
    let n = placed s long c.requires.0 places in
    record {
      accepted = facts_of-accepted s places long c.requires.0;
      opening_is = refl;
      head_is = cc (c.kinds_of.ensures.lines_are, counted s long c.requires.0);
      kinds_in = c.kinds_of.ensures;
      arrays = rw (← same) c.loop-i.invariant;
    }
