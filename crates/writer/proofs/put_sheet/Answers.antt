-- `writer::put_sheet` meets its contract. Assumes nothing.
use Rattle.std.specs.Prelude.{◌≤◌, ◌≡◌, ◌∷◌, ◌++◌}
use Rattle.theory.specs.Prelude.{rules, arith, sym, ◌∙◌, List, length, ℕ, take, length-append, length-take, length-take-le, take_all, append_assoc}
use Rattle.sheet.specs.declared.Opening.{Opening}
use Rattle.sheet.specs.declared.Element.{Element}
use Rattle.sheet.specs.Facts.{kinds_number}
use Rattle.sheet.specs.Field.{digits, kind_bytes, opening_bytes}
use Rattle.sheet.specs.Field.Laws.{length_digits, opening-length}
use Rattle.sheet.specs.Encode.{radii_bytes, constraints_bytes, sheet_bytes}
use Rattle.sheet.specs.Encode.Laws.{constraints-more, constraints-length, kinds-length, radii-most}
use Rattle.space.specs.Space.Laws.{put_as, put-none, ◌then◌}
use Rattle.writer.proofs.put_sheet.Goals as goal

-- what precedes the count of constraints
abbrev front_bytes : Opening → List Element → List ℕ
front_bytes o es = opening_bytes o ++ (length es ∷ digits (kind_bytes o (length es)) (kinds_number o es) ++ radii_bytes es)

front-length : (o : Opening) (n : ℕ) (all : List Element) → n ≤ 64 → length (front_bytes o (take n all)) ≤ 277
front-length o n all h =
    let few : length (take n all) ≤ 64 = omega (arith, length-take n all) in
    simp (length-append, length_digits, opening-length o) (omega (arith, kinds-length o (length (take n all)) few, radii-most (take n all) few))

pub put_item-at-requires : goal.put_item-at-requires
put_item-at-requires c =
    let s = c.args.s.now in
    omega (arith, c.put_front-front.ensures.next_is, front-length s.opening s.n s.elements c.requires.0)

pub loop-c-init : goal.loop-c-init
unfolding constraints_bytes
loop-c-init c = put-none _ _

pub put_constraint-at-requires : goal.put_constraint-at-requires
put_constraint-at-requires c =
    let s = c.args.s.now in
    let done = take c.loop-c.c-index (take s.e s.constraints) in
    let many : length done ≤ 199 = omega (
      arith,
      length-take c.loop-c.c-index (take s.e s.constraints),
      length-take s.e s.constraints,
      c.loop-c-test.true,
      c.requires.1,
    ) in
    omega (
      arith,
      c.put_front-front.ensures.next_is,
      front-length s.opening s.n s.elements c.requires.0,
      c.put_item-at.ensures.next_is,
      c.loop-c.invariant.next_is,
      constraints-length done,
    )

pub loop-c-preserved : goal.loop-c-preserved
loop-c-preserved c =
    put_as (sym (constraints-more _ c.loop-c.c-index _ (omega (arith, c.loop-c-test.true)))) (c.loop-c.invariant then c.put_constraint-at.ensures)

pub shape_of-out : goal.shape_of-out
shape_of-out c = c.loop-c.invariant.length_is ∙ c.put_item-at.ensures.length_is ∙ c.put_front-front.ensures.length_is

pub returns : goal.returns
unfolding sheet_bytes
returns c =
    let s = c.args.s.now in
    let listed = rw (take_all c.loop-c.c-index _ c.loop-c-test.false) at c.loop-c.invariant in
    let long : length s.constraints ≡ 200 = search rules in
    let e-is : length (take s.e s.constraints) ≡ s.e = length-take-le _ _ (omega (arith, long, c.requires.1)) in
    put_as (rw e-is (simp append_assoc)) (c.put_front-front.ensures then c.put_item-at.ensures then listed)
