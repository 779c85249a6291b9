-- `reader::read_constraints` meets its contract: whatever the elements are, what is left gives the answer (`Turn`).
-- Assumes nothing.
use Rattle.theory.specs.Prelude.{arith, refl, sym, ap, ◌∙◌, rules, sub-zero, [], drop}
use mir.Facts.{to_z-of_z}
use mir.Syntax.{w32}
use Rattle.sheet.specs.declared.Constraint.{Constraint}
use Rattle.sheet.specs.Facts.{kind_at}
use Rattle.sheet.specs.Decode.{dimension}
use Rattle.graph.specs.Lent.Laws.{ends-in, codes-in, in-arrays}
use Rattle.reader.specs.Answers.{between}
use Rattle.reader.proofs.Constraints.{stopped, one_more, at-end, bytes-follow, no_size, sized}
use Rattle.reader.proofs.read_constraints.Goals as goal

pub loop-i-init : goal.loop-i-init
loop-i-init c es en el h = record { read = []; count = refl; holds = h; left = rw (sub-zero c.args.h.e) refl }

pub returns-in_default : goal.returns-in_default
returns-in_default c es en el h =
    let t = c.loop-i.invariant es en el h in
    stopped t c.loop-i-test.true (sym (rw c.unwrap_err.ensures at (c.read_ends-ends.ensures.result_value es _ en t.holds.noted)))

pub note_ends-requires : goal.note_ends-requires
note_ends-requires c =
    let o = c.in-Ok.ensures.ascending in (omega (arith, c.loop-i-test.true, c.requires.1), o.0, omega (arith, o.1, c.requires.0))

pub read_dimension-sized-requires : goal.read_dimension-sized-requires
read_dimension-sized-requires c =
    let o = c.in-Ok.ensures.ascending in (omega (arith, o, c.requires.0), omega (arith, o.1, c.requires.0))

pub returns-in_default-sized : goal.returns-in_default-sized
returns-in_default-sized c es en el h =
    let t = c.loop-i.invariant es en el h in
    let rest = dimension (kind_at es c.in-Ok.a) (kind_at es c.in-Ok.b) (drop c.in-Ok.c1.at c.args.s.now) in
    stopped t c.loop-i-test.true
    (sym (c.in-Ok.ensures.result_value es _ en t.holds.noted)
    ∙ ap (between c.in-Ok.a c.in-Ok.b)
    (no_size rest (sym (rw c.unwrap_err-in_default-sized.ensures at (c.read_dimension-sized.ensures es el)))))

pub loop-i-preserved : goal.loop-i-preserved
loop-i-preserved c es en el h =
    let t = c.loop-i.invariant es en el h in
    let rest = dimension (kind_at es c.in-Ok.a) (kind_at es c.in-Ok.b) (drop c.in-Ok.c1.at c.args.s.now) in
    let y = sized rest (sym (c.in-Ok-sized.ensures es el)) in
    let this : Constraint = record { first = c.in-Ok.a; second = c.in-Ok.b; size = y.size } in
    one_more t c.loop-i-test.true
    (sym (c.in-Ok.ensures.result_value es _ en t.holds.noted) ∙ ap (between c.in-Ok.a c.in-Ok.b) y.was)
    (in-arrays (c.note_ends.ensures t.read this t.count refl refl (ends-in t.holds))
    (c.note_code.ensures t.read this t.count
    (y.is ∙ sym (to_z-of_z {w = w32} {z = c.in-Ok-sized.z} (search rules))) (codes-in t.holds)))

pub returns-then-c-s : goal.returns-then-c-s
returns-then-c-s c es en el h = bytes-follow (c.loop-i.invariant es en el h) c.loop-i-test.false c.if-c-s.true

pub returns : goal.returns
returns c es en el h = at-end (c.loop-i.invariant es en el h) c.loop-i-test.false c.if-c-s.false
