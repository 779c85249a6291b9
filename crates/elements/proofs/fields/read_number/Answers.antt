-- `elements::fields::read_number` meets its contract. Assumes nothing.
use Rattle.std.specs.Prelude.{◌+◌, ◌-◌, ◌^◌, ◌<◌, ◌≤◌, ◌≡◌, leb}
use Rattle.theory.specs.Prelude.{ℕ, arith, sym, ap, ◌∙◌, true, leb-true, leb-false, length}
use Rattle.std.proofs.Math.Nat.{sub_self}
use Rattle.elements.specs.Fields.Numbers.{field-short, field-whole, number-none, number_more, below_more, below-most}
use Rattle.elements.proofs.fields.read_number.Goals as goal

-- the bytes are there
room : (at k len : ℕ) → leb (at + k) len ≡ true → k ≤ len - at
room at k len e = omega (arith, leb-true (at + k) len e)

pub returns-then-not-enough-clause-result_value : goal.returns-then-not-enough-clause-result_value
returns-then-not-enough-clause-result_value c = sym (field-short c.args.s.now c.args.c.at c.args.k
    (omega (arith, leb-false (c.args.c.at + c.args.k) (length c.args.s.now) (sym c.enough.ensures ∙ c.if-not-enough.true))))

pub loop-i-init : goal.loop-i-init
loop-i-init c = (
  sym (number-none c.args.s.now c.args.c.at c.args.k (room _ _ _ (sym c.enough.ensures ∙ c.if-not-enough.false))),
  omega (arith, sub_self c.args.k, ap (λ (m : ℕ). 256 ^ m) (sub_self c.args.k)),
)

pub overflow_mul-u : goal.overflow_mul-u
overflow_mul-u c =
    omega (arith, below-most c.args.k c.loop-i.i c.loop-i.u 0 c.loop-i-test.true c.loop-i.auto.i c.loop-i.invariant.1 (omega arith) c.requires.1)

pub overflow_add-u : goal.overflow_add-u
overflow_add-u c =
    let b : c.from.result < 256 = omega (arith, c.type_inv.s (c.args.c.at + (c.loop-i.i - 1))) in
    omega (arith, below-most c.args.k c.loop-i.i c.loop-i.u c.from.result c.loop-i-test.true c.loop-i.auto.i c.loop-i.invariant.1 b c.requires.1)

pub loop-i-preserved : goal.loop-i-preserved
loop-i-preserved c =
    let l = room c.args.c.at c.args.k (length c.args.s.now) (sym c.enough.ensures ∙ c.if-not-enough.false) in
    let b : c.from.result < 256 = omega (arith, c.type_inv.s (c.args.c.at + (c.loop-i.i - 1))) in (
      rw (c.loop-i.invariant.0, c.from.ensures) (sym (number_more c.args.s.now c.args.c.at c.args.k c.loop-i.i c.loop-i-test.true c.loop-i.auto.i l)),
      below_more c.args.k c.loop-i.i c.loop-i.u c.from.result c.loop-i-test.true c.loop-i.auto.i c.loop-i.invariant.1 b,
    )

pub returns-clause-result_value : goal.returns-clause-result_value
returns-clause-result_value c =
    let l = room c.args.c.at c.args.k (length c.args.s.now) (sym c.enough.ensures ∙ c.if-not-enough.false) in
    let z : c.loop-i.i ≡ 0 = omega arith in
    rw (c.loop-i.invariant.0, z) (sym (field-whole c.args.s.now c.args.c.at c.args.k l))

pub returns-clause-below : goal.returns-clause-below
returns-clause-below c =
    let all : c.args.k - c.loop-i.i ≡ c.args.k = omega arith in
    rw all at c.loop-i.invariant.1
