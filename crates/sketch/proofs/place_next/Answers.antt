-- `sketch::place_next` meets its contract: each refusal in its turn, else what the last constraint is answered. Assumes nothing.
use Rattle.std.specs.Prelude.{◌<◌, ◌≤◌, ◌≡◌, ◌+◌, ◌*◌}
use Rattle.theory.specs.Prelude.{rules, ℕ, arith, refl, sym, ap, ◌∙◌, List, ℤ, length}
use mir.Facts.{to_z-of_z}
use mir.Syntax.{w32}
use Rattle.sheet.specs.declared.Constraint.{Constraint}
use Rattle.sheet.specs.Facts.{Facts}
use Rattle.sheet.specs.Rules.{constraint_fault}
use Rattle.sheet.specs.Rules.Laws.{ends-true}
use Rattle.sheet.specs.Accepted.Laws.{taken}
use Rattle.sheet.specs.Graph.{graph_of}
use Rattle.theory.specs.Graph.{verdict_of}
use Rattle.graph.specs.declared.Front.{Front}
use Rattle.graph.specs.declared.Head.{Head}
use Rattle.graph.specs.Lent.{SheetIn}
use Rattle.graph.specs.Lent.Sheets.{graph_is, drawn-in}
use Rattle.sketch.specs.Sketch.{extended, as_judged}
use Rattle.sketch.specs.Sketch.Laws.{extended-in}
use Rattle.theory.specs.Rule.{rule_number}
use Rattle.theory.specs.Rule.Laws.{rule-some}
use Rattle.sketch.specs.Placing.{last_answer}
use Rattle.sketch.specs.Placing.Laws.{more-fault, place-over, place-stale, place-asked, place-fault}
use Rattle.sketch.specs.Placing.Laws.{place-full, refused-in, unless-in, last-asked}
use Rattle.sketch.proofs.place_next.Goals as goal

-- the counts of facts in the arrays
module _ {f : Facts} {h : Front} {near start radii : List ℕ} {codes : List ℤ} (a : SheetIn f h near start codes radii) where
  elements : h.n ≡ length f.elements
  elements = ap (λ (x : Head). x.n) a.head_is

  count : h.e ≡ length f.constraints
  count = ap (λ (x : Head). x.e) a.head_is

  small : (h.n ≤ 64) × (h.e ≤ 200)
  small = let d = drawn-in a in (d.sound.most, d.few)

  few : h.e + 3 ≤ 2 * h.n → length f.constraints < 200
  few l = omega (arith, l, small, count)

-- no rule of 6 to 9 refuses it
ends : (f : Facts) (one : Constraint) → constraint_fault f.elements f.constraints one ≡ 0 → (one.first < one.second) × (one.second < length f.elements)
ends f one none = ends-true _ _ _ (taken f.elements f.constraints one none).ends-ascend

pub overflow_mul-n : goal.overflow_mul-n
overflow_mul-n c = omega (arith, small c.requires.1)

pub overflow_add-e : goal.overflow_add-e
overflow_add-e c = omega (arith, small c.requires.1)

pub returns-then-n-e : goal.returns-then-n-e
returns-then-n-e c = λ f a.
    refused-in f _ _ 27 (place-over f _ _ (more-fault f a.accepted (omega (arith, c.if-n-e.true, elements a, count a)))) (λ z. omega arith)

pub unless_over-requires : goal.unless_over-requires
unless_over-requires c = drawn-in c.requires.1

pub returns-then-held-e : goal.returns-then-held-e
returns-then-held-e c = λ f a.
    unless-in a c.args.c c.args.held 24 c.unless_over.ensures (λ z. omega arith)
    (place-stale f _ _ (λ e. c.if-held-e.true (e ∙ sym (count a))))

pub check_constraint-requires : goal.check_constraint-requires
check_constraint-requires c = (small c.requires.1).0

pub unless_over-requires-in-Err : goal.unless_over-requires-in-Err
unless_over-requires-in-Err c = drawn-in c.requires.1

pub returns-in-Err : goal.returns-in-Err
returns-in-Err c = λ f a.
    let fault = c.in-Err.ensures f.elements f.constraints (elements a) a.kinds_in a.arrays.noted in
    let told : c.args.held ≡ length f.constraints = omega (arith, count a) in
    unless-in a c.args.c c.args.held (rule_number c.in-Err.rule) c.unless_over-in-Err.ensures (rule-some _)
    (place-fault f _ _ told _ fault (rule-some _))

pub overflow_add-e-2 : goal.overflow_add-e-2
overflow_add-e-2 c = omega (arith, small c.requires.1)

pub overflow_mul-n-2 : goal.overflow_mul-n-2
overflow_mul-n-2 c = omega (arith, small c.requires.1)

pub unless_over-requires-then-e-n : goal.unless_over-requires-then-e-n
unless_over-requires-then-e-n c = drawn-in c.requires.1

pub returns-then-e-n : goal.returns-then-e-n
returns-then-e-n c = λ f a.
    let none = sym (c.in_default.ensures f.elements f.constraints (elements a) a.kinds_in a.arrays.noted) in
    let told : c.args.held ≡ length f.constraints = omega (arith, count a) in
    unless-in a c.args.c c.args.held 11 c.unless_over-then-e-n.ensures (λ z. omega arith)
    (place-full f _ _ told a.accepted (few a c.if-n-e.false) none
    (omega (arith, c.if-e-n.true, count a, elements a)))

pub note-requires : goal.note-requires
note-requires c =
    let a = c.requires.1 in
    let none = sym (c.in_default.ensures c.requires.0.elements c.requires.0.constraints (elements a) a.kinds_in a.arrays.noted) in
    let e = ends c.requires.0 c.args.c none in
    (omega (arith, few a c.if-n-e.false, count a), e.0, omega (arith, e.1, small a, elements a))

pub judge_last-requires : goal.judge_last-requires
judge_last-requires c =
    let f = c.requires.0 in
    let a = c.requires.1 in
    let none = sym (c.in_default.ensures f.elements f.constraints (elements a) a.kinds_in a.arrays.noted) in
    drawn-in (extended-in c.args.c a (few a c.if-n-e.false) none
    (c.note.ensures f.constraints c.args.c (sym (count a))
    (record { first_is = refl; second_is = refl; code_is = sym (to_z-of_z {w = w32} {z = c.code_of.result} (search rules) ∙ c.code_of.ensures) })
    a.arrays))

pub returns : goal.returns
returns c = λ f a.
    let one = c.args.c in
    let told : c.args.held ≡ length f.constraints = omega (arith, count a) in
    let none = sym (c.in_default.ensures f.elements f.constraints (elements a) a.kinds_in a.arrays.noted) in
    let m =
    extended-in one a (few a c.if-n-e.false) none
    (c.note.ensures f.constraints one (sym (count a))
    (record { first_is = refl; second_is = refl; code_is = sym (to_z-of_z {w = w32} {z = c.code_of.result} (search rules) ∙ c.code_of.ensures) })
    a.arrays) in
    record {
      answer_is =
          c.judge_last.ensures ∙ ap last_answer (graph_is m) ∙ last-asked f one a.accepted (few a c.if-n-e.false) none
          ∙ ap (λ (i : ℕ). as_judged i (verdict_of (graph_of (extended f one)))) (sym (place-asked f one _ told));
      holds = λ e. m;
    }
