-- `sketch::placing` meets its contract: the constraint is stored where it is answered with a verdict. Assumes nothing.
use Rattle.theory.specs.Prelude.{List, ℤ}
use Rattle.std.specs.Prelude.{◌<◌, ◌≡◌, ◌∷◌, ◌++◌}
use Rattle.theory.specs.Prelude.{rules, ℕ, arith, refl, sym, ◌∙◌, [], length, length-append, length-take}
use Rattle.sheet.specs.declared.Constraint.{Constraint}
use Rattle.sheet.specs.declared.Sheet.{Sheet}
use Rattle.sheet.specs.Facts.{facts_of}
use Rattle.sheet.specs.Rules.{sheet_fault}
use Rattle.sheet.specs.Rules.Laws.{constraints-most}
use Rattle.sketch.specs.Judgement.{Judgement}
use Rattle.graph.specs.declared.Front.{Front}
use Rattle.sketch.specs.Placing.{PlacedIn}
use Rattle.sketch.specs.Sketch.{place_rule, place_answer}
use Rattle.sketch.specs.Sketch.Laws.{unsound-placed, place-sound, answer-sound, taken-placed}
use Rattle.sketch.specs.Sketch.Laws.{ok-placed, err-placed, passed-none, failed-some}
use Rattle.sketch.proofs.placing.Goals as goal

-- what the constraint is answered, of facts that the writer takes
answered : (s : Sheet) {one : Constraint} {held : ℕ} {h : Front} {near start radii : List ℕ} {codes : List ℤ} {r : Judgement}
    → PlacedIn (facts_of s) one held h r near start codes radii → sheet_fault s ≡ 0 → r ≡ place_answer s one held
answered s p z = p.answer_is ∙ sym (answer-sound _ _ _ z)

-- no rule refuses: there is room
room : (s : Sheet) {one : Constraint} {held : ℕ} {h : Front} {near start radii : List ℕ} {codes : List ℤ} {r : Judgement}
    → PlacedIn (facts_of s) one held h r near start codes radii → sheet_fault s ≡ 0 → length s.constraints ≡ 200 → place_rule s one held ≡ 0
    → s.e < 200
room s {one = one} p z long none =
    let more = (p.holds (sym (place-sound s _ _ z) ∙ none)).accepted.constraints_fit in
    omega (
      arith,
      constraints-most (length ((facts_of s).constraints ++ one ∷ [])) more,
      length-append (facts_of s).constraints (one ∷ []),
      long,
      length-take s.e s.constraints,
    )

pub returns-then-is_err : goal.returns-then-is_err
returns-then-is_err c =
    let p = unsound-placed c.args.s c.args.c c.args.held (λ e. failed-some _ c.if-is_err.ensures.value (c.check_sheet.ensures ∙ e)) in
    record { answers = sym p.0; leaves = sym p.1 }

pub fill-front-requires : goal.fill-front-requires
fill-front-requires c = (sym c.check_sheet.ensures ∙ passed-none _ c.if-is_err.ensures.value, refl, refl, refl, refl)

pub place_next-answer-requires : goal.place_next-answer-requires
place_next-answer-requires c = (_, c.fill-front.ensures)

pub store-sketch-requires : goal.store-sketch-requires
store-sketch-requires c =
    let a = c.args in
    let long : length a.s.constraints ≡ 200 = search rules in
    let z = sym c.check_sheet.ensures ∙ passed-none _ c.if-is_err.ensures.value in
    let p = c.place_next-answer.ensures _ c.fill-front.ensures in
    room a.s p z long (ok-placed a.s a.c a.held _ c.if-is_ok.ensures.value (answered a.s p z))

pub returns-then-is_ok : goal.returns-then-is_ok
returns-then-is_ok c =
    let a = c.args in
    let z = sym c.check_sheet.ensures ∙ passed-none _ c.if-is_err.ensures.value in
    let e = answered a.s (c.place_next-answer.ensures _ c.fill-front.ensures) z in
    let none = ok-placed a.s a.c a.held _ c.if-is_ok.ensures.value e in
    record { answers = e; leaves = c.store-sketch.ensures ∙ sym (taken-placed a.s a.c a.held none).1 }

pub returns-else-is_ok : goal.returns-else-is_ok
returns-else-is_ok c =
    let a = c.args in
    let z = sym c.check_sheet.ensures ∙ passed-none _ c.if-is_err.ensures.value in
    let e = answered a.s (c.place_next-answer.ensures _ c.fill-front.ensures) z in
    record { answers = e; leaves = sym (err-placed a.s a.c a.held _ c.if-is_ok.ensures.value e) }
