-- The strip in a block of constraints, and the sheet in blocks. Assumes nothing.
use Rattle.std.specs.Prelude.{◌≡◌, ◌∷◌, ◌++◌, ◌+◌, ◌*◌, ◌-◌, ◌≤◌, ◌<◌}
use Rattle.theory.specs.Prelude.{refl, sym, ap, ◌∙◌, true, List, [], ℕ, zero, suc, arith, le-leb, length}
use Rattle.theory.specs.Prelude.{take, set, length-set, take-suc-set}
use Rattle.sheet.specs.declared.Opening.TheVariants.{Pf01}
use Rattle.sheet.specs.declared.Element.{Element}
use Rattle.sheet.specs.declared.Constraint.{Constraint}
use Rattle.sheet.specs.declared.Sheet.{Sheet}
use Rattle.sheet.specs.Facts.{facts_of, blank_element}
use Rattle.sheet.specs.Rules.{elements_in_range, constraints_in_range, sheet_fault}
use Rattle.longest.specs.Longest.{distance, strip, points, longest_sheet}
use Rattle.longest.specs.Longest.Rules.{strip-more, points-allowed, strip-accepted}

-- two constraints more
pub strip-next : (cs : List Constraint) (j : ℕ) → 2 * j + 2 < length cs → take (2 * j + 1) cs ≡ strip j
    → take (2 * (j + 1) + 1) (set (set cs (2 * j + 1) (distance j (j + 2))) (2 * j + 2) (distance (j + 1) (j + 2))) ≡ strip (j + 1)
strip-next cs j room e =
    let c = distance j (suc (suc j)) in
    let d = distance (suc j) (suc (suc j)) in
    let p : j + 1 ≡ suc j = omega arith in
    let q : j + 2 ≡ suc (suc j) = omega arith in
    let r : 2 * (j + 1) + 1 ≡ suc (2 * j + 2) = omega arith in
    let t : 2 * j + 2 ≡ suc (2 * j + 1) = omega arith in
    rw (r, q, p)
    (take-suc-set (set cs (2 * j + 1) c) (2 * j + 2) d (rw length-set room)
    ∙ ap (λ (l : List Constraint). l ++ d ∷ [])
    (ap (λ (m : ℕ). take m (set cs (2 * j + 1) c)) t ∙ take-suc-set cs (2 * j + 1) c (omega arith) ∙ ap (λ (l : List Constraint). l ++ c ∷ []) e)
    ∙ sym (strip-more j))

-- the first n of more points
points-front : (n m : ℕ) → n ≤ m → take n (points m) ≡ points n
points-front zero m h = refl
points-front (suc n) zero h = absurd (omega arith)
points-front (suc n) (suc m) h = ap (λ (l : List Element). blank_element ∷ l) (points-front n m (omega arith))

-- the sheet in its blocks
module _ (s : Sheet) (two : 2 ≤ s.n) (most : s.n ≤ 64) (e-is : s.e ≡ 2 * s.n - 3) (opening_is : s.opening ≡ Pf01)
    (elements-are : s.elements ≡ points 64) (front : take (2 * (s.n - 2) + 1) s.constraints ≡ strip (s.n - 2)) where
  elements-front : take s.n s.elements ≡ points s.n
  elements-front = ap (take s.n) elements-are ∙ points-front s.n 64 most

  constraints-front : take s.e s.constraints ≡ strip (s.n - 2)
  constraints-front = let count : s.e ≡ 2 * (s.n - 2) + 1 = omega arith in ap (λ (m : ℕ). take m s.constraints) count ∙ front

  pub facts_are : facts_of s ≡ longest_sheet s.n
  facts_are = rw (opening_is, elements-front, constraints-front)

  pub no_fault : sheet_fault s ≡ 0
  unfolding sheet_fault
  no_fault =
      let taken : elements_in_range s.n ≡ true = rw (le-leb 2 s.n two, le-leb s.n 64 most) in
      let count : constraints_in_range s.e ≡ true = le-leb s.e 200 (omega arith) in
      rw (taken, count, opening_is, elements-front, constraints-front, points-allowed s.n) (strip-accepted s.n taken).no_fault
