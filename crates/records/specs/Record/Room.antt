-- How many bytes a record takes: a held sketch has at most 125 constraints. Assumes nothing.
use Rattle.std.specs.Prelude.{◌≤◌, ◌≡◌}
use Rattle.theory.specs.Prelude.{ℕ, zero, suc, arith, refl, List, [], eqb, length, length-append}
use Rattle.sheet.specs.declared.Constraint.{Constraint}
use Rattle.sheet.specs.Facts.{Facts}
use Rattle.sheet.specs.Field.{value, Bytes}
use Rattle.sheet.specs.Field.Laws.{next-value, refused-value, value-with, length_digits, opening-length}
use Rattle.sheet.specs.Rules.{constraint_fault}
use Rattle.sheet.specs.Rules.Laws.{none-else, unless-none}
use Rattle.sheet.specs.Encode.{sheet_bytes}
use Rattle.sheet.specs.Encode.Laws.{kinds-length, radii-most, constraints-length}
use Rattle.sheet.specs.Accepted.{Accepted}
use Rattle.sheet.specs.Accepted.Laws.{accepted-most}
use Rattle.sheet.specs.Answer.{by_rule}
use Rattle.sheet.specs.Graph.{graph_of, over_fault}
use Rattle.sketch.specs.Sketch.{extended, next_fault, by27, place_fault}
use Rattle.sketch.specs.Sketch.Laws.{few-held, extended-accepted}
use Rattle.records.specs.Record.{record_bytes, record_sheet, place_field}
use Rattle.records.specs.Record.Laws.{record-length, record-accepted}

few-length : (f : Facts) → length f.elements ≤ 64 → length f.constraints ≤ 125 → length (sheet_bytes f) ≤ 1153
unfolding sheet_bytes
few-length f n-most e-most =
    simp (length-append, length_digits, opening-length f.opening)
    (omega (arith, kinds-length f.opening _ n-most, radii-most f.elements n-most, constraints-length f.constraints))

module _ (f : Facts) (h : Accepted f) (o : over_fault (graph_of f) ≡ 0) where
  pub held-length : length (sheet_bytes f) ≤ 1153
  held-length = few-length f (accepted-most f h) (few-held f h o)

  pub record-room : length (record_bytes f) ≤ 1155
  record-room = omega (arith, record-length f, held-length)

pub by27-none : (k : ℕ) → by27 k ≡ 0 → k ≡ 0
by27-none zero e = refl
by27-none (suc k) e = absurd (omega arith)

-- no rule refuses the facts with a constraint that is placed, and they are not over
pub more-held : (f : Facts) (c : Constraint) (held : ℕ) → Accepted f → place_fault f c held ≡ 0
    → Accepted (extended f c) × (over_fault (graph_of (extended f c)) ≡ 0)
unfolding place_fault next_fault
more-held f c held a e =
    let (o, n) = none-else (by27 (over_fault (graph_of f))) _ e in
    let (m, k) = unless-none (eqb held (length f.constraints)) 23 _ n in
    let (g, over) = none-else (constraint_fault f.elements f.constraints c) _ k in
    (extended-accepted f c a (omega (arith, few-held f a (by27-none (over_fault (graph_of f)) o))) g, over)

pub placed-room : (lent : List ℕ) (c : Constraint) (held : ℕ) → Bytes lent → (g : Facts) (t : List ℕ) → place_field lent c held ≡ value g t
    → length (record_bytes g) ≤ 1155
placed-room lent c held all g t e =
    next-value (record_sheet lent) _ e (λ f u was e1. by f (record-accepted lent all was).1 (place_fault f c held) refl e1)
  where
    by : (f : Facts) → Accepted f → (k : ℕ) → place_fault f c held ≡ k → by_rule k (value (extended f c) []) ≡ value g t → length (record_bytes g) ≤ 1155
    by f a zero z q =
        let (h, o) = more-held f c held a z in
        value-with (λ (x : Facts) s. length (record_bytes x) ≤ 1155) q (record-room (extended f c) h o)
    by f a (suc k) z q = refused-value q
