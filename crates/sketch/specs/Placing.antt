-- A constraint placed in the arrays that hold a sheet's facts: what the inner functions answer and leave there.
use Rattle.std.specs.Prelude.{◌+◌, ◌≡◌}
use Rattle.theory.specs.Prelude.{ℕ, cond, List, eqb, ℤ, length}
use Rattle.theory.specs.Graph.{Graph, finding_of, verdict_of}
use Rattle.theory.specs.Finding.{Finding}
use Rattle.theory.specs.Finding.{Fine, First}
use Rattle.sheet.specs.declared.Constraint.{Constraint}
use Rattle.sheet.specs.Facts.{Facts}
use Rattle.sheet.specs.Graph.{graph_of}
use Rattle.graph.specs.declared.Front.{Front}
use Rattle.graph.specs.Lent.{SheetIn}
use Rattle.sketch.specs.Judgement.{Judgement}
use Rattle.sketch.specs.Judgement.{Is, Refused}
use Rattle.sketch.specs.Sketch.{extended, place_fault, as_judged}
pub mod Laws

-- the first of e constraints that makes them over is the last, or those before it are over
abbrev pub last_rule : ℕ → ℕ → ℕ
last_rule first e = cond (eqb (first + 1) e) 11 27

abbrev pub last_by : Graph → Finding → Judgement
last_by g Fine = Is (verdict_of g)
last_by g (First k x) = Refused (last_rule k (length g.clusters))

-- what the last constraint of a graph is answered
unfoldable pub last_answer : Graph → Judgement
last_answer g = last_by g (finding_of g)

-- what precedes the constraints, with one more of them
abbrev pub with_more : Front → Front
with_more h = record { opening = h.opening; n = h.n; e = h.e + 1; kinds = h.kinds }

-- the answer is that of placing, and where no rule refuses the arrays hold the facts with the constraint
pub record PlacedIn (f : Facts) (c : Constraint) (held : ℕ) (h : Front) (r : Judgement) (near start : List ℕ) (codes : List ℤ) (radii : List ℕ)
    : Type 0 where
  pub answer_is : r ≡ as_judged (place_fault f c held) (verdict_of (graph_of (extended f c)))
  pub holds : place_fault f c held ≡ 0 → SheetIn (extended f c) (with_more h) near start codes radii
