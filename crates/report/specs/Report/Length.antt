-- How long a report is. Document 01, "Refused", rule 17, asks for space of that length. Assumes nothing.
use Rattle.std.specs.Prelude.{◌+◌, ◌*◌, ◌/◌, ◌%◌, ◌≤◌, ◌<◌, ◌≡◌, ◌∷◌, ◌++◌}
use Rattle.theory.specs.Prelude.{ℕ, zero, suc, arith, lt-ltb, refl, ap, ◌∙◌, Bool, true, false, cond, List, []}
use Rattle.theory.specs.Prelude.{ltb, length, length-append, length-map}
use Rattle.theory.specs.Set.{at}
use Rattle.theory.specs.Merge.{living}
use Rattle.theory.specs.declared.Verdict.{Verdict}
use Rattle.theory.specs.declared.Verdict.TheVariants.{Over, Angle, Well, Stuck, Under}
use Rattle.theory.specs.declared.JointKind.{JointKind}
use Rattle.theory.specs.declared.JointKind.TheVariants.{Ppp, Ppl, Pll, Lll}
use Rattle.theory.specs.declared.Step.{Step}
use Rattle.space.specs.Text.{digit, decimal}
use Rattle.space.specs.Text.Laws.{decimal-length}
use Rattle.report.specs.Elements.{member, among, elements, constraints_of}
use Rattle.report.specs.Elements.Laws.{elements-most}
use Rattle.report.specs.Report.{kind_name, ways_name, verdict_line, elements_line, step_line, slot_line, step_lines, cluster_lines, report, over_report}
use Rattle.report.specs.Pieces.{numbers, above}
use Rattle.report.specs.Report.Laws.{step-pieces, slot-dead, slot-any, over-pieces}

-- ---- numbers and sets

pub decimal-two : (n : ℕ) → n < 100 → length (decimal n) ≤ 2
unfolding decimal
decimal-two n h = rw (lt-ltb n 100 h) (go (ltb n 10))
  where
    go : (a : Bool) → length (cond a (digit n ∷ []) (digit (n / 10) ∷ digit (n % 10) ∷ [])) ≤ 2
    go true = omega arith
    go false = omega arith

-- an element's number has at most two digits, and a space before it
among-length : (k x a : ℕ) → x + k ≤ 100 → length (numbers (among k x a)) ≤ 3 * length (among k x a)
unfolding among numbers
among-length zero x a h = omega arith
among-length (suc k) x a h = go (at x a) (among-length k (suc x) a (omega arith))
  where
    go : (d : ℕ) → length (numbers (among k (suc x) a)) ≤ 3 * length (among k (suc x) a)
        → length (numbers (member d x (among k (suc x) a))) ≤ 3 * length (member d x (among k (suc x) a))
    go zero ih = ih
    go (suc d) ih = omega (arith, length-append (decimal x) (numbers (among k (suc x) a)), decimal-two x (omega arith))

pub set-length : (a : ℕ) → length (numbers (elements a)) ≤ 3 * length (elements a)
unfolding elements
set-length a = among-length 64 0 a (omega arith)

pub set-most : (a : ℕ) → length (numbers (elements a)) ≤ 192
set-most a = omega (arith, set-length a, elements-most a)

-- a number has at most three digits
pub numbers-most : (xs : List ℕ) → length (numbers xs) ≤ 4 * length xs
unfolding numbers
numbers-most [] = omega arith
numbers-most (x ∷ xs) = omega (arith, length-append (decimal x) (numbers xs), decimal-length x, numbers-most xs)

pub above_most : (first a : ℕ) → length (numbers (above first (elements a))) ≤ 256
above_most first a =
    omega (arith, numbers-most (above first (elements a)), length-map (elements a) (λ (x : ℕ). first + x), elements-most a)

-- ---- lines

pub verdict-length : (v : Verdict) → length (verdict_line v) ≤ 14
verdict-length Over = omega arith
verdict-length Angle = omega arith
verdict-length Well = omega arith
verdict-length Stuck = omega arith
verdict-length Under = omega arith

pub elements-length : (n e : ℕ) → length (elements_line n e) ≡ 23 + (length (decimal n) + length (decimal e))
elements-length n e = simp length-append (omega arith)

kind-length : (k : JointKind) → length (kind_name k) ≡ 3
kind-length Ppp = refl
kind-length Ppl = refl
kind-length Pll = refl
kind-length Lll = refl

pub step-length : (s : Step) → length (step_line s) ≤ 47 + (length (ways_name s.ways) + 3 * length (elements s.joint))
step-length s =
    rw step-pieces
    (simp length-append
    (omega (
      arith,
      decimal-length s.made,
      decimal-length s.i,
      decimal-length s.j,
      decimal-length s.k,
      set-length s.joint,
      kind-length s.kind,
    )))

pub slot-length : (c a r : ℕ) → length (slot_line c a r) ≤ living a * (27 + (3 * length (elements a) + 4 * length (constraints_of r)))
slot-length c zero r = rw (slot-dead c zero r refl) (omega arith)
slot-length c (suc a) r =
    rw (slot-any c (suc a) r (λ e. omega arith))
    (simp length-append (omega (arith, decimal-length c, set-length (suc a), numbers-most (constraints_of r))))

-- ---- the report

pub report-length : (n e : ℕ) (v : Verdict) (steps : List Step) (slots rests : List ℕ) → length (report n e v steps slots rests)
    ≡ length (verdict_line v) + (length (elements_line n e) + (length (step_lines steps) + length (cluster_lines 0 slots rests)))
unfolding report
report-length n e v steps slots rests =
    length-append (verdict_line v) (elements_line n e ++ (step_lines steps ++ cluster_lines 0 slots rests))
    ∙ ap (λ (k : ℕ). length (verdict_line v) + k) (length-append (elements_line n e) (step_lines steps ++ cluster_lines 0 slots rests)
    ∙ ap (λ (k : ℕ). length (elements_line n e) + k) (length-append (step_lines steps) (cluster_lines 0 slots rests)))

pub over-long : (n e first set : ℕ) → length (over_report n e first set) ≤ 249
over-long n e first set =
    rw over-pieces (simp length-append (omega (arith, decimal-length n, decimal-length e, decimal-length first, set-length set, elements-most set)))
