-- A held sketch by value: the blocks of a sheet. Document 01, "A held sketch": a sketch held from an accepted sheet takes one more constraint by 6, 7,
-- 8 (the missing size), 9 and 11, in that order (document 02, 2026-01: contacts by 8 and 20 too). It is then the sheet with that constraint last, and the answer is its verdict. Document 02, 2026-05:
-- asking gives the verdict, or the refusal, that the sketch with that constraint would get; placing answers as asking would, and alone alters the
-- sketch. A record that stands for no sheet that may be held is refused by 27, before all else, and placing by 24, before 6, where the number of
-- constraints held is another.
use Rattle.std.specs.Prelude.{ℕ, zero, suc, ◌+◌, [], ◌∷◌, ◌++◌, eqb, length, set}
use Rattle.theory.specs.Graph.{verdict_of}
use Rattle.theory.specs.declared.Verdict.{Verdict}
use Rattle.sheet.specs.declared.Constraint.{Constraint}
use Rattle.sheet.specs.declared.Sheet.{Sheet}
use Rattle.sheet.specs.Facts.{Facts, facts_of}
use Rattle.sheet.specs.Rules.{fault_unless, or_else, constraint_fault, sheet_fault}
use Rattle.sheet.specs.Graph.{graph_of, over_fault}
use Rattle.sketch.specs.Judgement.{Judgement}
use Rattle.sketch.specs.Judgement.{Is, Refused}
pub mod Laws

-- ---- which rule refuses: its number, 0 where none does

-- the sheet with that constraint last
abbrev pub extended : Facts → Constraint → Facts
extended f c = record { opening = f.opening; elements = f.elements; constraints = f.constraints ++ c ∷ [] }

-- one more constraint after those of the facts, by 6 to 9, 20 and 11
unfoldable pub next_fault : Facts → Constraint → ℕ
next_fault f c = or_else (constraint_fault f.elements f.constraints c) (over_fault (graph_of (extended f c)))

-- whatever refuses to hold a sketch, 27 refuses its record
abbrev pub by27 : ℕ → ℕ
by27 zero = 0
by27 (suc k) = 27

-- asking of facts that the writer takes: 27 where they are over
unfoldable pub ask_fault : Facts → Constraint → ℕ
ask_fault f c = or_else (by27 (over_fault (graph_of f))) (next_fault f c)

-- placing: 24 where the number held is another
unfoldable pub place_fault : Facts → Constraint → ℕ → ℕ
place_fault f c held = or_else (by27 (over_fault (graph_of f))) (fault_unless (eqb held (length f.constraints)) 24 (next_fault f c))

-- the blocks of a sheet may be facts that the writer refuses: 27
unfoldable pub ask_rule : Sheet → Constraint → ℕ
ask_rule s c = or_else (by27 (sheet_fault s)) (ask_fault (facts_of s) c)

unfoldable pub place_rule : Sheet → Constraint → ℕ → ℕ
place_rule s c held = or_else (by27 (sheet_fault s)) (place_fault (facts_of s) c held)

-- ---- the answer, and the sketch after it

-- the rule that refuses, else the verdict
abbrev pub as_judged : ℕ → Verdict → Judgement
as_judged zero v = Is v
as_judged (suc k) v = Refused (suc k)

unfoldable pub ask_answer : Sheet → Constraint → Judgement
ask_answer s c = as_judged (ask_rule s c) (verdict_of (graph_of (extended (facts_of s) c)))

unfoldable pub place_answer : Sheet → Constraint → ℕ → Judgement
place_answer s c held = as_judged (place_rule s c held) (verdict_of (graph_of (extended (facts_of s) c)))

-- the constraint at place e, and e + 1 constraints
unfoldable pub stored : Sheet → Constraint → Sheet
stored s c = record { opening = s.opening; n = s.n; e = s.e + 1; elements = s.elements; constraints = set s.constraints s.e c }

-- a refusal leaves the sketch
abbrev pub unless_refused : ℕ → Sheet → Sheet → Sheet
unless_refused zero next s = next
unless_refused (suc k) next s = s

unfoldable pub place_after : Sheet → Constraint → ℕ → Sheet
place_after s c held = unless_refused (place_rule s c held) (stored s c) s
