-- Document 01, "Sheets to try", and document 02, 2026-03 and 2026-04: the sheets marked P and rings of lines, each with its facts and the whole report that it prints, and one theorem over the table.
use Rattle.std.specs.Prelude.{◌≡◌, ◌∷◌, ◌++◌}
use Rattle.theory.specs.Prelude.{ℕ, List, [], map, pos, replicate}
use Rattle.space.specs.Text.{ascii}
use Rattle.sheet.specs.declared.Opening.TheVariants.{Pf01}
use Rattle.sheet.specs.declared.Kind.TheVariants.{Line}
use Rattle.sheet.specs.declared.Size.TheVariants.{Given, Missing}
use Rattle.sheet.specs.declared.Constraint.{Constraint}
use Rattle.sheet.specs.Facts.{Facts, sheet_of, blank_element}
use Rattle.sheet.specs.Rules.{sheet_fault}
use Rattle.sheet.specs.Graph.{sized_of}
use Rattle.account.specs.Account.{report_of}
pub mod Proof

-- so many lines, then so many points
abbrev pub of : ℕ → ℕ → List Constraint → Facts
of lines points cs =
    record { opening = Pf01; elements = replicate lines (record { kind = Line }) ++ replicate points blank_element; constraints = cs }

-- a distance or an angle, and a point on a line
abbrev pub sized : ℕ → ℕ → ℕ → Constraint
sized u v size = record { first = u; second = v; size = Given (pos size) }

abbrev pub on : ℕ → ℕ → Constraint
on u v = record { first = u; second = v; size = Missing }

pub record Row : Type 0 where
  pub facts : Facts
  pub prints : List ℕ

abbrev pub row : Facts → List ℕ → Row
row f text = record { facts = f; prints = text }

-- pairs (0,1), (0,2), (1,2), (1,3), (2,3), all of size 300, and what follows them
abbrev pub reports : List Constraint → List Constraint
reports more = sized 0 1 300 ∷ sized 0 2 300 ∷ sized 1 2 300 ∷ sized 1 3 300 ∷ sized 2 3 300 ∷ more

-- three points with these distances
abbrev pub triangle : ℕ → ℕ → ℕ → Facts
triangle a b c = of 0 3 (sized 0 1 a ∷ sized 0 2 b ∷ sized 1 2 c ∷ [])

-- line 0 and points 1 and 2, point 1 on the line, point 2 at 300 from it
abbrev pub foot : ℕ → Facts
foot d = of 1 2 (on 0 1 ∷ sized 0 2 300 ∷ sized 1 2 d ∷ [])

-- each with the next
abbrev pub round4 : List Constraint
round4 = sized 0 1 6000 ∷ sized 1 2 6000 ∷ sized 2 3 6000 ∷ sized 0 3 6000 ∷ []

-- each of 0, 1, 2 with each of 3, 4, 5
abbrev pub crossed : List Constraint
crossed = sized 0 3 300 ∷ sized 0 4 300 ∷ sized 0 5 300 ∷ sized 1 3 300 ∷ sized 1 4 300 ∷ sized 1 5 300 ∷ sized 2 3 300 ∷ sized 2 4 300 ∷ sized 2 5 300 ∷ []

abbrev pub crossed_lines : List ℕ
crossed_lines = ascii "cluster 0 holds 0 3 rests on 0\ncluster 1 holds 0 4 rests on 1\ncluster 2 holds 0 5 rests on 2\ncluster 3 holds 1 3 rests on 3\ncluster 4 holds 1 4 rests on 4\ncluster 5 holds 1 5 rests on 5\ncluster 6 holds 2 3 rests on 6\ncluster 7 holds 2 4 rests on 7\ncluster 8 holds 2 5 rests on 8\n"

-- two lines and a point on both
abbrev pub corner : ℕ → ℕ → ℕ → List Constraint → List Constraint
corner a b p more = sized a b 6000 ∷ on a p ∷ on b p ∷ more

abbrev pub table : List Row
table =
    -- n 2, no constraint: under, no cluster
    row (of 0 2 []) (ascii "verdict under\nelements 2 constraints 0\n")
    -- one constraint: well, no step
    ∷ row (of 0 2 (sized 0 1 300 ∷ [])) (ascii "verdict well\nelements 2 constraints 1\ncluster 0 holds 0 1 rests on 0\n")
    -- pairs (0,1), (0,2), (0,3): under, three clusters, since all share one point
    ∷ row (of 0 4 (sized 0 1 300 ∷ sized 0 2 300 ∷ sized 0 3 300 ∷ []))
    (ascii "verdict under\nelements 4 constraints 3\ncluster 0 holds 0 1 rests on 0\ncluster 1 holds 0 2 rests on 1\ncluster 2 holds 0 3 rests on 2\n")
    -- three lines, three angles: angle
    ∷ row (of 3 0 (sized 0 1 6000 ∷ sized 0 2 6000 ∷ sized 1 2 6000 ∷ []))
    (ascii "verdict angle\nelements 3 constraints 3\nstep 3 from 0 1 2 joint 0 1 2 kind lll ways ?\ncluster 3 holds 0 1 2 rests on 0 1 2\n")
    -- the report's sheet
    ∷ row (of 0 4 (reports []))
    (ascii "verdict well\nelements 4 constraints 5\nstep 5 from 0 1 2 joint 0 1 2 kind ppp ways 2\nstep 6 from 3 4 5 joint 1 2 3 kind ppp ways ?\ncluster 6 holds 0 1 2 3 rests on 0 1 2 3 4\n")
    -- the same with (0,3) added last: over, first 5, set 0 1 2 3
    ∷ row (of 0 4 (reports (sized 0 3 300 ∷ []))) (ascii "verdict over\nelements 4 constraints 6\nfirst 5\nset 0 1 2 3\n")
    -- that with a fifth, unconstrained point: still over, though 6 is below 7
    ∷ row (of 0 5 (reports (sized 0 3 300 ∷ []))) (ascii "verdict over\nelements 5 constraints 6\nfirst 5\nset 0 1 2 3\n")
    -- each of 0, 1, 2 with each of 3, 4, 5: stuck, no step
    ∷ row (of 0 6 crossed) (ascii "verdict stuck\nelements 6 constraints 9\n" ++ crossed_lines)
    -- line 0, points 1 and 2; (0,1) without size, (0,2) 300, (1,2) 300: ways 1; (1,2) 299: ways 0
    ∷ row (foot 300) (ascii "verdict well\nelements 3 constraints 3\nstep 3 from 0 1 2 joint 0 1 2 kind ppl ways 1\ncluster 3 holds 0 1 2 rests on 0 1 2\n")
    ∷ row (foot 299) (ascii "verdict well\nelements 3 constraints 3\nstep 3 from 0 1 2 joint 0 1 2 kind ppl ways 0\ncluster 3 holds 0 1 2 rests on 0 1 2\n")
    -- distances 100, 200, 300: ways 1; 100, 200, 301: ways 0
    ∷ row (triangle 100 200 300)
    (ascii "verdict well\nelements 3 constraints 3\nstep 3 from 0 1 2 joint 0 1 2 kind ppp ways 1\ncluster 3 holds 0 1 2 rests on 0 1 2\n")
    ∷ row (triangle 100 200 301)
    (ascii "verdict well\nelements 3 constraints 3\nstep 3 from 0 1 2 joint 0 1 2 kind ppp ways 0\ncluster 3 holds 0 1 2 rests on 0 1 2\n")
    -- rings (2026-03): the hipped frame, four lines and four angles, each line to the next: angle; one angle less: under
    ∷ row (of 4 0 round4)
    (ascii "verdict angle\nelements 4 constraints 4\ncluster 0 holds 0 1 rests on 0\ncluster 1 holds 1 2 rests on 1\ncluster 2 holds 2 3 rests on 2\ncluster 3 holds 0 3 rests on 3\n")
    ∷ row (of 4 0 (sized 0 1 6000 ∷ sized 1 2 6000 ∷ sized 2 3 6000 ∷ []))
    (ascii "verdict under\nelements 4 constraints 3\ncluster 0 holds 0 1 rests on 0\ncluster 1 holds 1 2 rests on 1\ncluster 2 holds 2 3 rests on 2\n")
    -- five lines in a ring: angle; a ring through points only: under
    ∷ row (of 5 0 (sized 0 1 6000 ∷ sized 1 2 6000 ∷ sized 2 3 6000 ∷ sized 3 4 6000 ∷ sized 0 4 6000 ∷ []))
    (ascii "verdict angle\nelements 5 constraints 5\ncluster 0 holds 0 1 rests on 0\ncluster 1 holds 1 2 rests on 1\ncluster 2 holds 2 3 rests on 2\ncluster 3 holds 3 4 rests on 3\ncluster 4 holds 0 4 rests on 4\n")
    ∷ row (of 0 4 round4)
    (ascii "verdict under\nelements 4 constraints 4\ncluster 0 holds 0 1 rests on 0\ncluster 1 holds 1 2 rests on 1\ncluster 2 holds 2 3 rests on 2\ncluster 3 holds 0 3 rests on 3\n")
    -- four parts, two lines and a point each, that share lines in a ring: angle
    ∷ row (of 4 4 (corner 0 1 4 (corner 1 2 5 (corner 2 3 6 (corner 0 3 7 [])))))
    (ascii "verdict angle\nelements 8 constraints 12\nstep 12 from 0 1 2 joint 0 1 4 kind pll ways 1\nstep 13 from 3 4 5 joint 1 2 5 kind pll ways 1\n"
    ++ ascii "step 14 from 6 7 8 joint 2 3 6 kind pll ways 1\nstep 15 from 9 10 11 joint 0 3 7 kind pll ways 1\n"
    ++ ascii "cluster 12 holds 0 1 4 rests on 0 1 2\ncluster 13 holds 1 2 5 rests on 3 4 5\ncluster 14 holds 2 3 6 rests on 6 7 8\ncluster 15 holds 0 3 7 rests on 9 10 11\n")
    -- each of 0, 1, 2 with each of 3, 4, 5, all of them lines: angle, where points are stuck
    ∷ row (of 6 0 crossed) (ascii "verdict angle\nelements 6 constraints 9\n" ++ crossed_lines)
    ∷ []

-- no rule refuses any of them, and each prints its report
pub record Printed : Type 0 where
  pub accepted : map (λ (r : Row). sheet_fault (sheet_of r.facts)) table ≡ map (λ (r : Row). 0) table
  pub prints : map (λ (r : Row). report_of (sized_of r.facts)) table ≡ map (λ (r : Row). r.prints) table
