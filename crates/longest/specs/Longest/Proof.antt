-- What is promised of the sheet with the longest plan. Every maximal list of merges of it leaves one cluster, since it peels off to its last element;
-- so it has (e - 1) / 2 = n - 2 steps, and no list of a sheet that isn't over has more. Assumes nothing.
use Rattle.std.specs.Prelude.{◌≡◌, ◌+◌, ◌*◌, ◌-◌, ◌≤◌}
use Rattle.theory.specs.Prelude.{refl, sym, ap, subst, true, List, ℕ, zero, suc, arith, ones, length, length-map}
use Rattle.theory.specs.Prelude.{length-replicate}
use Rattle.theory.specs.Set.Laws.{size-zero}
use Rattle.theory.specs.Constraints.{Below}
use Rattle.theory.specs.Merge.{final, left, Maximal}
use Rattle.theory.specs.Merge.Count.{steps-left}
use Rattle.theory.specs.Plan.{plan_of}
use Rattle.theory.specs.Plan.Laws.{plan-of-maximal}
use Rattle.theory.specs.Graph.Laws.{fine-finding}
use Rattle.theory.specs.Ring.Laws.{one-ringed}
use Rattle.theory.specs.Graph.Short.{not-angled, verdict-one}
use Rattle.sheet.specs.Facts.{lines_of, set_of, blank_element}
use Rattle.sheet.specs.Rules.{elements_in_range}
use Rattle.sheet.specs.Rules.Laws.{elements-range}
use Rattle.sheet.specs.RoundTrip.{read-written}
use Rattle.sheet.specs.Graph.{graph_of, reordered}
use Rattle.sheet.specs.Graph.Laws.{sheet-demand3}
use Rattle.peeling.specs.Core.Merging.{loose-one}
use Rattle.longest.specs.Longest.{points, longest_sheet, Longest}
use Rattle.longest.specs.Longest.Rules.{strip-length, strip-accepted}
use Rattle.longest.specs.Longest.Sparse.{clusters, strip-pairs, strip-below, strip-fine, strip-loose}

no_lines : (n : ℕ) → lines_of (points n) ≡ 0
unfolding set_of
no_lines zero = refl
no_lines (suc n) = omega (arith, no_lines n)

module _ (n : ℕ) (taken : elements_in_range n ≡ true) where
  two : 2 ≤ n
  two = (elements-range n taken).0

  most : n ≤ 64
  most = (elements-range n taken).1

  abbrev j : ℕ
  j = n - 2

  abbrev cs : List ℕ
  cs = clusters j

  below : Below n cs
  below = subst (λ (m : ℕ). Below m cs) (omega (arith, two)) (strip-below j)

  full-count : length cs + 3 ≡ 2 * n
  full-count = simp length-map (omega (arith, strip-length j, two))

  plan-maximal : Maximal cs (plan_of cs)
  plan-maximal = plan-of-maximal cs (strip-pairs j)

  one_left : left (final cs (plan_of cs)) ≡ 1
  one_left = loose-one n cs two most (strip-pairs j) below (strip-fine j) (strip-loose j) full-count (plan_of cs) plan-maximal

  plan-steps : length (plan_of cs) ≡ n - 2
  plan-steps = omega (arith, steps-left cs (strip-pairs j) (plan_of cs) plan-maximal.valid, one_left, full-count)

  pub longest : Longest n
  longest =
      let g = graph_of (longest_sheet n) in
      let count : g.n ≡ n = length-replicate n blank_element in
      let fine = fine-finding g (strip-pairs j) (subst (λ (m : ℕ). Below m cs) (sym count) below) (strip-fine j) in
      record {
        accepted = strip-accepted n taken;
        reads = read-written (longest_sheet n) (strip-accepted n taken);
        well =
            verdict-one g fine
            (not-angled g.lines (omega (arith, ap ones (no_lines n), size-zero)) cs (plan_of cs) plan-maximal.valid)
            (one-ringed cs (strip-pairs j) (strip-fine j) (plan_of cs) plan-maximal g.lines one_left) (omega (arith, full-count, count)) one_left;
        steps = plan-steps;
        most = λ f accepted size fine-sheet ds order p valid.
            let turned = (sheet-demand3 f accepted fine-sheet).orders ds order in
            let d = sheet-demand3 (reordered f ds) turned.0 turned.1 in
            omega (arith, (d.whole.counts p valid).most, plan-steps, size);
      }
