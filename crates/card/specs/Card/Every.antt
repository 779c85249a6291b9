-- The verdict of a set of distances is that of every sheet of those points with those pairs, whatever its sizes and the order in which it lists them.
-- Assumes nothing.
use Rattle.std.specs.Prelude.{◌≡◌, ◌⊎◌, ◌∷◌, ◌++◌, ◌+◌, ◌/◌, ◌%◌, ◌^◌, ◌≤◌, ◌<◌}
use Rattle.theory.specs.Prelude.{refl, sym, ap, ◌∙◌, subst, inl, inr, ⊎_elim, Bool, true, false, List, [], map, ℕ, zero, suc}
use Rattle.theory.specs.Prelude.{arith, ones, eqb, length, replicate, length-replicate}
use Rattle.theory.specs.Constraints.{Among, Pairs, Below, Perm}
use Rattle.theory.specs.Constraints.Laws.{pairs-perm, below-perm, fine-perm, carried-perm, size-pair, pair-below}
use Rattle.theory.specs.Over.Laws.{over_of-fine, over_of-over}
use Rattle.theory.specs.Plan.{plan_of}
use Rattle.theory.specs.Plan.Laws.{plan-of-maximal}
use Rattle.theory.specs.Graph.{Graph, finding_of, verdict_of}
use Rattle.theory.specs.Graph.Laws.{first-verdict, fine-verdict, fine-finding, over-verdict, same-verdict}
use Rattle.theory.specs.Finding.{Finding}
use Rattle.theory.specs.Finding.{Fine, First}
use Rattle.sheet.specs.declared.Constraint.{Constraint}
use Rattle.sheet.specs.Facts.{Facts, lines_of, blank_element}
use Rattle.sheet.specs.Graph.{cluster_of, graph_of}
use Rattle.card.specs.Card.{with_each, each_two, standing, points_sheet, set_verdict}

-- ---- the order of the constraints has no influence on the verdict

module _ (g h : Graph) (count : h.n ≡ g.n) (kinds : h.lines ≡ g.lines) (order : Perm g.clusters h.clusters)
    (pairs : Pairs g.clusters) (below : Below g.n g.clusters) where
  pub same-judgement : verdict_of h ≡ verdict_of g
  same-judgement = by-finding (finding_of g) refl
    where
      pairs-h : Pairs h.clusters
      pairs-h = pairs-perm order pairs

      below-h : Below h.n h.clusters
      below-h = rw count (below-perm g.n order below)

      by-finding : (o : Finding) → finding_of g ≡ o → verdict_of h ≡ verdict_of g
      by-finding (First c x) q =
          let o = over_of-over g.n g.clusters pairs below c x q in
          over-verdict h pairs-h below-h (record { set = o.set; two = o.two; more = omega (arith, o.more, carried-perm order o.set) })
          ∙ sym (first-verdict g q)
      by-finding Fine q =
          let fine = over_of-fine g.n g.clusters pairs below q in
          fine-verdict h (fine-finding h pairs-h below-h (fine-perm order fine))
          ∙ sym (same-verdict g h count kinds order pairs fine (plan_of g.clusters) (plan_of h.clusters)
          (plan-of-maximal g.clusters pairs) (plan-of-maximal h.clusters pairs-h))
          ∙ sym (fine-verdict g q)

-- ---- the pairs of n points are sets of two of them

-- x is the set of two elements below n
abbrev Two : ℕ → ℕ → Type 0
Two n x = (ones x ≡ 2) × (x < 2 ^ n)

with_each_lem : (n a b k : ℕ) → a < b → b + k ≤ n → (x : ℕ) → Among x (map cluster_of (with_each a b k)) → Two n x
unfolding with_each
with_each_lem n a b zero l m x i = absurd i
with_each_lem n a b (suc k) l m x (inl e) =
    (ap ones e ∙ size-pair a b l, subst (λ (z : ℕ). z < 2 ^ n) (sym e) (pair-below n a b (omega arith) (omega arith)))
with_each_lem n a b (suc k) l m x (inr i) = with_each_lem n a (suc b) k (omega arith) (omega arith) x i

among-either : (x : ℕ) (cs ds : List Constraint) → Among x (map cluster_of (cs ++ ds)) → Among x (map cluster_of cs) ⊎ Among x (map cluster_of ds)
among-either x [] ds i = inr i
among-either x (c ∷ cs) ds (inl e) = inl (inl e)
among-either x (c ∷ cs) ds (inr i) = ⊎_elim (λ j. inl (inr j)) inr (among-either x cs ds i)

each_two_lem : (n a k : ℕ) → a + k ≤ n → (x : ℕ) → Among x (map cluster_of (each_two a k)) → Two n x
unfolding each_two
each_two_lem n a zero l x i = absurd i
each_two_lem n a (suc k) l x i =
    ⊎_elim (with_each_lem n a (suc a) k (omega arith) (omega arith) x) (each_two_lem n (suc a) k (omega arith) x)
    (among-either x (with_each a (suc a) k) (each_two (suc a) k) i)

pub standing-among : (i : ℕ) (cs : List Constraint) (x : ℕ) → Among x (map cluster_of (standing i cs)) → Among x (map cluster_of cs)
unfolding standing
standing-among i [] x j = j
standing-among i (c ∷ cs) x j = by_bit (eqb (i % 2) 1) (standing-among (i / 2) cs x) j
  where
    by_bit : (b : Bool) → (Among x (map cluster_of (standing (i / 2) cs)) → Among x (map cluster_of cs))
        → Among x (map cluster_of (elim b [ true ↦ c ∷ standing (i / 2) cs | false ↦ standing (i / 2) cs ])) → Among x (map cluster_of (c ∷ cs))
    by_bit true further (inl e) = inl e
    by_bit true further (inr k) = inr (further k)
    by_bit false further k = inr (further k)

set-sound : (n i x : ℕ) → Among x (map cluster_of (standing i (each_two 0 n))) → Two n x
set-sound n i x j = each_two_lem n 0 n (omega arith) x (standing-among i (each_two 0 n) x j)

-- ---- every sheet of n points with the pairs of a set

pub every-sheet : (n i : ℕ) (f : Facts) → f.elements ≡ replicate n blank_element
    → Perm (map cluster_of (standing i (each_two 0 n))) (map cluster_of f.constraints) → verdict_of (graph_of f) ≡ set_verdict n i
unfolding set_verdict points_sheet Pairs Below
every-sheet n i f points order =
    same-judgement (graph_of (points_sheet n i)) (graph_of f) (ap length points) (ap lines_of points) order
    (λ x j. (set-sound n i x j).0)
    (λ x j. rw length-replicate (set-sound n i x j).1)
