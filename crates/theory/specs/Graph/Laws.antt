-- The verdict is over if and only if some set carries too much; else it is that of every maximal list of merges, in every order of the
-- constraints. The steps of a list of merges are as many, and have its joints. Assumes nothing.
use Rattle.std.specs.Prelude.{◌≡◌, ◌≢◌, ◌∷◌}
use Rattle.theory.specs.Prelude.{refl, sym, ap, ap₂, ◌∙◌, List, [], map, ℕ, suc, length}
use Rattle.theory.specs.Constraints.{Pairs, Below, Perm, same, NotOver}
use Rattle.theory.specs.Constraints.Laws.{length-perm}
use Rattle.theory.specs.Over.{IsOver}
use Rattle.theory.specs.Over.Laws.{over-not-fine, fine-over_of, over_of-fine, over_of-over}
use Rattle.theory.specs.Merge.{Merge, put, final, joints, Maximal}
use Rattle.theory.specs.Merge.Numbered.{every-order}
use Rattle.theory.specs.Merge.Count.{same_left}
use Rattle.theory.specs.Plan.{plan_of}
use Rattle.theory.specs.Plan.Laws.{plan-of-maximal}
use Rattle.theory.specs.Plan.Order.{joint-ascending}
use Rattle.theory.specs.Ring.Laws.{same-ringed}
use Rattle.theory.specs.Verdict.Laws.{angled-same, judged-same, judged-not-over}
use Rattle.theory.specs.Graph.{Graph, finding_of, list_verdict, verdict_by, verdict_of, SizedGraph, step_of, steps_from}
use Rattle.theory.specs.Finding.{Finding}
use Rattle.theory.specs.Finding.{Fine, First}
use Rattle.theory.specs.declared.Verdict.TheVariants.{Over}
use Rattle.theory.specs.declared.Step.{Step}

-- ---- lists of merges

pub list-not-over : (g : Graph) (p : List Merge) → list_verdict g p ≢ Over
unfolding list_verdict
list-not-over g p = judged-not-over g.lines g.n (length g.clusters) (joints g.clusters p) (final g.clusters p)

-- every two maximal lists have the same verdict, whatever the order of the constraints
pub same-verdict : (g h : Graph) → h.n ≡ g.n → h.lines ≡ g.lines → Perm g.clusters h.clusters → Pairs g.clusters → NotOver g.clusters
    → (p q : List Merge) → Maximal g.clusters p → Maximal h.clusters q → list_verdict g p ≡ list_verdict h q
unfolding list_verdict
same-verdict g h n l r pairs f p q v w =
    judged-same g.lines g.n (length g.clusters) (joints g.clusters p) (joints h.clusters q)
    (final g.clusters p) (final h.clusters q)
    (angled-same g.lines (joints g.clusters p) (joints h.clusters q)
    (every-order g.clusters pairs f h.clusters r p q v w).same_joints)
    (same-ringed g.clusters pairs f h.clusters r p q v w g.lines)
    (same_left g.clusters pairs f h.clusters r p q v w)
    ∙ rw (n, l, ← length-perm r)

-- ---- the verdict of a graph

module _ (g : Graph) where
  -- over where a first constraint is found, else that of the engine's plan
  pub first-verdict : {c x : ℕ} → finding_of g ≡ First c x → verdict_of g ≡ Over
  unfolding verdict_of
  first-verdict q = ap (verdict_by g) q

  pub fine-verdict : finding_of g ≡ Fine → verdict_of g ≡ list_verdict g (plan_of g.clusters)
  unfolding verdict_of
  fine-verdict q = ap (verdict_by g) q

  pub fine-not-over : finding_of g ≡ Fine → verdict_of g ≢ Over
  fine-not-over q v = list-not-over g (plan_of g.clusters) (sym (fine-verdict q) ∙ v)

  pub not-over-fine : verdict_of g ≢ Over → finding_of g ≡ Fine
  not-over-fine v = go (finding_of g) refl
    where
      go : (o : Finding) → finding_of g ≡ o → finding_of g ≡ Fine
      go Fine q = q
      go (First c x) q = absurd (v (first-verdict q))

  -- over if and only if some set carries too much
  module _ (pairs : Pairs g.clusters) (below : Below g.n g.clusters) where
    pub fine-finding : NotOver g.clusters → finding_of g ≡ Fine
    fine-finding f = fine-over_of g.n g.clusters pairs below f

    pub verdict-fine : verdict_of g ≢ Over → NotOver g.clusters
    verdict-fine v = over_of-fine g.n g.clusters pairs below (not-over-fine v)

    pub over-verdict : IsOver g.clusters → verdict_of g ≡ Over
    over-verdict o = go (finding_of g) refl
      where
        go : (r : Finding) → finding_of g ≡ r → verdict_of g ≡ Over
        go Fine q = absurd (over-not-fine o (over_of-fine g.n g.clusters pairs below q))
        go (First c x) q = first-verdict q

    pub verdict-over : verdict_of g ≡ Over → IsOver g.clusters
    verdict-over v = go (finding_of g) refl
      where
        go : (r : Finding) → finding_of g ≡ r → IsOver g.clusters
        go Fine q = absurd (fine-not-over q v)
        go (First c x) q = over_of-over g.n g.clusters pairs below c x q

    -- else it is that of every maximal list of merges
    pub verdict-every : NotOver g.clusters → (p : List Merge) → Maximal g.clusters p → verdict_of g ≡ list_verdict g p
    verdict-every f p m =
        fine-verdict (fine-finding f) ∙ same-verdict g g refl refl same pairs f (plan_of g.clusters) p (plan-of-maximal g.clusters pairs) m

-- ---- the steps of a list of merges

pub length-steps : (g : SizedGraph) (s : List ℕ) (p : List Merge) → length (steps_from g s p) ≡ length p
unfolding steps_from
length-steps g s [] = refl
length-steps g s (m ∷ p) = ap suc (length-steps g (put s m) p)

pub joints-steps : (g : SizedGraph) (s : List ℕ) (p : List Merge) → map (λ (t : Step). t.joint) (steps_from g s p) ≡ joints s p
unfolding steps_from step_of joints
joints-steps g s [] = refl
joints-steps g s (m ∷ p) = ap₂ (λ (x : ℕ) (l : List ℕ). x ∷ l) (joint-ascending s m) (joints-steps g (put s m) p)
