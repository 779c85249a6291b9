-- The answers are those of lists of merges. Assumes nothing.
use Rattle.std.specs.Prelude.{◌%◌, ◌≡◌, ◌≢◌, ◌∷◌}
use Rattle.theory.specs.Prelude.{ℕ, refl, ap, ap₂, ◌∙◌, List, [], map, length}
use Rattle.theory.specs.Constraints.{Pairs, Below}
use Rattle.theory.specs.Constraints.Perm.{same}
use Rattle.theory.specs.Merge.{Merge, put, Maximal}
use Rattle.theory.specs.Plan.{plan_of, ascending, IsPlan}
use Rattle.theory.specs.Plan.Laws.{ascending-same, plan-of-is, plan-of-maximal}
use Rattle.sheet.specs.Facts.{Facts}
use Rattle.sheet.specs.Accepted.{Accepted}
use Rattle.sheet.specs.Rules.Laws.{none-else}
use Rattle.sheet.specs.Graph.Laws.{sheet-demand3, clusters-pairs, clusters-below, fault-none, fine-fault}
use Rattle.sheet.specs.Graph.{graph_of, sized_of, over_fault}
use Rattle.theory.specs.Finding.{Finding}
use Rattle.theory.specs.Finding.{Fine}
use Rattle.theory.specs.declared.Verdict.TheVariants.{Over}
use Rattle.theory.specs.Graph.{SizedGraph, finding_of, verdict_of}
use Rattle.theory.specs.Graph.Laws.{fine-verdict, fine-not-over, not-over-fine, length-steps, joints-steps}
use Rattle.merges.specs.Run.{flat}
use Rattle.judge.specs.Judged.{plan_by, plan_numbers, finals_by, final_clusters}
use Rattle.plans.specs.Check.{saved_steps_of, plan_fault}
use Rattle.plans.specs.Check.Laws.{accepted-maximal}
use Rattle.plans.specs.Rule14.{Never14}
use Rattle.plans.specs.Rule14.Proof.{never-14}
use Rattle.account.specs.Account.{report_by, report_of, saved_fault}
use Rattle.account.specs.Own.{ReportsOwn, EngineList, SavedList, OwnLists}

reports-own : (g : SizedGraph) (p : List Merge) → ReportsOwn g p
reports-own g p = record { same_joints = joints-steps g g.graph.clusters p; steps = length-steps g g.graph.clusters p }

-- ---- the engine's plan lists its numbers ascending

plan-ascends : (p : List Merge) (s : List ℕ) → IsPlan s p → map ascending p ≡ p
plan-ascends [] s h = refl
plan-ascends (m ∷ p) s h = ap₂ (λ (x : Merge) (l : List Merge). x ∷ l) (ascending-same m h.0.i<j h.0.j<k) (plan-ascends p (put s m) h.1)

-- ---- an accepted sheet

module _ (f : Facts) (a : Accepted f) where
  pub paired : Pairs (graph_of f).clusters
  paired = clusters-pairs f a.no_fault

  pub below : Below (graph_of f).n (graph_of f).clusters
  below = clusters-below f a.no_fault

  engine-list : verdict_of (graph_of f) ≢ Over → EngineList (sized_of f)
  unfolding plan_numbers final_clusters report_of
  engine-list v =
      let g = graph_of f in
      let q = not-over-fine g v in
      record {
        p = plan_of g.clusters;
        maximal = plan-of-maximal g.clusters paired;
        plan =
            ap (λ (o : Finding). flat (map ascending (plan_by g o))) q
            ∙ ap flat (plan-ascends (plan_of g.clusters) g.clusters (plan-of-is g.clusters paired));
        clusters = ap (finals_by g) q;
        verdict = fine-verdict g q;
        report = ap (report_by (sized_of f)) q;
        own = reports-own (sized_of f) (plan_of g.clusters);
      }

  -- rule 11 lets through what is not over
  pub let_through : (l : List ℕ) → saved_fault (graph_of f) l ≡ 0 → finding_of (graph_of f) ≡ Fine
  unfolding saved_fault
  let_through l h = fault-none (graph_of f) (none-else (over_fault (graph_of f)) (plan_fault (graph_of f).clusters l) h).0

  pub saved-maximal : (l : List ℕ) → saved_fault (graph_of f) l ≡ 0
      → (verdict_of (graph_of f) ≢ Over) × (length l % 3 ≡ 0) × Maximal (graph_of f).clusters (saved_steps_of l)
  unfolding saved_fault
  saved-maximal l h =
      let m = (accepted-maximal (graph_of f).clusters l).0
      (none-else (over_fault (graph_of f)) (plan_fault (graph_of f).clusters l) h).1 in
      (fine-not-over (graph_of f) (let_through l h), m.0, m.1)

  saved-list : (l : List ℕ) → SavedList (sized_of f) l
  unfolding saved_fault
  saved-list l = record {
    accepted = (
      saved-maximal l,
      λ h. rw (fine-fault (graph_of f) (not-over-fine (graph_of f) h.0)) ((accepted-maximal (graph_of f).clusters l).1 (h.1, h.2)),
    );
    same = λ h. let m = saved-maximal l h in
        (sheet-demand3 f a m.0).every f.constraints same (plan_of (graph_of f).clusters) (saved_steps_of l)
        (plan-of-maximal (graph_of f).clusters paired) m.2;
    own = λ h. reports-own (sized_of f) (saved_steps_of l);
  }

  rule_14 : verdict_of (graph_of f) ≢ Over → Never14 (graph_of f).clusters
  rule_14 v = never-14 (graph_of f).clusters (λ p h. record { share = ((sheet-demand3 f a v).whole.counts p h).share })

  pub own-lists : OwnLists (sized_of f)
  own-lists = record { engine = engine-list; saved = saved-list; rule_14 = rule_14 }
