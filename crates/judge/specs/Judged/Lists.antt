-- What the arrays of a judgement hold: the plan's numbers, the final clusters, and the verdict of the definition. Assumes nothing.
use Rattle.std.specs.Prelude.{◌+◌, ◌-◌, ◌*◌, ◌≤◌, ◌≡◌, ◌∷◌, ◌++◌}
use Rattle.theory.specs.Prelude.{ℕ, zero, suc, arith, refl, sym, ap, ◌∙◌, subst, List, [], map, length, take}
use Rattle.theory.specs.Prelude.{replicate, take_all}
use Rattle.theory.specs.Block.{block}
use Rattle.theory.specs.Block.Laws.{length-block, take-block}
use Rattle.theory.specs.Merge.{final, joints}
use Rattle.theory.specs.Merge.Count.{steps-left}
use Rattle.theory.specs.Plan.{plan_of, ascending}
use Rattle.theory.specs.Plan.Laws.{plan-of-maximal}
use Rattle.theory.specs.Finding.{Finding}
use Rattle.theory.specs.Finding.{Fine, First}
use Rattle.theory.specs.Graph.{Graph, finding_of, verdict_of}
use Rattle.theory.specs.Graph.Laws.{first-verdict, fine-verdict}
use Rattle.graph.specs.Lent.{Sound}
use Rattle.graph.specs.Lent.Sheets.{found-fine, fine-few}
use Rattle.merges.specs.Run.{Run, flat, run_of}
use Rattle.merges.specs.Run.Laws.{length-numbers, length-final}
use Rattle.engine.specs.Lists.{living_of}
use Rattle.judge.specs.Judged.{Judged, listed, planned, over_found, judged_by, judged_of, plan_by, plan_numbers, finals_by, final_clusters}

-- zeros name no living cluster
living-none : (k : ℕ) → living_of (replicate k 0) ≡ []
unfolding living_of
living-none zero = refl
living-none (suc k) = living-none k

living-append : (l : List ℕ) (k : ℕ) → living_of (l ++ replicate k 0) ≡ living_of l
unfolding living_of
living-append [] k = living-none k
living-append (zero ∷ l) k = living-append l k
living-append (suc x ∷ l) k = ap (λ (r : List ℕ). suc x ∷ r) (living-append l k)

module _ (g : Graph) (sound : Sound g.n g.clusters) where
  pub record Held (j : Judged) : Type 0 where
    pub steps_most : j.run.steps ≤ 62
    pub parts_long : length j.run.parts ≡ 192
    pub slots_long : length j.run.slots ≡ 192
    pub numbers : take (3 * j.run.steps) j.run.parts ≡ plan_numbers g
    pub finals : living_of (take 192 j.run.slots) ≡ final_clusters g
    pub verdict_is : j.verdict ≡ verdict_of g

  plan-held : finding_of g ≡ Fine → Held (planned g)
  unfolding listed run_of plan_numbers final_clusters
  plan-held q =
      let cs = g.clusters in
      let p = plan_of cs in
      let s = steps-left cs sound.simple.pairs p (plan-of-maximal cs sound.simple.pairs).valid in
      let e = fine-few sound (found-fine sound q) in
      let l : length (flat (map ascending p)) ≡ 3 * length p = length-numbers p in
      let m : length (final cs p) ≡ length cs + length p = length-final p cs in
      record {
        steps_most = omega arith;
        parts_long = length-block 192 0 (flat (map ascending p)) (omega arith);
        slots_long = length-block 192 0 (final cs p) (omega arith);
        numbers = take-block 192 0 (flat (map ascending p)) (3 * length p) (sym l) ∙ sym (ap (λ (o : Finding). flat (map ascending (plan_by g o))) q);
        finals =
            ap living_of (take_all 192 (block 192 0 (final cs p)) (omega (arith, length-block 192 0 (final cs p) (omega arith))))
            ∙ living-append (final cs p) (192 - length (final cs p)) ∙ sym (ap (finals_by g) q);
        verdict_is = sym (fine-verdict g q);
      }

  over-held : (c x : ℕ) → finding_of g ≡ First c x → Held (over_found c x)
  unfolding run_of plan_numbers final_clusters flat joints
  over-held c x q =
      record {
        steps_most = omega arith;
        parts_long = refl;
        slots_long = refl;
        numbers = sym (ap (λ (o : Finding). flat (map ascending (plan_by g o))) q);
        finals = living-none 192 ∙ sym (ap (finals_by g) q);
        verdict_is = sym (first-verdict g q);
      }

  pub judged-held : {j : Judged} → j ≡ judged_of g → Held j
  unfolding judged_of
  judged-held e = subst Held (sym e) (by-finding (finding_of g) refl)
    where
      by-finding : (o : Finding) → finding_of g ≡ o → Held (judged_by g (finding_of g))
      by-finding Fine q = subst (λ (o : Finding). Held (judged_by g o)) (sym q) (plan-held q)
      by-finding (First c x) q = subst (λ (o : Finding). Held (judged_by g o)) (sym q) (over-held c x q)

  -- of its plan alone
  pub record HeldRun (r : Run) : Type 0 where
    pub few_steps : r.steps ≤ 62
    pub all_parts : length r.parts ≡ 192
    pub plan_is : take (3 * r.steps) r.parts ≡ plan_numbers g
    pub finals_are : living_of (take 192 r.slots) ≡ final_clusters g

  pub run-held : {r : Run} → r ≡ (judged_of g).run → HeldRun r
  run-held e =
      let h = judged-held refl in
      subst HeldRun (sym e)
      (record { few_steps = h.steps_most; all_parts = h.parts_long; plan_is = h.numbers; finals_are = h.finals })
