-- What counts and peeling decide of a graph without a plan, and what the judgement says of the verdict. Assumes nothing.
use Rattle.std.specs.Prelude.{◌+◌, ◌*◌, ◌≤◌, ◌<◌, ◌≡◌, ◌≢◌, Result, Ok, Err}
use Rattle.std.specs.Result.{result_unwrap_or}
use Rattle.theory.specs.Prelude.{ℕ, arith, refl, sym, ap, ◌∙◌, subst, List, [], ones, length}
use Rattle.theory.specs.Constraints.{NotOver}
use Rattle.theory.specs.Merge.{final, left}
use Rattle.theory.specs.Merge.One.{one-fine}
use Rattle.theory.specs.Merge.Count.{steps-left}
use Rattle.theory.specs.Plan.{plan_of}
use Rattle.theory.specs.Plan.Laws.{plan-of-maximal}
use Rattle.theory.specs.Finding.{Finding}
use Rattle.theory.specs.Finding.{Fine, First}
use Rattle.theory.specs.declared.Verdict.TheVariants.{Over, Well, Under}
use Rattle.theory.specs.Graph.{Graph, finding_of, verdict_of}
use Rattle.theory.specs.Graph.Laws.{first-verdict, fine-finding, fine-not-over}
use Rattle.sheet.specs.Graph.{over_fault}
use Rattle.sheet.specs.Graph.Laws.{fine-fault, first-fault}
use Rattle.theory.specs.declared.Verdict.{Verdict}
use Rattle.theory.specs.Graph.Short.{not-angled, verdict-more, verdict-fewer, verdict-one}
use Rattle.graph.specs.Lent.{Sound}
use Rattle.peeling.specs.Core.{Core}
use Rattle.peeling.specs.Core.Peeling.{core-none}
use Rattle.theory.specs.Over.Laws.{over_of-fine}
use Rattle.theory.specs.Ring.Laws.{few-ringed, one-ringed}
use Rattle.peeling.specs.Core.Merging.{loose-one}
use Rattle.merges.specs.Run.{Run, run_in, Blank, Planned}
use Rattle.judge.specs.Judged.{Judged, listed, over_found, judged_by, judged_of}
use Rattle.judge.specs.Telling.{Tells, Reached}
use Rattle.judge.specs.Judged.Laws.{laid}

module _ (g : Graph) (sound : Sound g.n g.clusters) where
  abbrev cs : List ℕ
  cs = g.clusters

  -- ---- what is found decides the judgement

  pub first-judged : {c x : ℕ} → finding_of g ≡ First c x → judged_of g ≡ over_found c x
  unfolding judged_of
  first-judged q = ap (judged_by g) q

  -- the engine's merges, where it is not over
  pub fine-judged : {run : Run} (p : Planned cs run) → NotOver cs → listed g p.merged.p ≡ judged_of g
  unfolding judged_of
  fine-judged p fine =
      ap (listed g) (p.plan fine) ∙ sym (ap (judged_by g) (fine-finding g sound.simple.pairs sound.below fine))

  -- of an over sheet blank arrays
  pub run-first : {c x : ℕ} → finding_of g ≡ First c x → {slots parts held : List ℕ} → Blank slots parts held → run_in 0 parts held slots ≡ (judged_of g).run
  run-first q blank = laid [] blank blank.slots_blank ∙ sym (ap (λ (j : Judged). j.run) (first-judged q))

  -- merges that leave one cluster show that it is not over
  module _ {steps : ℕ} (r : Reached cs steps) where
    reached-left : left (final cs r.merges) + 2 * steps ≡ length cs
    reached-left = omega (arith, steps-left cs sound.simple.pairs r.merges r.valid, r.count)

    pub reached-few : 2 * steps ≤ length cs
    reached-few = omega (arith, reached-left)

    pub one-fault : 2 * steps + 1 ≡ length cs → over_fault g ≡ 0
    one-fault one =
        let pairs = sound.simple.pairs in
        fine-fault g (fine-finding g pairs sound.below
        (one-fine cs pairs r.merges r.valid (omega (arith, reached-left, one))))

  -- of a sheet that is not over
  pub fine-tells : {v : Verdict} → finding_of g ≡ Fine → v ≡ verdict_of g → Tells g (Ok v)
  fine-tells q v = (q, v)

  -- over is the verdict where no other is told
  pub told-verdict : (r : Result Verdict ℕ) → Tells g r → result_unwrap_or r Over ≡ verdict_of g
  told-verdict (Ok v) t = t.1
  told-verdict (Err c) t = sym (first-verdict g t.1)

  -- ---- verdicts without a plan

  pub more-is : 2 * g.n < length cs + 3 → verdict_of g ≡ Over
  more-is h = verdict-more g sound.two sound.simple.pairs sound.below h

  -- rule 11 of them, and no plan
  more-found : 2 * g.n < length cs + 3 → (c : ℕ) × (x : ℕ) × (finding_of g ≡ First c x)
  more-found h = by (finding_of g) refl
    where
      by : (o : Finding) → finding_of g ≡ o → (c : ℕ) × (x : ℕ) × (finding_of g ≡ First c x)
      by Fine q = absurd (fine-not-over g q (more-is h))
      by (First c x) q = (c, x, q)

  pub more-fault : 2 * g.n < length cs + 3 → over_fault g ≡ 11
  more-fault h = first-fault g (more-found h).2

  pub run_more : 2 * g.n < length cs + 3 → {slots parts held : List ℕ} → Blank slots parts held → run_in 0 parts held slots ≡ (judged_of g).run
  run_more h = run-first (more-found h).2

  -- other than 2n-3 constraints, and too few lines for a joint of three or a ring
  pub fewer-is : ones g.lines ≤ 2 → finding_of g ≡ Fine → length cs + 3 ≢ 2 * g.n → verdict_of g ≡ Under
  fewer-is few fine ne =
      let pairs = sound.simple.pairs in
      let m = plan-of-maximal cs pairs in
      verdict-fewer g fine (not-angled g.lines few cs (plan_of cs) m.valid)
      (few-ringed cs pairs (over_of-fine g.n cs pairs sound.below fine) (plan_of cs) m g.lines (omega arith)) ne

  -- 2n-3 constraints that peel off to the last element
  module _ (full : length cs + 3 ≡ 2 * g.n) {left : ℕ} (core : Core cs left) (none : left ≡ 0) where
    none_over : NotOver cs
    none_over = core-none cs (subst (Core cs) none core)

    none_found : finding_of g ≡ Fine
    none_found = fine-finding g sound.simple.pairs sound.below none_over

    -- with too few lines for an angle
    pub few-peeled : ones g.lines ≤ 2 → Tells g (Ok Well)
    few-peeled few =
        let m = plan-of-maximal cs sound.simple.pairs in
        let one =
        loose-one g.n cs sound.two sound.most sound.simple.pairs sound.below none_over (core.loose none) full (plan_of cs) m in
        fine-tells none_found
        (sym (verdict-one g none_found (not-angled g.lines few cs (plan_of cs) m.valid)
        (one-ringed cs sound.simple.pairs none_over (plan_of cs) m g.lines one) full one))
