-- What is found decides the judgement in lent arrays. Assumes nothing.
use Rattle.std.specs.Prelude.{◌≡◌, ◌+◌, ◌*◌, ◌≤◌, Ok}
use Rattle.theory.specs.Prelude.{refl, sym, ap, ap₂, ◌∙◌, Bool, List, ℕ, arith, eqb, eqb-true}
use Rattle.theory.specs.Prelude.{length, take}
use Rattle.theory.specs.Constraints.{NotOver}
use Rattle.theory.specs.Merge.{Merge, final, left}
use Rattle.theory.specs.Merge.One.{one-fine}
use Rattle.theory.specs.Plan.{plan_of}
use Rattle.theory.specs.Finding.{Fine}
use Rattle.theory.specs.declared.Verdict.{Verdict}
use Rattle.theory.specs.Graph.{Graph, finding_of}
use Rattle.theory.specs.Graph.Laws.{fine-finding}
use Rattle.sheet.specs.Graph.{over_fault}
use Rattle.sheet.specs.Graph.Laws.{fine-fault}
use Rattle.merges.specs.Run.{Run, run_of, run_in, one_is_left, Start, Planned}
use Rattle.merges.specs.Run.Laws.{one_left}
use Rattle.graph.specs.declared.Head.{Head}
use Rattle.graph.specs.Lent.{graph_in, Sound}
use Rattle.graph.specs.Lent.Sheets.{found-fine}
use Rattle.judge.specs.declared.Found.{Found}
use Rattle.judge.specs.Judged.{Judged, listed, judged_by, judged_of}
use Rattle.judge.specs.Judged.Laws.{steps_are, arrays-long, Settled, listed-verdict}
use Rattle.judge.specs.Judged.Lists.{judged-held}
use Rattle.judge.specs.Judged.Short.{fine-judged}
use Rattle.judge.specs.Telling.{Tells}
use Rattle.judge.specs.Found.{judged_with, FoundIn, MergedIn}

-- merges in the arrays, with the verdict that their joints and final clusters settle
module _ (h : Head) {start : List ℕ} (begin : Start start h.e) (sound : Sound h.n (take h.e start)) {steps : ℕ}
    {parts joints slots : List ℕ} (planned : Planned (take h.e start) (run_in steps parts joints slots)) where
  abbrev cs : List ℕ
  cs = take h.e start

  abbrev p : List Merge
  p = planned.merged.p

  left-are : left (final cs p) + 2 * steps ≡ h.e
  left-are = steps_are cs begin.pairs planned.merged ∙ begin.count

  -- what settling asks
  pub asked : (steps ≤ 64) × (2 * steps ≤ h.e) × (h.n ≤ 64) × (h.e + steps ≤ 192) × (length joints ≡ 64) × (length slots ≡ 192)
  asked =
      let few = begin.few in
      let long = arrays-long cs begin.pairs planned.merged (omega (arith, few, begin.count)) in
      (omega (arith, left-are, few), omega (arith, left-are), sound.most, omega (arith, left-are, few), long.0, long.1)

  module _ {v : Verdict} (settled : Settled h (run_in steps parts joints slots) v) {whole : Bool} (is : whole ≡ one_is_left h.e steps) where
    abbrev found : Found
    found = record { verdict = v; steps = steps; whole = whole }

    one : whole ≡ eqb (left (final cs p)) 1
    one = is ∙ one_left h.e steps (final cs p) left-are

    module _ (fine : NotOver cs) where
      abbrev g : Graph
      g = graph_in h start

      fine-is : finding_of g ≡ Fine
      fine-is = fine-finding g begin.pairs sound.below fine

      judged-is : judged_with found (run_in steps parts joints slots) ≡ judged_of g
      unfolding listed
      judged-is =
          ap₂ {C = Judged} (λ (w : Verdict) (r : Run). record { verdict = w; first = 0; set = 0; run = r })
          (listed-verdict g begin.pairs planned.merged {h = h} refl refl begin.count settled) planned.merged.is
          ∙ fine-judged g sound planned fine

      fine-found : FoundIn g found parts joints slots
      fine-found = record {
        fine = fine-is;
        judged = judged-is;
        whole_is = one ∙ ap (λ (l : List Merge). eqb (left (final cs l)) 1) (planned.plan fine);
      }

    pub merged-found : MergedIn h start found parts joints slots
    merged-found = record {
      fine = λ w. one-fine cs begin.pairs p planned.merged.valid (eqb-true _ _ (sym one ∙ w));
      judged = fine-found;
    }

-- what is found tells the verdict
pub found-tells : (g : Graph) → Sound g.n g.clusters → {f : Found} {parts joints slots : List ℕ} → FoundIn g f parts joints slots
    → Tells g (Ok f.verdict)
found-tells g sound f = (f.fine, (judged-held g sound f.judged).verdict_is)

-- that it is not over, and that the arrays hold its plan
pub record PlanFound (g : Graph) {f : Found} {parts joints slots : List ℕ} (j : FoundIn g f parts joints slots) : Type 0 where
  pub not_over : NotOver g.clusters
  pub none : over_fault g ≡ 0
  pub run_is : run_in f.steps parts joints slots ≡ run_of g.clusters (plan_of g.clusters)

pub found-plan : (g : Graph) → Sound g.n g.clusters → {f : Found} {parts joints slots : List ℕ} (j : FoundIn g f parts joints slots) → PlanFound g j
unfolding judged_of listed
found-plan g sound j = record {
  not_over = found-fine sound j.fine;
  none = fine-fault g j.fine;
  run_is = ap (λ (x : Judged). x.run) (j.judged ∙ ap (judged_by g) j.fine);
}
