-- `account::clusters` meets its contract: the living clusters of the judgement's plan. Assumes nothing.
use Rattle.std.specs.Prelude.{◌≡◌}
use Rattle.theory.specs.Prelude.{rules, refl, ap, ◌∙◌, List, ℕ, length, take}
use Rattle.space.specs.Space.{answer, after}
use Rattle.graph.specs.declared.Head.{Head}
use Rattle.graph.specs.Lent.{graph_in, Drawn}
use Rattle.merges.specs.Run.{Run, run_in}
use Rattle.engine.specs.Lists.{living_of}
use Rattle.judge.specs.Judged.{judged_of, final_clusters}
use Rattle.judge.specs.Judged.Lists.{Held, judged-held}
use Rattle.account.proofs.clusters.Goals as goal

-- the plan of the graph
module _ {h : Head} {near start : List ℕ} (d : Drawn h near start) {steps : ℕ} {parts joints slots : List ℕ}
    (run_is : run_in steps parts joints slots ≡ (judged_of (graph_in h start)).run) where
  held : Held (graph_in h start) d.sound (judged_of (graph_in h start))
  held = judged-held _ _ refl

  slots_long : length slots ≡ 192
  slots_long = ap (λ (r : Run). length r.slots) run_is ∙ held.slots_long

  finals : living_of (take 192 slots) ≡ final_clusters (graph_in h start)
  finals = ap (λ (r : Run). living_of (take 192 r.slots)) run_is ∙ held.finals

pub plan_on-requires : goal.plan_on-requires
plan_on-requires c = (c.requires, record { slots_blank = refl; parts_blank = refl; joints_blank = refl })

pub put_clusters-requires : goal.put_clusters-requires
put_clusters-requires c = (search rules, slots_long c.requires c.plan_on.ensures)

pub returns : goal.returns
returns c =
    let e = finals c.requires c.plan_on.ensures in
    let w = c.put_clusters.ensures in
    let space = c.args.out.now in
    (w.0 ∙ ap (λ (l : List ℕ). answer l space) e, w.1 ∙ ap (λ (l : List ℕ). after l space) e)
