-- `part::put_cluster` meets its contract: what is found tells 11, the count of clusters 26, and the arrays hold the plan's steps. Assumes nothing.
use Rattle.std.specs.Prelude.{◌≡◌}
use Rattle.theory.specs.Prelude.{refl, ap, ℕ, arith}
use Rattle.theory.specs.Graph.{SizedGraph, finding_of}
use Rattle.theory.specs.Finding.{First}
use Rattle.sheet.specs.Field.{refused}
use Rattle.sheet.specs.Answer.{by_rule}
use Rattle.sheet.specs.Graph.Laws.{first-fault}
use Rattle.part.specs.Part.{cluster_field, held_field}
use Rattle.part.specs.Tallies.Plan.{few-run, no_cluster, asks, all_listed}
use Rattle.part.specs.Tallies.Answers.{tallied-refused}
use Rattle.part.proofs.put_cluster.Goals as goal

-- an over sheet is refused
over : (g : SizedGraph) (c : ℕ) {first set : ℕ} → finding_of g.graph ≡ First first set → held_field g c ≡ refused 11
over g c q = ap (λ (k : ℕ). by_rule k (cluster_field g c)) (first-fault g.graph q)

pub judge_on-requires : goal.judge_on-requires
judge_on-requires c = (c.requires, record { slots_blank = refl; parts_blank = refl; joints_blank = refl })

pub returns-in_default : goal.returns-in_default
returns-in_default c = tallied-refused (over _ c.args.c c.in_default.ensures)

pub overflow_add-h : goal.overflow_add-h
overflow_add-h c = omega (arith, few-run c.args.sizes.now c.requires c.in-Ok.ensures, c.requires.few)

pub returns-then-h-found : goal.returns-then-h-found
returns-then-h-found c = tallied-refused (no_cluster c.args.sizes.now c.requires c.in-Ok.ensures c.args.c c.if-h-found.true)

-- the number of a cluster
pub put_part-all-requires : goal.put_part-all-requires
put_part-all-requires c =
    let asked = asks c.args.sizes.now c.requires c.in-Ok.ensures c.args.c (omega (arith, c.if-h-found.false)) in
    record { e_bound = asked.0; room = asked.1; numerals = c.numerals-text.ensures }

pub returns : goal.returns
returns c =
    all_listed c.args.sizes.now c.requires c.in-Ok.ensures c.args.c (omega (arith, c.if-h-found.false)) c.put_part-all.ensures
