-- `account::rests` meets its contract: the words in the arrays are those of the definition. Assumes nothing.
use Rattle.std.specs.Prelude.{◌+◌, ◌*◌, ◌≤◌, ◌≡◌}
use Rattle.theory.specs.Prelude.{arith, refl, ◌∙◌, List, ℕ, length, take}
use Rattle.graph.specs.declared.Head.{Head}
use Rattle.graph.specs.Lent.{graph_in, Drawn}
use Rattle.graph.specs.Lent.Sheets.{counted}
use Rattle.merges.specs.Run.{Run, run_in}
use Rattle.judge.specs.declared.Found.{Found}
use Rattle.judge.specs.Found.{FoundIn}
use Rattle.rests.specs.Words.{Told}
use Rattle.account.specs.Resting.{rest_numbers}
use Rattle.account.specs.Resting.Pairs.{pairs_in}
use Rattle.judge.specs.Judged.Laws.{arrays-long}
use Rattle.account.specs.Account.Laws.{room}
use Rattle.account.specs.Account.Answers.{over-found, PlanFound, plan-found}
use Rattle.account.specs.Resting.Laws.{Parts, parts, pairs-are, none-stored}
use Rattle.account.proofs.rests.Goals as goal

-- a sheet that is not over
module _ {h : Head} {near start : List ℕ} (d : Drawn h near start) {f : Found} {triples joints slots : List ℕ}
    (j : FoundIn (graph_in h start) f triples joints slots) where
  abbrev run : Run
  run = run_in f.steps triples joints slots

  plan : PlanFound (graph_in h start) d.sound j
  plan = plan-found _ _ j

  few : (h.n ≤ 64) × (h.e ≤ 125) × (2 * f.steps ≤ h.e) × (f.steps ≤ 62)
  few = room h start d.sound (counted d) plan.not_over {run = run} plan.merged

  long : length slots ≡ 192
  long = (arrays-long (take h.e start) d.sound.simple.pairs {run = run} plan.merged (omega (arith, few, counted d))).1

  made : Parts (counted d) {run = run} plan.merged
  made = parts (counted d) {run = run} plan.merged

  words_are : {low high : List ℕ} → Told 0 (take h.e start) plan.merged.p low → Told 1 (take h.e start) plan.merged.p high
      → pairs_in (take (h.e + f.steps) slots) (take (h.e + f.steps) low) (take (h.e + f.steps) high) ≡ rest_numbers (graph_in h start)
  words_are low high = pairs-are (counted d) {run = run} plan.merged d.sound.simple.pairs few.1 low high ∙ plan.rests_are

pub judge_on-requires : goal.judge_on-requires
judge_on-requires c = (c.requires, record { slots_blank = refl; parts_blank = refl; joints_blank = refl })

-- over
pub returns-in_default : goal.returns-in_default
returns-in_default c =
    none-stored (over-found (graph_in c.args.h c.args.start.now) c.requires.sound c.in_default.ensures).rests_none c.args.out.now

pub carry-requires : goal.carry-requires
carry-requires c =
    let j = c.in-Ok.ensures in
    let f = few c.requires j in
    (f.1, f.3, (made c.requires j).listed, refl, refl)

pub overflow_add-h : goal.overflow_add-h
overflow_add-h c = record { fits = omega (arith, few c.requires c.in-Ok.ensures) }

pub put_rests-requires : goal.put_rests-requires
put_rests-requires c =
    let j = c.in-Ok.ensures in
    let m = made c.requires j in
    let t = c.carry.ensures m.listed in
    (omega (arith, few c.requires j), long c.requires j, (m.told t.0).long, (m.told t.1).long)

pub returns : goal.returns
returns c =
    let j = c.in-Ok.ensures in
    let m = made c.requires j in
    let t = c.carry.ensures m.listed in
    rw (words_are c.requires j (m.told t.0) (m.told t.1)) at c.put_rests.ensures
