-- `plans::check_end` meets its contract: where one cluster is left no merge is open, and else the search decides. Assumes nothing.
use Rattle.std.specs.Prelude.{◌≡◌}
use Rattle.theory.specs.Prelude.{ℕ, arith, sym, ap, ◌∙◌, List, [], Bool, true, false}
use Rattle.theory.specs.Merge.{final, left, Ended}
use Rattle.theory.specs.Merge.Count.{left-put, steps-left}
use Rattle.theory.specs.Plan.{first_of, is_some}
use Rattle.theory.specs.Plan.Laws.{none_is}
use Rattle.merges.specs.Run.Laws.{one-left-true}
use Rattle.plans.specs.Check.{steps_fault}
use Rattle.plans.proofs.check_end.Goals as goal
use Rattle.plans.proofs.check_end.Goals.{else-not-one_left-via-then-not-one_left+else-some_open, else-not-one_left-via-else-not-one_left}

-- one cluster is left
one_ended : (s : List ℕ) → left s ≡ 1 → Ended s
unfolding Ended
one_ended s e = λ m o. omega (arith, left-put s m o)

-- whether a merge is open decides
end_is : (s : List ℕ) (b : Bool) → b ≡ is_some (first_of 0 s) → ◌≡◌ {A = ℕ} (elim b [ true ↦ 16 | false ↦ 0 ]) (steps_fault s [])
unfolding steps_fault
end_is s b e t = elim (e t) [ true ↦ 16 | false ↦ 0 ]

pub returns-then-some_open : goal.returns-then-some_open
returns-then-some_open c = λ cs p fine n s. end_is (final cs p) true (sym c.if-some_open.true ∙ c.some_open.ensures cs p fine s)

pub returns : goal.returns
returns c = λ cs p fine n s. elim c.else-not-one_left.branch [
  | else-not-one_left-via-then-not-one_left+else-some_open w ↦
      end_is (final cs p) false (sym w.if-some_open.false ∙ w.some_open.ensures cs p fine s)
  | else-not-one_left-via-else-not-one_left w ↦
      let a = c.args in
      let one = one-left-true a.e a.steps (sym c.one_left.ensures ∙ w.if-not-one_left.false) in
      let l : left (final cs p) ≡ 1 = omega (arith, steps-left cs s.pairs p s.valid, s.count, one, n) in
      end_is (final cs p) false (sym (ap is_some (none_is (final cs p) (one_ended (final cs p) l))))
]
