-- `search::call_up` meets its contract: word after word, then element after element. Assumes nothing.
use Rattle.std.specs.Prelude.{◌≡◌, ◌+◌, ◌*◌, ◌<◌}
use Rattle.theory.specs.Prelude.{List, ℕ, bit_or, length, get_or}
use Rattle.theory.specs.Set.{◌∈◌}
use Rattle.sets.specs.Each.{Each}
use Rattle.sets.specs.Image.Laws.{Joined}
use Rattle.search.specs.Words.{replaced_at}
use Rattle.search.proofs.Storing.{Placed}
use Rattle.search.proofs.call_up.Given as goal

abbrev pub invariant-loop-w : goal.invariant-loop-w
invariant-loop-w l = Placed (λ v. v) (λ v. replaced_at l.dead l.made v (get_or l.initial.todo v 0)) l.initial.todo l.todo l.w

-- word v has the entries of the elements passed
abbrev pub Passed : List ℕ → ℕ → ℕ → List ℕ → ℕ → Type 0
Passed hold o rest todo v = Each (Joined (λ z. get_or hold (64 * v + z) 0) (get_or todo v 0)) o rest

abbrev pub invariant-loop-z : goal.invariant-loop-z
invariant-loop-z l = record {
  can_next : (goal.iterator-loop-z).can_next l.z-iterator;
  is_finite : (goal.iterator-loop-z).is_finite l.z-iterator;
  long : length l.todo ≡ 3;
  kept : (v x : ℕ) → v < 3 → x ∈ get_or l.initial.todo v 0 → x ∈ get_or l.todo v 0;
  passed : (v : ℕ) → v < 3 → Passed l.hold l.o l.z-iterator.rest l.todo v;
}

abbrev pub invariant-loop-w-2 : goal.invariant-loop-w-2
invariant-loop-w-2 l =
    Placed (λ v. v) (λ v. bit_or (get_or l.initial.todo v 0) (get_or l.hold (64 * v + l.z) 0)) l.initial.todo l.todo l.w
