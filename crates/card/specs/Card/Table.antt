-- The rule at each entry, from the test over the whole table. Assumes nothing.
use Rattle.std.specs.Prelude.{◌≡◌, ◌∷◌, ◌+◌, ◌<◌}
use Rattle.theory.specs.Prelude.{List, [], ℕ, zero, suc, arith, add-zero, zero-add, add-suc, suc-add, T, eqb, eqb→eq, length}
use Rattle.theory.specs.Prelude.{get_or}
use Rattle.theory.specs.Tests.{and_both}
use Rattle.card.specs.Card.{set_verdict, initial, all_right}

from : (xs : List ℕ) (i : ℕ) → T (all_right i xs) → (k : ℕ) → k < length xs → get_or xs k 0 ≡ initial (set_verdict 5 (i + k))
unfolding all_right
from [] i t k h = absurd (omega arith)
from (x ∷ xs) i t zero h =
    rw add-zero (eqb→eq x (initial (set_verdict 5 i)) (and_both (eqb x (initial (set_verdict 5 i))) (all_right (suc i) xs) t).0)
from (x ∷ xs) i t (suc k) h =
    rw (add-suc, ← suc-add) (from xs (suc i) (and_both (eqb x (initial (set_verdict 5 i))) (all_right (suc i) xs) t).1 k (omega arith))

pub right-at : (xs : List ℕ) → T (all_right 0 xs) → (k : ℕ) → k < length xs → get_or xs k 0 ≡ initial (set_verdict 5 k)
right-at xs t k h = rw zero-add at (from xs 0 t k h)
