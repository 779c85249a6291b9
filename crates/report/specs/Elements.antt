-- The elements of a set, and the constraint numbers of a set of those, listed. Assumes nothing.
use Rattle.std.specs.Prelude.{ℕ, zero, suc, List, [], ◌∷◌}
use Rattle.theory.specs.Set.{at}
pub mod Laws

-- x before the others, if its digit is 1
abbrev pub member : ℕ → ℕ → List ℕ → List ℕ
member zero x xs = xs
member (suc d) x xs = x ∷ xs

-- the elements of a among the k numbers from x on, ascending
unfoldable pub among : ℕ → ℕ → ℕ → List ℕ
among zero x a = []
among (suc k) x a = member (at x a) x (among k (suc x) a)

-- the elements of a, ascending; a sheet's are below 64
unfoldable pub elements : ℕ → List ℕ
elements a = among 64 0 a

-- the constraint numbers of a set, ascending; a sheet's are below 200
unfoldable pub constraints_of : ℕ → List ℕ
constraints_of r = among 200 0 r
