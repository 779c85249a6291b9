-- A sheet's constraints as sets, what a set carries, and what it is not to be over. Document 01, "Clusters and merges", "Every order of
-- merging", "Verdict names". Assumes nothing.
use Rattle.std.specs.Prelude.{◌≡◌, ◌⊎◌, Bool, true, false, List, [], ◌∷◌, ℕ, zero, ◌+◌, ◌*◌, ◌^◌, ◌≤◌, ◌<◌, eqb}
use Rattle.std.specs.Int.Count.{ones}
use Rattle.theory.specs.Set.{◌∩◌, ◌∪◌}
pub mod Laws

-- ---- constraints

-- the set of two elements
unfoldable pub pair : ℕ → ℕ → ℕ
pair u v = 2 ^ u ∪ 2 ^ v

-- x is one of the list
abbrev pub Among : ℕ → List ℕ → Type 0
Among x [] = ⊥
Among x (y ∷ l) = (x ≡ y) ⊎ Among x l

-- each is a set of two elements
unfoldable pub Pairs : List ℕ → Type 0
Pairs cs = (x : ℕ) → Among x cs → ones x ≡ 2

-- each is a set of elements below n
unfoldable pub Below : ℕ → List ℕ → Type 0
Below n cs = (x : ℕ) → Among x cs → x < 2 ^ n

-- the same items, in whichever order they stand
pub data Perm {A : Type 0} : List A → List A → Type 0 where
  same : {l : List A} → Perm l l
  skip : (x : A) {l k : List A} → Perm l k → Perm (x ∷ l) (x ∷ k)
  swap : (x y : A) {l : List A} → Perm (x ∷ y ∷ l) (y ∷ x ∷ l)
  then : {l k m : List A} → Perm l k → Perm k m → Perm l m

-- ---- what a set carries

abbrev pub one_if : Bool → ℕ
one_if true = 1
one_if false = 0

-- 1 if both ends of the constraint m lie in x
unfoldable pub has : ℕ → ℕ → ℕ
has m x = one_if (eqb (m ∩ x) m)

-- how many constraints of the list lie in x
unfoldable pub carried : List ℕ → ℕ → ℕ
carried [] x = zero
carried (m ∷ cs) x = has m x + carried cs x

-- no set of m elements, m at least 2, carries more than 2m-3 constraints: the Laman count, (2,3)-sparsity
unfoldable pub NotOver : List ℕ → Type 0
NotOver cs = (x : ℕ) → 2 ≤ ones x → carried cs x + 3 ≤ 2 * ones x

-- no set of m of the n elements of a sheet, m at least 2, carries more than 2m-3 constraints
unfoldable pub NotOverIn : ℕ → List ℕ → Type 0
NotOverIn n cs = (x : ℕ) → x < 2 ^ n → 2 ≤ ones x → carried cs x + 3 ≤ 2 * ones x
