-- Writing piece by piece, into a block or into lent space: what is still to be put, from the place reached, leads to the whole. Assumes nothing.
use Rattle.std.specs.Prelude.{◌+◌, ◌≡◌, ◌++◌}
use Rattle.theory.specs.Prelude.{ℕ, List, [], length}
pub mod Laws

-- how items stand: the space, the place they are put at, the items, the place after them, and the space after
abbrev pub Standing : Type 1
Standing = List ℕ → ℕ → List ℕ → ℕ → List ℕ → Type 0

-- items that stand one after another stand together
pub record Composes (P : Standing) : Type 0 where
  pub none : (space : List ℕ) (at : ℕ) → P space at [] at space
  pub both : {s1 s2 s3 xs ys : List ℕ} {a1 a2 a3 : ℕ} → P s1 a1 xs a2 s2 → P s2 a2 ys a3 s3 → P s1 a1 (xs ++ ys) a3 s3
  pub some : (space : List ℕ) (at : ℕ) (xs : List ℕ) → (after : List ℕ) × P space at xs (at + length xs) after
  pub next : {space after xs : List ℕ} {at r : ℕ} → P space at xs r after → r ≡ at + length xs

-- the items `whole` are put into the space from the place at on; so far it became `after`, and from `next` on there are `rest` to be put
pub record Going (P : Standing) (space : List ℕ) (at : ℕ) (whole after : List ℕ) (next : ℕ) (rest : List ℕ) : Type 0 where
  pub last : {r : ℕ} {s : List ℕ} → P after next rest r s → P space at whole r s
