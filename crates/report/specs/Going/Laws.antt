-- A piece put, and the last one. Assumes nothing.
use Rattle.std.specs.Prelude.{◌+◌, ◌≡◌, ◌++◌}
use Rattle.theory.specs.Prelude.{ℕ, List, [], length}
use Rattle.report.specs.Going.{Standing, Composes, Going}

pub start : {P : Standing} {space : List ℕ} {at : ℕ} (whole : List ℕ) → Going P space at whole space at whole
start whole = record { last = λ p. p }

module _ {P : Standing} (law : Composes P) {space whole s1 xs : List ℕ} {at a1 : ℕ} where
  -- the rest begins with ys, which are put
  pub put_next : {s2 ys zs : List ℕ} {a2 : ℕ} → xs ≡ ys ++ zs → Going P space at whole s1 a1 xs → P s1 a1 ys a2 s2 → Going P space at whole s2 a2 zs
  put_next e g p = record { last = λ q. (rw e at g).last (law.both p q) }

  pub put_last : xs ≡ [] → Going P space at whole s1 a1 xs → P space at whole a1 s1
  put_last e g = (rw e at g).last (law.none _ _)

  -- the place after the whole is the place after the rest
  pub place : Going P space at whole s1 a1 xs → a1 + length xs ≡ at + length whole
  place g = law.next (g.last (law.some s1 a1 xs).1)
