-- The decimal digits of a number, by its size. Assumes nothing.
use Rattle.std.specs.Prelude.{ℕ, ◌≤◌, ◌<◌, ◌/◌, ◌%◌, ◌≡◌, Bool, true, false, cond, [], ◌∷◌, ltb, length}
use Rattle.std.proofs.Common.{arith, lt-ltb, le-ltb}
use Rattle.space.specs.Text.{decimal, digit}

pub decimal-1 : (n : ℕ) → n < 10 → decimal n ≡ digit n ∷ []
unfolding decimal
decimal-1 n h = rw (lt-ltb n 10 h)

pub decimal-2 : (n : ℕ) → 10 ≤ n → n < 100 → decimal n ≡ digit (n / 10) ∷ digit (n % 10) ∷ []
unfolding decimal
decimal-2 n a b = rw (le-ltb n 10 a, lt-ltb n 100 b)

pub decimal-3 : (n : ℕ) → 10 ≤ n → 100 ≤ n → decimal n ≡ digit (n / 100) ∷ digit (n / 10 % 10) ∷ digit (n % 10) ∷ []
unfolding decimal
decimal-3 n a b = rw (le-ltb n 10 a, le-ltb n 100 b)

pub decimal-length : (n : ℕ) → length (decimal n) ≤ 3
unfolding decimal
decimal-length n = by_digits (ltb n 10) (ltb n 100)
  where
    by_digits : (a b : Bool) → length
        (cond a (digit n ∷ []) (cond b (digit (n / 10) ∷ digit (n % 10) ∷ []) (digit (n / 100) ∷ digit (n / 10 % 10) ∷ digit (n % 10) ∷ []))) ≤ 3
    by_digits true b = omega arith
    by_digits false true = omega arith
    by_digits false false = omega arith
