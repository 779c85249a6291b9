-- A walk over a set, lowest element first: what the next step gives, `rest` being the elements that are still to come. Assumes nothing.
use Rattle.std.specs.Prelude.{◌≡◌, ◌≢◌, ◌-◌, Option, MatchOption, bit_and}
use Rattle.std.specs.Int.Count.{count_trailing_zeros}
use Rattle.theory.specs.Prelude.{ℕ}

abbrev pub Next : ℕ → Option ℕ → ℕ → Type 0
Next rest got left = MatchOption got ((rest ≡ 0) × (left ≡ 0)) (λ x. (rest ≢ 0) × (x ≡ count_trailing_zeros 64 rest) × (left ≡ bit_and rest (rest - 1)))
