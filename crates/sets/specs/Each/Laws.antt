-- A walk over the elements of a set, lowest first: `while rest != 0`, with the lowest element of `rest` looked at and taken away. Assumes nothing.
use Rattle.std.specs.Prelude.{◌≡◌, ◌≢◌, ◌-◌, ◌^◌, ◌<◌}
use Rattle.theory.specs.Prelude.{sym, ap, ◌∙◌, subst, ℕ, arith, ℕ_discrete, bit_and, and_le_l, and_le_r, count_trailing_zeros}
use Rattle.theory.specs.Set.{◌∈◌, ◌∩◌, at}
use Rattle.theory.specs.Set.Laws.{at_zero, ∈-∩⁻}
use Rattle.theory.specs.Set.Lowest.{lowest-in, lowest-below, rest-other}
use Rattle.sets.specs.Each.{Each}

pub each_none : {P : ℕ → Type 0} {set : ℕ} → set < 2 ^ 64 → Each P set set
each_none l = record { fits = l; within = λ p e. e; passed = λ p e o. absurd (omega arith) }

pub each_all : {P : ℕ → Type 0} {set rest : ℕ} → Each P set rest → rest ≡ 0 → (p : ℕ) → p ∈ set → P p
each_all w z p e = w.passed p e (ap (at p) z ∙ at_zero p)

module _ {P : ℕ → Type 0} {set rest : ℕ} (w : Each P set rest) (some : rest ≢ 0) where
  pub each-lowest : count_trailing_zeros 64 rest < 64
  each-lowest = lowest-below 64 rest w.fits some

  pub each_in : count_trailing_zeros 64 rest ∈ set
  each_in = w.within (count_trailing_zeros 64 rest) (lowest-in 64 rest w.fits some)

  pub each-less : bit_and rest (rest - 1) < rest
  each-less = omega (arith, and_le_r rest (rest - 1))

  pub each_next : {Q : ℕ → Type 0} → ((p : ℕ) → p ∈ set → P p → Q p) → Q (count_trailing_zeros 64 rest) → Each Q set (bit_and rest (rest - 1))
  unfolding ◌∩◌
  each_next {Q} keep here = record {
    fits = omega (arith, w.fits, and_le_l rest (rest - 1));
    within = λ p e. w.within p (∈-∩⁻ p rest (rest - 1) e).0;
    passed = λ p e o. by p e o (ℕ_discrete p (count_trailing_zeros 64 rest));
  }
    where
      by : (p : ℕ) → p ∈ set → at p (bit_and rest (rest - 1)) ≡ 0 → Dec (p ≡ count_trailing_zeros 64 rest) → Q p
      by p e o (yes h) = subst Q (sym h) here
      by p e o (no n) = keep p e (w.passed p e (sym (rest-other rest w.fits some p n) ∙ o))
