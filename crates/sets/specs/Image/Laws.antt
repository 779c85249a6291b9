-- The image of a set, gathered one element after another. Assumes nothing.
use Rattle.std.specs.Prelude.{◌≡◌, ◌≢◌, ◌⊎◌, ◌-◌, ◌^◌, ◌≤◌, ◌<◌}
use Rattle.theory.specs.Prelude.{inl, inr, ⊎_elim, List, ℕ, arith, bit_and, bit_or, count_trailing_zeros, get_or}
use Rattle.theory.specs.Set.{◌∈◌, ◌∪◌, ◌⊑◌, at}
use Rattle.theory.specs.Set.Laws.{at_zero, at-le, bit, ∈-∪⁻, ∈-∪ˡ, ∈-∪ʳ}
use Rattle.sets.specs.Each.{Each}
use Rattle.sets.specs.Each.Laws.{each_none, each_next, each_all, each_in}
use Rattle.sets.specs.Image.{Image}

-- what stands in an entry stands in the union gathered
abbrev pub Joined : (ℕ → ℕ) → ℕ → ℕ → Type 0
Joined entry all p = (r : ℕ) → r ∈ entry p → r ∈ all

-- one entry more
pub joined-next : (entry : ℕ → ℕ) (all : ℕ) {set rest : ℕ} → Each (Joined entry all) set rest → rest ≢ 0
    → Each (Joined entry (bit_or all (entry (count_trailing_zeros 64 rest)))) set (bit_and rest (rest - 1))
unfolding ◌∪◌
joined-next entry all {set} {rest} w some =
    let e = entry (count_trailing_zeros 64 rest) in
    each_next w some (λ p i h r m. ∈-∪ˡ r all e (h r m)) (λ r m. ∈-∪ʳ r all e m)

-- the image of the elements passed
pub record Imaged (table : List ℕ) (set rest all : ℕ) : Type 0 where
  pub each : Each (Joined (λ p. get_or table p 0) all) set rest
  pub only : (r : ℕ) → r ∈ all → (p : ℕ) × (p ∈ set) × (r ∈ get_or table p 0)

pub imaged-none : {table : List ℕ} {set : ℕ} → set < 2 ^ 64 → Imaged table set set 0
imaged-none l = record { each = each_none l; only = λ r e. absurd (omega (arith, at_zero r)) }

pub imaged-next : {table : List ℕ} {set rest all : ℕ} → Imaged table set rest all → rest ≢ 0
    → Imaged table set (bit_and rest (rest - 1)) (bit_or all (get_or table (count_trailing_zeros 64 rest) 0))
unfolding ◌∪◌
imaged-next {table} {set} {rest} {all} w some = record {
  each = joined-next (λ p. get_or table p 0) all w.each some;
  only = λ r e. ⊎_elim (w.only r) (λ m. (count_trailing_zeros 64 rest, each_in w.each some, m))
      (∈-∪⁻ r all (get_or table (count_trailing_zeros 64 rest) 0) e);
}

pub imaged-all : {table : List ℕ} {set rest all : ℕ} → Imaged table set rest all → rest ≡ 0 → Image table set all
imaged-all w z = record { only = w.only; every = λ p r e m. each_all w.each z p e r m }

-- the entry at an element is a part of the image
pub image-sub : {table : List ℕ} {set image : ℕ} → Image table set image → (p : ℕ) → p ∈ set → get_or table p 0 ⊑ image
image-sub {table} {set} {image} w p e = record { le = λ r. by r (bit (at r (get_or table p 0)) (at-le r (get_or table p 0))) }
  where
    by : (r : ℕ) → (at r (get_or table p 0) ≡ 0) ⊎ (at r (get_or table p 0) ≡ 1) → at r (get_or table p 0) ≤ at r image
    by r (inl z) = omega arith
    by r (inr m) = omega (arith, w.every p r e m)
