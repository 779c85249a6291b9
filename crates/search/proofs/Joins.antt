-- The lowest cluster that holds two elements, word after word. Assumes nothing.
use Rattle.std.specs.Prelude.{◌≡◌, ◌≢◌, ◌+◌, ◌*◌, ◌/◌, ◌%◌, ◌^◌, ◌≤◌, ◌<◌}
use Rattle.theory.specs.Prelude.{sym, ap, ◌∙◌, List, ℕ, arith, ℕ_discrete, bit_and, count_trailing_zeros, get_or}
use Rattle.theory.specs.Set.{◌∈◌, ◌∩◌, at}
use Rattle.theory.specs.Set.Laws.{at_zero, both, ∈-∩⁻}
use Rattle.theory.specs.Set.Lowest.{lowest-in, lowest-least, lowest-below}
use Rattle.search.specs.State.{Lowest, Both}

-- no cluster below word w holds both
abbrev pub Apart : List ℕ → ℕ → ℕ → ℕ → Type 0
Apart hold x z w = (c : ℕ) → c < 64 * w → Both hold x z c → ⊥

module _ (hold : List ℕ) (x z : ℕ) where
  -- word w of those that hold both
  shared : ℕ → ℕ
  shared w = bit_and (get_or hold (64 * w + x) 0) (get_or hold (64 * w + z) 0)

  in-shared : (c w : ℕ) → c / 64 ≡ w → (c % 64 ∈ shared w → Both hold x z c) × (Both hold x z c → c % 64 ∈ shared w)
  unfolding shared ◌∩◌
  in-shared c w e =
      let X = get_or hold (64 * (c / 64) + x) 0 in
      let Z = get_or hold (64 * (c / 64) + z) 0 in
      let same = ap (λ (v : ℕ). at (c % 64) (shared v)) e in
      (λ m. ∈-∩⁻ (c % 64) X Z (same ∙ m), λ b. sym same ∙ both (c % 64) X Z b.0 b.1)

  module _ (w : ℕ) (apart : Apart hold x z w) where
    pub joins-next : bit_and (get_or hold (64 * w + x) 0) (get_or hold (64 * w + z) 0) ≡ 0 → Apart hold x z (w + 1)
    unfolding shared
    joins-next none c l b = by (ℕ_discrete (c / 64) w)
      where
        by : Dec (c / 64 ≡ w) → ⊥
        by (yes e) = omega (arith, (in-shared c w e).1 b, ap (at (c % 64)) none, at_zero (c % 64))
        by (no n) = apart c (omega (arith, n)) b

    pub joins-found : w < 3 → bit_and (get_or hold (64 * w + x) 0) (get_or hold (64 * w + z) 0) < 2 ^ 64
        → bit_and (get_or hold (64 * w + x) 0) (get_or hold (64 * w + z) 0) ≢ 0
        → Lowest (Both hold x z) 0 192
        (64 * w + count_trailing_zeros 64 (bit_and (get_or hold (64 * w + x) 0) (get_or hold (64 * w + z) 0)))
    unfolding shared
    joins-found low fits some =
        let l = lowest-below 64 (shared w) fits some in
        let r = 64 * w + count_trailing_zeros 64 (shared w) in
        record {
          low = omega arith;
          high = omega arith;
          here = λ h. (in-shared r w (omega arith)).0
              (ap (λ (p : ℕ). at p (shared w)) (omega arith) ∙ lowest-in 64 (shared w) fits some);
          none = λ c h k b. none c k b (ℕ_discrete (c / 64) w);
        }
      where
        none : (c : ℕ) → c < 64 * w + count_trailing_zeros 64 (shared w) → Both hold x z c → Dec (c / 64 ≡ w) → ⊥
        none c k b (yes e) = omega (arith, lowest-least 64 (shared w) (c % 64) ((in-shared c w e).1 b))
        none c k b (no n) = apart c (omega (arith, n, lowest-below 64 (shared w) fits some)) b

    pub joins-none : 3 ≤ w → Lowest (Both hold x z) 0 192 192
    joins-none h = record {
      low = omega arith;
      high = omega arith;
      here = λ l. absurd (omega arith);
      none = λ c l k b. apart c (omega arith) b;
    }
