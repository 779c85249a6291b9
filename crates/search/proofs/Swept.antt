-- The waiting clusters, looked through word after word, each from below. Assumes nothing.
use Rattle.std.specs.Prelude.{◌≡◌, ◌≢◌, ◌⊎◌, ◌+◌, ◌-◌, ◌*◌, ◌/◌, ◌%◌, ◌^◌, ◌≤◌, ◌<◌}
use Rattle.theory.specs.Prelude.{sym, ap, ◌∙◌, subst, inl, inr, List, ℕ, arith, ℕ_discrete, bit_and}
use Rattle.theory.specs.Prelude.{count_trailing_zeros, length, get_or, set, length-set, get_or-set_same, get_or-set_other}
use Rattle.theory.specs.Set.{◌∩◌, at}
use Rattle.theory.specs.Set.Laws.{at_zero, ∈-∩⁻, element, filled}
use Rattle.theory.specs.Merge.{slot}
use Rattle.theory.specs.Set.Lowest.{lowest-in, lowest-least, lowest-below, rest-other}
use Rattle.search.specs.State.{waits, Outs, Reaching, Wanted, Kept, Lowest}

-- the words below w are empty, and what left reaches nothing
pub record Swept (s links : List ℕ) (rim : ℕ) (todo now : List ℕ) (w : ℕ) : Type 0 where
  pub long : length now ≡ 3
  pub kept : Kept s links rim todo now
  pub less : (c : ℕ) → waits now c ≡ 1 → waits todo c ≡ 1
  pub empty : (c : ℕ) → c / 64 < w → waits now c ≡ 0

module _ {s links : List ℕ} {rim : ℕ} {todo : List ℕ} where
  pub swept_none : length todo ≡ 3 → Swept s links rim todo todo 0
  unfolding Kept
  swept_none l = record { long = l; kept = λ c e. inl e; less = λ c e. e; empty = λ c h. absurd (omega arith) }

  module _ {now : List ℕ} {w : ℕ} (h : Swept s links rim todo now w) where
    here-word : {rest : ℕ} → get_or now w 0 ≡ rest → (c : ℕ) → c / 64 ≡ w → waits now c ≡ at (c % 64) rest
    here-word is c e = ap (at (c % 64)) (ap (λ (v : ℕ). get_or now v 0) e ∙ is)

    pub swept-next : get_or now w 0 ≡ 0 → Swept s links rim todo now (w + 1)
    swept-next none = record { long = h.long; kept = h.kept; less = h.less; empty = λ c l. empty c l (ℕ_discrete (c / 64) w) }
      where
        empty : (c : ℕ) → c / 64 < w + 1 → Dec (c / 64 ≡ w) → waits now c ≡ 0
        empty c l (yes e) = here-word none c e ∙ at_zero (c % 64)
        empty c l (no n) = h.empty c (omega (arith, n))

    -- nothing waits that reaches an element
    pub swept-end : 3 ≤ w → Lowest (Wanted s links rim todo) 0 192 192
    unfolding Kept
    swept-end every = record {
      low = omega arith;
      high = omega arith;
      here = λ k. absurd (omega arith);
      none = λ c k m q. none c m q (h.kept c q.0);
    }
      where
        none : (c : ℕ) → c < 192 → Wanted s links rim todo c → (waits now c ≡ 1) ⊎ (Reaching s links rim c → ⊥) → ⊥
        none c m q (inr x) = x q.1
        none c m q (inl e) = omega (arith, h.empty c (omega arith))

    -- x is the lowest of word w, and o what its cluster reaches
    module _ (below : w < 3) {rest : ℕ} (is : get_or now w 0 ≡ rest) (fits : rest < 2 ^ 64) (some : rest ≢ 0) {x o : ℕ}
        (lowest : x ≡ count_trailing_zeros 64 rest) (outs : Outs links (slot s (64 * w + x)) (slot s (64 * w + x) ∩ rim) o) where
      pub swept-found : o ≢ 0 → Lowest (Wanted s links rim todo) 0 192 (64 * w + x)
      unfolding Kept
      swept-found reaches =
          let l = lowest-below 64 rest fits some in
          record {
            low = omega arith;
            high = omega (arith, lowest);
            here = λ k. (
              h.less (64 * w + x) (here-word is (64 * w + x) (omega (arith, lowest)) ∙ ap (λ (y : ℕ). at y rest) (omega (arith, lowest))
                  ∙ lowest-in 64 rest fits some),
              let (r, e) = element o reaches in (r, outs.only r e),
            );
            none = λ c k m q. none c m q (h.kept c q.0) (ℕ_discrete (c / 64) w);
          }
        where
          none : (c : ℕ) → c < 64 * w + x → Wanted s links rim todo c → (waits now c ≡ 1) ⊎ (Reaching s links rim c → ⊥) → Dec (c / 64 ≡ w) → ⊥
          none c m q (inr n) d = n q.1
          none c m q (inl e) (yes f) = omega (arith, lowest, lowest-least 64 rest (c % 64) (sym (here-word is c f) ∙ e))
          none c m q (inl e) (no f) = omega (arith, h.empty c (omega (arith, f, lowest, lowest-below 64 rest fits some)))

      -- it waits no more
      pub swept-less : o ≡ 0 → Swept s links rim todo (set now w (bit_and rest (rest - 1))) w
      unfolding Kept ◌∩◌
      swept-less nothing = record {
        long = length-set now w _ ∙ h.long;
        kept = λ c e. kept c (h.kept c e) (ℕ_discrete (c / 64) w) (ℕ_discrete (c % 64) x);
        less = λ c e. less c e (ℕ_discrete (c / 64) w);
        empty = λ c l. there c (λ e. omega arith) ∙ h.empty c l;
      }
        where
          here : (c : ℕ) → c / 64 ≡ w → waits (set now w (bit_and rest (rest - 1))) c ≡ at (c % 64) (bit_and rest (rest - 1))
          here c e =
              ap (at (c % 64)) (ap (λ (v : ℕ). get_or (set now w (bit_and rest (rest - 1))) v 0) e
              ∙ get_or-set_same now w _ 0 (omega (arith, h.long)))

          there : (c : ℕ) → c / 64 ≢ w → waits (set now w (bit_and rest (rest - 1))) c ≡ waits now c
          there c n = ap (at (c % 64)) (get_or-set_other now w (c / 64) _ 0 n)

          less : (c : ℕ) → waits (set now w (bit_and rest (rest - 1))) c ≡ 1 → Dec (c / 64 ≡ w) → waits todo c ≡ 1
          less c e (yes f) = h.less c (here-word is c f ∙ (∈-∩⁻ (c % 64) rest (rest - 1) (sym (here c f) ∙ e)).0)
          less c e (no n) = h.less c (sym (there c n) ∙ e)

          kept : (c : ℕ) → (waits now c ≡ 1) ⊎ (Reaching s links rim c → ⊥) → Dec (c / 64 ≡ w) → Dec (c % 64 ≡ x)
              → (waits (set now w (bit_and rest (rest - 1))) c ≡ 1) ⊎ (Reaching s links rim c → ⊥)
          kept c (inr n) d f = inr n
          kept c (inl e) (no n) f = inl (there c n ∙ e)
          kept c (inl e) (yes d) (no n) =
              inl (here c d ∙ rest-other rest fits some (c % 64) (λ f. n (f ∙ sym lowest)) ∙ sym (here-word is c d) ∙ e)
          kept c (inl e) (yes d) (yes f) =
              inr (λ r. let (y, q) = subst (Reaching s links rim) (omega arith) r in filled o y (outs.every y q) nothing)
