-- The elements that a cluster reaches by its part of the rim, gathered one element after another. Assumes nothing.
use Rattle.std.specs.Prelude.{◌≡◌, ◌≢◌, ◌⊎◌, ◌-◌, ◌^◌, ◌<◌}
use Rattle.theory.specs.Prelude.{sym, ap, ◌∙◌, subst, inl, inr, List, ℕ, arith, ℕ_discrete, bit_and, bit_or, and_le_l}
use Rattle.theory.specs.Prelude.{count_trailing_zeros}
use Rattle.theory.specs.Set.{◌∈◌, ◌∩◌, ◌∪◌, at}
use Rattle.theory.specs.Set.Laws.{at-∩, at_zero, at-le, both, ∈-∩⁻, ∈-∪⁻, ∈-∪ˡ, ∈-∪ʳ}
use Rattle.theory.specs.Set.Lowest.{lowest-in, rest-lowest, rest-other, at-beyond}
use Rattle.search.specs.State.{linked, beyond, Reached, Outs}

-- once and twice are the elements linked to one and to two elements of x that lie not in rest
pub record Seen (links : List ℕ) (x rest once twice : ℕ) : Type 0 where
  pub fits : rest < 2 ^ 64
  pub within : (p : ℕ) → p ∈ rest → p ∈ x
  pub once_only : (r : ℕ) → r ∈ once → (p : ℕ) × (p ∈ x) × (at p rest ≡ 0) × (r ∈ linked links p)
  pub once_every : (p r : ℕ) → p ∈ x → at p rest ≡ 0 → r ∈ linked links p → r ∈ once
  pub twice_only : (r : ℕ) → r ∈ twice
      → (p : ℕ) × (q : ℕ) × (p ≢ q) × (p ∈ x) × (q ∈ x) × (r ∈ linked links p) × (r ∈ linked links q)
  pub twice_every : (p q r : ℕ) → p ≢ q → p ∈ x → q ∈ x → at p rest ≡ 0 → at q rest ≡ 0 → r ∈ linked links p
      → r ∈ linked links q → r ∈ twice

pub seen_none : {links : List ℕ} {x : ℕ} → x < 2 ^ 64 → Seen links x x 0 0
seen_none l = record {
  fits = l;
  within = λ p e. e;
  once_only = λ r e. absurd (omega (arith, at_zero r));
  once_every = λ p r i o e. absurd (omega arith);
  twice_only = λ r e. absurd (omega (arith, at_zero r));
  twice_every = λ p q r n i j o e f g. absurd (omega arith);
}

module _ {links : List ℕ} {x rest once twice : ℕ} (w : Seen links x rest once twice) where
  module _ (some : rest ≢ 0) where
    p₀ : ℕ
    p₀ = count_trailing_zeros 64 rest

    p₀-in : p₀ ∈ rest
    unfolding p₀
    p₀-in = lowest-in 64 rest w.fits some

    less : (p : ℕ) → at p rest ≡ 0 → at p (bit_and rest (rest - 1)) ≡ 0
    unfolding ◌∩◌
    less p e = omega (arith, at-∩ p rest (rest - 1))

    kept : (p : ℕ) → p ≢ p₀ → at p (bit_and rest (rest - 1)) ≡ 0 → at p rest ≡ 0
    unfolding p₀
    kept p n e = sym (rest-other rest w.fits some p n) ∙ e

    at-p₀ : (p r : ℕ) → p ≡ p₀ → r ∈ linked links p → r ∈ linked links p₀
    at-p₀ p r e h = subst (λ (z : ℕ). r ∈ linked links z) e h

    pub seen_next : Seen links x (bit_and rest (rest - 1)) (bit_or once (linked links (count_trailing_zeros 64 rest)))
        (bit_or twice (bit_and once (linked links (count_trailing_zeros 64 rest))))
    unfolding ◌∩◌ ◌∪◌ p₀
    seen_next = record {
      fits = omega (arith, w.fits, and_le_l rest (rest - 1));
      within = λ p e. w.within p (∈-∩⁻ p rest (rest - 1) e).0;
      once_only = λ r e. once-of r (∈-∪⁻ r once l e);
      once_every = λ p r i o e. once-at p r i o e (ℕ_discrete p p₀);
      twice_only = λ r e. twice_of r (∈-∪⁻ r twice (once ∩ l) e);
      twice_every = λ p q r n i j o m e f. twice-at p q r n i j o m e f (ℕ_discrete p p₀) (ℕ_discrete q p₀);
    }
      where
        l : ℕ
        l = linked links (count_trailing_zeros 64 rest)

        gone : at p₀ (bit_and rest (rest - 1)) ≡ 0
        gone = rest-lowest rest w.fits some

        once-of : (r : ℕ) → (r ∈ once) ⊎ (r ∈ l)
            → (p : ℕ) × (p ∈ x) × (at p (bit_and rest (rest - 1)) ≡ 0) × (r ∈ linked links p)
        once-of r (inl e) = let h = w.once_only r e in (h.0, h.1, less h.0 h.2, h.3)
        once-of r (inr e) = (p₀, w.within p₀ p₀-in, gone, e)

        once-at : (p r : ℕ) → p ∈ x → at p (bit_and rest (rest - 1)) ≡ 0 → r ∈ linked links p → Dec (p ≡ p₀) → r ∈ once ∪ l
        once-at p r i o e (yes h) = ∈-∪ʳ r once l (at-p₀ p r h e)
        once-at p r i o e (no n) = ∈-∪ˡ r once l (w.once_every p r i (kept p n o) e)

        twice_of : (r : ℕ) → (r ∈ twice) ⊎ (r ∈ once ∩ l)
            → (p : ℕ) × (q : ℕ) × (p ≢ q) × (p ∈ x) × (q ∈ x) × (r ∈ linked links p) × (r ∈ linked links q)
        twice_of r (inl e) = w.twice_only r e
        twice_of r (inr e) =
            let b = ∈-∩⁻ r once l e in
            let h = w.once_only r b.0 in
            (h.0, p₀, λ z. omega (arith, h.2, p₀-in, ap (λ (y : ℕ). at y rest) z), h.1, w.within p₀ p₀-in, h.3, b.1)

        twice-at : (p q r : ℕ) → p ≢ q → p ∈ x → q ∈ x → at p (bit_and rest (rest - 1)) ≡ 0 → at q (bit_and rest (rest - 1)) ≡ 0
            → r ∈ linked links p → r ∈ linked links q → Dec (p ≡ p₀) → Dec (q ≡ p₀) → r ∈ twice ∪ (once ∩ l)
        twice-at p q r n i j o m e f (yes g) (yes h) = absurd (n (g ∙ sym h))
        twice-at p q r n i j o m e f (yes g) (no h) =
            ∈-∪ʳ r twice (once ∩ l) (both r once l (w.once_every q r j (kept q h m) f) (at-p₀ p r g e))
        twice-at p q r n i j o m e f (no g) (yes h) =
            ∈-∪ʳ r twice (once ∩ l) (both r once l (w.once_every p r i (kept p g o) e) (at-p₀ q r h f))
        twice-at p q r n i j o m e f (no g) (no h) =
            ∈-∪ˡ r twice (once ∩ l) (w.twice_every p q r n i j (kept p g o) (kept q h m) e f)

  pub seen_all : (y : ℕ) → rest ≡ 0 → Outs links y x (beyond twice y)
  seen_all y z = record { only = λ r e. only r e; every = λ r h. every r h }
    where
      none : (p : ℕ) → at p rest ≡ 0
      none p = ap (at p) z ∙ at_zero p

      only : (r : ℕ) → r ∈ beyond twice y → Reached links y x r
      only r e =
          let b = at-beyond r twice y in
          let h = w.twice_only r (omega (arith, at-le r twice)) in
          record { p = h.0; q = h.1; differ = h.2; p_in = h.3; q_in = h.4; by_p = h.5; by_q = h.6; out = omega (arith, at-le r twice) }

      every : (r : ℕ) → Reached links y x r → r ∈ beyond twice y
      every r h =
          omega (
            arith,
            at-beyond r twice y,
            h.out,
            w.twice_every h.p h.q r h.differ h.p_in h.q_in (none h.p) (none h.q) h.by_p h.by_q,
          )
