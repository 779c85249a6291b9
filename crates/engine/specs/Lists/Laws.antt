-- The living clusters as a list: one cluster more is listed, if it lives; and it holds what lives. Assumes nothing.
use Rattle.std.specs.Prelude.{◌≡◌, ◌≢◌, ◌↔◌, ◌∷◌, ◌++◌, ◌+◌, ◌<◌}
use Rattle.theory.specs.Prelude.{refl, sym, ap, ◌∙◌, inl, inr, List, [], ℕ, zero, suc, arith, add-one, length}
use Rattle.theory.specs.Prelude.{get_or, take, take-suc}
use Rattle.theory.specs.Constraints.{Among}
use Rattle.theory.specs.Merge.{slot, live, left, total}
use Rattle.engine.specs.Lists.{living_of}

living-append : (s t : List ℕ) → living_of (s ++ t) ≡ living_of s ++ living_of t
unfolding living_of
living-append [] t = refl
living-append (zero ∷ s) t = living-append s t
living-append (suc x ∷ s) t = ap (λ (l : List ℕ). suc x ∷ l) (living-append s t)

pub living-next : (s : List ℕ) (c : ℕ) → c < length s → living_of (take (c + 1) s) ≡ living_of (take c s) ++ living_of (get_or s c 0 ∷ [])
living-next s c h = rw (add-one, take-suc s c 0 h) (living-append (take c s) (get_or s c 0 ∷ []))

-- ---- the living clusters

-- each once for each place that it lives at
pub living-live : (s : List ℕ) (x : ℕ) → Among x (living_of s) ↔ live s x
unfolding living_of
living-live s x = (there s, λ h. back s h.0 h.1 h.2)
  where
    there : (s : List ℕ) → Among x (living_of s) → live s x
    there [] h = absurd h
    there (zero ∷ s) h = let r = there s h in (suc r.0, r.1, r.2)
    there (suc y ∷ s) (inl e) = (zero, sym e, λ z. omega (arith, e))
    there (suc y ∷ s) (inr h) = let r = there s h in (suc r.0, r.1, r.2)

    back : (s : List ℕ) (n : ℕ) → slot s n ≡ x → x ≢ 0 → Among x (living_of s)
    back [] n e z = absurd (z (sym e))
    back (zero ∷ s) zero e z = absurd (z (sym e))
    back (zero ∷ s) (suc n) e z = back s n e z
    back (suc y ∷ s) zero e z = inl (sym e)
    back (suc y ∷ s) (suc n) e z = inr (back s n e z)

pub living-count : (s : List ℕ) → length (living_of s) ≡ left s
unfolding living_of left total
living-count [] = refl
living-count (zero ∷ s) = living-count s ∙ omega arith
living-count (suc y ∷ s) = ap suc (living-count s) ∙ omega arith
