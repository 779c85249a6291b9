-- Elements with two neighbours at most. Assumes nothing.
use Rattle.std.specs.Prelude.{◌≡◌, ◌≢◌, ◌-◌, ◌^◌, ◌≤◌, ◌<◌}
use Rattle.theory.specs.Prelude.{sym, ap, ◌∙◌, subst, inl, inr, List, ℕ, zero, suc, ℕ_discrete, dec_le, arith, bit_and, ones}
use Rattle.theory.specs.Prelude.{count_trailing_zeros, get_or, pow-lt}
use Rattle.theory.specs.Set.{◌∈◌, ◌∩◌, ◌∪◌, ◌⊑◌, at, full}
use Rattle.theory.specs.Set.Laws.{at-∪, at-le, at_zero, at_same, at_other, bit, size-zero, size_none, ⊑⇒size≤, ⊑_refl, ∩-comm, ∩-mono, both, out, below-full}
use Rattle.theory.specs.Set.Less.{drop-low, at-below, less-same, less_other, less-sub, less-out, less-in}
use Rattle.sets.specs.Each.{Each}
use Rattle.sets.specs.Each.Laws.{each_none, each_next, each_all, each_in}
use Rattle.peeling.specs.Core.{Light, Heavy, Mutual}

pub near_sub : (m u v : ℕ) → u ⊑ v → ones (m ∩ u) ≤ ones (m ∩ v)
near_sub m u v h = ⊑⇒size≤ (m ∩ v) (m ∩ u) (∩-mono (⊑_refl m) h)

-- without its lowest element a set has one element less
one_fewer : (k p : ℕ) → p ≡ k ∩ (k - 1) → ones p ≡ ones k - 1
unfolding ◌∩◌
one_fewer zero p e = ap ones e ∙ size-zero ∙ sym (ap (λ (n : ℕ). n - 1) size-zero)
one_fewer (suc k) p e = omega (arith, ap ones e, drop-low (suc k) (omega arith))

-- without its two lowest elements a set is empty
module _ (k : ℕ) {p q : ℕ} (ep : p ≡ k ∩ (k - 1)) (eq : q ≡ p ∩ (p - 1)) where
  pub two-most : q ≡ 0 → ones k ≤ 2
  two-most z = omega (arith, one_fewer k p ep, one_fewer p q eq, ap ones z, size-zero)

  pub three-least : q ≢ 0 → 3 ≤ ones k
  three-least n = elim (dec_le 1 (ones q)) [
    | yes h ↦ omega (arith, one_fewer k p ep, one_fewer p q eq)
    | no h ↦ absurd (n (size_none q (omega arith)))
  ]

pub full_at : (n x : ℕ) → x < n → x ∈ full n
full_at n x l = omega (arith, (below-full n (2 ^ x) (pow-lt l)).le x, at_same x, at-le x (full n))

-- ---- the elements of who are tried, lowest first

-- those passed are found light, or have three neighbours
pub record Tried (near : List ℕ) (left who rest light : ℕ) : Type 0 where
  pub each : Each (λ x. at x light ≡ 0 → 3 ≤ ones (get_or near x 0 ∩ left)) who rest
  pub found : Light near left light

pub tried-none : (near : List ℕ) (left : ℕ) {who : ℕ} → who < 2 ^ 64 → Tried near left who who 0
tried-none near left l = record { each = each_none l; found = record { light = λ x e. absurd (omega (arith, at_zero x)) } }

module _ {near : List ℕ} {left who rest light : ℕ} (inside : who ⊑ left) (w : Tried near left who rest light) (some : rest ≢ 0)
    {x after : ℕ} (lowest : x ≡ count_trailing_zeros 64 rest) (gone : after ≡ bit_and rest (rest - 1)) where
  pub tried-light : {new : ℕ} → new ≡ light ∪ 2 ^ x → ones (get_or near x 0 ∩ left) ≤ 2 → Tried near left who after new
  tried-light is two = rw (gone, is) (record {
    each = each_next w.each some (λ y i h o. h (omega (arith, at-∪ y light (2 ^ x))))
        (λ o. absurd (omega (arith, o, ap (λ (z : ℕ). at z (light ∪ 2 ^ x)) lowest, at-∪ x light (2 ^ x), at_same x)));
    found = record { light = λ y i. by y i (ℕ_discrete y x) };
  })
    where
      by : (y : ℕ) → y ∈ light ∪ 2 ^ x → Dec (y ≡ x) → (y ∈ left) × (ones (get_or near y 0 ∩ left) ≤ 2)
      by y i (yes e) = subst (λ (z : ℕ). (z ∈ left) × (ones (get_or near z 0 ∩ left) ≤ 2)) (sym e)
          (omega (arith, inside.le x, at-le x left, each_in w.each some, ap (λ (z : ℕ). at z who) lowest), two)
      by y i (no n) = w.found.light y (omega (arith, i, at-∪ y light (2 ^ x), at_other y x n))

  pub tried-heavy : 3 ≤ ones (get_or near x 0 ∩ left) → Tried near left who after light
  tried-heavy three = rw gone (record {
    each = each_next w.each some (λ y i h. h) (λ o. subst (λ (z : ℕ). 3 ≤ ones (get_or near z 0 ∩ left)) lowest three);
    found = w.found;
  })

pub tried-all : {near : List ℕ} {left who rest light : ℕ} → Tried near left who rest light → rest ≡ 0 → Light near left light × Heavy near left who light
tried-all w z = (w.found, record { heavy = λ x i o. each_all w.each z x i o })

-- ---- light elements are taken away

-- those that are left when x is taken away are light still
pub light-rest : (near : List ℕ) (u todo x : ℕ) → Light near u todo → x ∈ u → x ∈ todo → Light near (u - 2 ^ x) (todo - 2 ^ x)
light-rest near u todo x t e h = record {
  light = λ y q. elim (ℕ_discrete y x) [
    | yes p ↦ absurd (omega (arith, q, ap (λ (z : ℕ). at z (todo - 2 ^ x)) p, less-same x todo h))
    | no n ↦ let o = t.light y (sym (less_other x y todo h n) ∙ q) in
        (less_other x y u e n ∙ o.0, omega (arith, o.1, near_sub (get_or near y 0) (u - 2 ^ x) u (less-sub x u e)))
  ];
}

-- those of around are left out of account
pub heavy-but : (near : List ℕ) (u todo around : ℕ) → Heavy near u u todo → Heavy near u u (todo ∪ around)
heavy-but near u todo around h = record { heavy = λ y i o. h.heavy y i (omega (arith, at-∪ y todo around)) }

-- and are tried
pub heavy-with : (near : List ℕ) (u todo around r : ℕ) → Heavy near u u (todo ∪ around) → Heavy near u (around ∩ u) r → Heavy near u u (todo ∪ r)
heavy-with near u todo around r h g = record {
  heavy = λ y i o. elim (bit (at y around) (at-le y around)) [
    | inl n ↦ h.heavy y i (omega (arith, at-∪ y todo around, at-∪ y todo r))
    | inr n ↦ g.heavy y (both y around u n i) (omega (arith, at-∪ y todo r))
  ];
}

-- x is taken away, whose neighbours are in around: the others lose none
pub heavy-less : (near : List ℕ) (u todo around x : ℕ) → u < 2 ^ 64 → Mutual near → x ∈ u → x ∈ todo → get_or near x 0 ⊑ around
    → Heavy near u u (todo ∪ around) → Heavy near (u - 2 ^ x) (u - 2 ^ x) ((todo - 2 ^ x) ∪ around)
heavy-less near u todo around x small m e t s h = record {
  heavy = λ y i o.
      let there = less-in x y u e i in
      let either = at-∪ y (todo - 2 ^ x) around in
      let apart : at x (get_or near y 0) ≡ 0 = out x (get_or near y 0)
      (λ k. omega (arith, s.le y, m.back y x (at-below 64 y u small there.0) (at-below 64 x u small e) k)) in
      rw (∩-comm (get_or near y 0) (u - 2 ^ x), less-out x u (get_or near y 0) e apart, ∩-comm u (get_or near y 0))
      (h.heavy y there.0 (omega (arith, at-∪ y todo around, less_other x y todo t (λ q. there.1 (sym q)))));
}
