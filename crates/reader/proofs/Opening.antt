-- An opening stands in front of the bytes where they start with it. Assumes nothing.
use Rattle.std.specs.Prelude.{◌≡◌, ◌∷◌, ◌&&◌}
use Rattle.std.specs.List.{starts_with}
use Rattle.theory.specs.Prelude.{ℕ, refl, sym, ap₂, ◌∙◌, Bool, List, [], eqb, eq-eqb, ne_eqb, ℕ_discrete}
use Rattle.sheet.specs.Field.{begins}

turned : (a b : ℕ) → eqb a b ≡ eqb b a
turned a b = elim (ℕ_discrete a b) [
  | yes e ↦ eq-eqb a b e ∙ sym (eq-eqb b a (sym e))
  | no n ↦ ne_eqb a b n ∙ sym (ne_eqb b a (λ e. n (sym e)))
]

pub starts-begins : (p s : List ℕ) → starts_with eqb s p ≡ begins p s
starts-begins [] s = refl
starts-begins (a ∷ p) [] = refl
starts-begins (a ∷ p) (b ∷ s) = ap₂ (λ (x y : Bool). x && y) (turned a b) (starts-begins p s)
