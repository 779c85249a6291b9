-- Two words for each living cluster, from three arrays. Assumes nothing.
use Rattle.std.specs.Prelude.{◌∷◌}
use Rattle.theory.specs.Prelude.{ℕ, zero, suc, List, []}

unfoldable pub pairs_in : List ℕ → List ℕ → List ℕ → List ℕ
pairs_in [] low high = []
pairs_in (a ∷ slots) [] high = []
pairs_in (a ∷ slots) (l ∷ low) [] = []
pairs_in (zero ∷ slots) (l ∷ low) (h ∷ high) = pairs_in slots low high
pairs_in (suc a ∷ slots) (l ∷ low) (h ∷ high) = l ∷ h ∷ pairs_in slots low high
