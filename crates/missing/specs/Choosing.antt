-- The choice among pairs as numbers, and what the code keeps between two pairs. Assumes nothing.
use Rattle.std.specs.Prelude.{◌≡◌, ◌≢◌, ◌∷◌, ◌/◌, ◌%◌, ◌<◌}
use Rattle.theory.specs.Prelude.{true, false, List, [], ℕ, length, get_or}
use Rattle.theory.specs.Set.{◌∈◌, full}
use Rattle.theory.specs.Constraints.{pair, Among, Pairs, Below}
use Rattle.theory.specs.Over.{IsOver, is_over}
use Rattle.theory.specs.Completion.Rank.{Exact}
use Rattle.sparsity.specs.Answer.{Using}
pub mod Laws

-- the two elements of a number
abbrev pub pair_at : ℕ → ℕ
pair_at k = pair (k / 256) (k % 256)

-- the greedy choice, of numbers
unfoldable pub choose_numbers : ℕ → List ℕ → List ℕ → List ℕ
choose_numbers n cs [] = []
choose_numbers n cs (k ∷ ks) =
    elim (is_over n (pair_at k ∷ cs)) [ true ↦ choose_numbers n cs ks | false ↦ k ∷ choose_numbers n (pair_at k ∷ cs) ks ]

-- each is the number of a pair of n elements
pub record Numbered (n : ℕ) (ks : List ℕ) : Type 0 where
  pub each : (k : ℕ) → Among k ks → (k / 256 < k % 256) × (k % 256 < n)

-- each element that item x of tied has lies in a tight set with x
pub record Tied (cs tied : List ℕ) : Type 0 where
  pub places : length tied ≡ 64
  pub tight : (x y : ℕ) → x < 64 → y ∈ get_or tied x 0 → (r : ℕ) × (x ∈ r) × (y ∈ r) × Exact cs r

-- the constraints, their freedoms, and sets known to be tight
pub record Held (cs : List ℕ) (own : List (List ℕ)) (tied : List ℕ) : Type 0 where
  pub pairs : Pairs cs
  pub below : Below 64 cs
  pub uses : Using cs (full 64) own
  pub known : Tied cs tied

-- the pair m is taken, and over is 0; or it makes the constraints over
pub record Tried (cs : List ℕ) (m : ℕ) (tied : List ℕ) (own : List (List ℕ)) (over : ℕ) : Type 0 where
  pub taken : over ≡ 0 → Held (m ∷ cs) own tied
  pub refused : over ≢ 0 → Held cs own tied × IsOver (m ∷ cs)
