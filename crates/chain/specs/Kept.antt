-- What the code keeps of the layers between two elements. Assumes nothing.
use Rattle.std.specs.Prelude.{◌≡◌, ◌^◌, ◌≤◌, ◌<◌}
use Rattle.theory.specs.Prelude.{List, ℕ, length, get_or}
use Rattle.chain.specs.Chain.{Share}
use Rattle.chain.specs.Layers.{reached}

-- the array holds what each of the first t layers has reached
pub record LayersIn (s : List ℕ) (end t : ℕ) (layers : List ℕ) : Type 0 where
  pub is : t < 64 → (m : ℕ) → m < t → get_or layers m 0 ≡ reached s end m

-- layer t is the first that the set a shares an element with
pub record Far (s : List ℕ) (end t a : ℕ) : Type 0 where
  pub meets : Share a (reached s end t)
  pub misses : (m : ℕ) → m < t → Share a (reached s end m) → ⊥

-- t clusters lead to the end and no fewer, their layers are held, and the space has room for their numbers
pub record Measured (s : List ℕ) (start end t : ℕ) (layers space : List ℕ) : Type 0 where
  pub clusters : length s ≤ 192
  pub element : start < 64
  pub low : t < 64
  pub held : LayersIn s end t layers
  pub far : Far s end t (2 ^ start)
  pub room : t ≤ length space
