-- What clusters rest on, as 64-bit words. Document 02, 2026-04. Assumes nothing.
use Rattle.std.specs.Prelude.{◌≡◌, ◌≢◌, List, map, ℕ, ◌-◌, ◌*◌, ◌/◌, ◌%◌, ◌^◌, ◌≤◌, ◌<◌, length, get_or}
use Rattle.theory.specs.Block.{block}
use Rattle.theory.specs.Merge.{Merge, slot, Valid, final}
use Rattle.theory.specs.Plan.{ascending}
use Rattle.merges.specs.Run.{places, flat}
use Rattle.theory.specs.Rests.{rests_on}
pub mod Laws

-- word w of a set of constraint numbers: the numbers from 64w to 64w + 63
unfoldable pub word : ℕ → ℕ → ℕ
word w r = r / 2 ^ (64 * w) % 2 ^ 64

-- the parts of a list of merges p of e constraints cs, in an array
pub record Listed (e : ℕ) (parts : List ℕ) (steps : ℕ) : Type 0 where
  pub cs : List ℕ
  pub p : List Merge
  pub size : length cs ≡ e
  pub valid : Valid cs p
  pub parts_are : parts ≡ block places 0 (flat (map ascending p))
  pub steps_are : steps ≡ length p

-- the words of the numbers from `first` on, as far as `done`, and 0 elsewhere
pub record Alone (first last done : ℕ) (words : List ℕ) : Type 0 where
  pub long : length words ≡ places
  pub each : (n : ℕ) → first ≤ n → n < done → n < last → get_or words n 0 ≡ 2 ^ (n - first)
  pub less : (n : ℕ) → n < first → get_or words n 0 ≡ 0
  pub more : (n : ℕ) → last ≤ n → get_or words n 0 ≡ 0

-- word w of what each living cluster rests on, by number
pub record Told (w : ℕ) (cs : List ℕ) (p : List Merge) (words : List ℕ) : Type 0 where
  pub long : length words ≡ places
  pub is : (n : ℕ) → slot (final cs p) n ≢ 0 → get_or words n 0 ≡ word w (slot (rests_on (length cs) p) n)
