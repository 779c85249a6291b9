-- The least key of the lowest waiting cluster gives the first open merge, which goes by what stands in the slots. Assumes nothing.
use Rattle.std.specs.Prelude.{◌≡◌, ◌/◌, ◌%◌, ◌≤◌, ◌<◌}
use Rattle.theory.specs.Prelude.{sym, List, Option, none, ℕ}
use Rattle.theory.specs.Set.{◌∩◌}
use Rattle.theory.specs.Merge.{slot, Merge, merge, OpenAt, Ended}
use Rattle.theory.specs.Plan.{First, first_of}
use Rattle.theory.specs.Plan.Laws.{first_is, none_is}
use Rattle.theory.specs.Plan.Search.{Found, found as first_one, nothing as no_one, first_found}
use Rattle.search.specs.State.{linked, Ready, Wanted, Lowest, Outs, Joined, Best}
use Rattle.search.specs.State.Triangle.{corners}
use Rattle.search.specs.State.Choice.{within, joined-pair, nothing, found}
use Rattle.search.specs.State.Sheet.{open-same}

module _ {s : List ℕ} {used rim : ℕ} {links hold todo : List ℕ} (room : used ≤ 192) {i : ℕ} (li : Lowest (Wanted s links rim todo) 0 192 i)
    (ready : Ready s used rim links hold todo) where
  pub none_found : 192 ≤ i → none ≡ first_of 0 s
  none_found h = sym (none_is s (nothing ready room li h))

  module _ {o : ℕ} (outs : Outs links (slot s i) (slot s i ∩ rim) o) {v : ℕ} where
    pub chosen-first : Best (λ z. Joined hold (linked links z ∩ slot s i) z) o v → First s (merge i (v / 256) (v % 256))
    chosen-first best = found ready room li outs (λ z w h m. joined-pair ready room i z h w m) best

    pub chosen-used : Best (λ z. Joined hold (linked links z ∩ slot s i) z) o v → v % 256 < used
    chosen-used best =
        let g = corners s i (v / 256) (v % 256) (chosen-first best).isopen in
        within ready room (v % 256) g.q g.q_k

-- ---- the first open merge goes by what stands in the slots

pub first-of-same : (a b : List ℕ) → ((n : ℕ) → slot a n ≡ slot b n) → first_of 0 a ≡ first_of 0 b
unfolding Ended
first-of-same a b same = by (first_of 0 a) (first_found a)
  where
    back : (r : Merge) → OpenAt b r → OpenAt a r
    back = open-same b a (λ n. sym (same n))

    by : (o : Option Merge) → Found a o → o ≡ first_of 0 b
    by o (first_one m f) =
        sym (first_is b m (record { i<j = f.i<j; j<k = f.j<k; isopen = open-same a b same m f.isopen; least = λ r h. f.least r (back r h) }))
    by o (no_one e) = sym (none_is b (λ m h. e m (back m h)))
