-- The chain, computed breadth-first: from the end outwards, layer by layer, the clusters whose shared set (document 02,
-- 2026-09) with what was reached is not empty; then from the start the lowest cluster of each layer. Assumes nothing.
use Rattle.std.specs.Prelude.{Bool, not, ◌&&◌, cond, List, [], ◌∷◌, ℕ, zero, suc, ◌^◌, eqb, ltb}
use Rattle.std.proofs.Math.Option.{Option, none, some}
use Rattle.theory.specs.Set.{◌∩◌, ◌∪◌}
use Rattle.theory.specs.Merge.{slot}
pub mod Laws
pub mod Shortest

-- do two sets share an element?
abbrev pub shares : ℕ → ℕ → Bool
shares a b = not (eqb (a ∩ b) 0)

-- a set with the clusters of the list that share an element with d
unfoldable pub grown : List ℕ → ℕ → ℕ → ℕ
grown [] d all = all
grown (c ∷ s) d all = grown s d (cond (shares c d) (all ∪ c) all)

-- the elements of the first t layers: those from which at most t clusters lead to the end
unfoldable pub reached : List ℕ → ℕ → ℕ → ℕ
reached s end zero = 2 ^ end
reached s end (suc t) = grown s (reached s end t) (reached s end t)

-- the first cluster that shares an element with both sets, by number; how many there are if none does
unfoldable pub first_both : List ℕ → ℕ → ℕ → ℕ
first_both [] a d = 0
first_both (c ∷ s) a d = cond (shares a c && shares c d) 0 (suc (first_both s a d))

-- from the set a over t layers: at each the lowest cluster that shares an element with the last and with the layers
-- before
unfoldable pub way : List ℕ → ℕ → ℕ → ℕ → List ℕ
way s end zero a = []
way s end (suc t) a = first_both s a (reached s end t) ∷ way s end t (slot s (first_both s a (reached s end t)))

-- the first layer from t on that reaches the start, where so many are left to try; the next if none does
unfoldable pub distance_from : List ℕ → ℕ → ℕ → ℕ → ℕ → ℕ
distance_from s start end zero t = t
distance_from s start end (suc more) t = cond (shares (2 ^ start) (reached s end t)) t
    (distance_from s start end more (suc t))

-- how many clusters lead from the start to the end: at most 63 among 64 elements, 64 if none do
abbrev pub distance : List ℕ → ℕ → ℕ → ℕ
distance s start end = distance_from s start end 64 0

-- the chain, or none
unfoldable pub chain_of : List ℕ → ℕ → ℕ → Option (List ℕ)
chain_of s start end = cond (ltb (distance s start end) 64) (some (way s end (distance s start end) (2 ^ start))) none
