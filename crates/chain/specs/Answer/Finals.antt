-- The final clusters are sets of elements below 64, so their computed chain is the one that the papers ask for. Assumes
-- nothing.
use Rattle.std.specs.Prelude.{◌≢◌, ◌∷◌, ◌^◌, ◌<◌}
use Rattle.theory.specs.Prelude.{refl, sym, subst, List, [], ℕ, arith, ℕ_discrete, pow_mono}
use Rattle.theory.specs.Prelude.{pow_pos}
use Rattle.theory.specs.Set.{full, ◌⊑◌}
use Rattle.theory.specs.Set.Laws.{at_zero, ∪-least, below-full}
use Rattle.theory.specs.Set.Less.{sub-below}
use Rattle.theory.specs.Constraints.{Below}
use Rattle.theory.specs.Merge.{slot, Merge, union, put, final}
use Rattle.theory.specs.Merge.Numbered.{Place, new, old, place, slot-among}
use Rattle.theory.specs.Plan.{plan_of}
use Rattle.theory.specs.Graph.{Graph}
use Rattle.graph.specs.Lent.{Sound}
use Rattle.chain.specs.Chain.{Chain}
use Rattle.chain.specs.Layers.{chain_of}
use Rattle.chain.specs.Layers.Shortest.{chain-is}
use Rattle.chain.specs.Answer.{finals_of}

-- what is true of each living cluster is true of each, as the empty set lies in every one
all_lie : (s : List ℕ) (d : ℕ) → ((c : ℕ) → slot s c ≢ 0 → slot s c ⊑ d) → (c : ℕ) → slot s c ⊑ d
all_lie s d h c = elim (ℕ_discrete (slot s c) 0) [
  | yes e ↦ rw e (record { le = λ x. omega (arith, at_zero x) })
  | no n ↦ h c n
]

-- merges bring no element
final-lie : (d : ℕ) (p : List Merge) (s : List ℕ) → ((c : ℕ) → slot s c ⊑ d) → (c : ℕ) → slot (final s p) c ⊑ d
unfolding union
final-lie d [] s h = h
final-lie d (m ∷ p) s h = final-lie d p (put s m) (all_lie (put s m) d (λ c n. at_place c (place s m c n)))
  where
    at_place : (c : ℕ) → Place s m c → slot (put s m) c ⊑ d
    at_place c (new e q) = subst (λ (x : ℕ). x ⊑ d) (sym q) (∪-least (∪-least (h m.i) (h m.j)) (h m.k))
    at_place c (old e q) = subst (λ (x : ℕ). x ⊑ d) (sym q) (h c)

module _ (g : Graph) (sound : Sound g.n g.clusters) where
  start-lie : (c : ℕ) → slot g.clusters c ⊑ full g.n
  unfolding Below
  start-lie = all_lie g.clusters (full g.n) (λ c n. below-full g.n _
      (sound.below _ (slot-among g.clusters c _ n refl)))

  finals-low : (c : ℕ) → slot (finals_of g) c < 2 ^ 64
  unfolding full
  finals-low c =
      sub-below 64 _ (full g.n) (final-lie (full g.n) (plan_of g.clusters) g.clusters start-lie c)
      (omega (arith, pow_pos g.n, pow_mono sound.most))

  pub finals-chain : (u v : ℕ) → u < g.n → v < g.n → Chain (finals_of g) u v (chain_of (finals_of g) u v)
  finals-chain u v l m = chain-is (finals_of g) finals-low u v (omega (arith, sound.most)) (omega (arith, sound.most))
