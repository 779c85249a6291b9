-- Further laws of every list of merges of an accepted sheet that isn't over. Assumes nothing.
use Rattle.std.specs.Prelude.{◌≡◌, ◌≢◌, ◌∷◌, ◌+◌, ◌*◌, ◌≤◌}
use Rattle.theory.specs.Prelude.{refl, List, [], ℕ, length}
use Rattle.theory.specs.Set.{◌⊑◌}
use Rattle.theory.specs.Constraints.{Among}
use Rattle.theory.specs.Merge.{Merge, slot, Valid, final, Ended, Maximal, live}
use Rattle.theory.specs.Merge.Family.{Distinct, threes}
use Rattle.theory.specs.Merge.Family.Outcome.{never-smaller}
use Rattle.theory.specs.Merge.Numbered.{start-distinct, as-start, as-end, ended-there}
use Rattle.theory.specs.Over.Laws.{fine-most}
use Rattle.theory.specs.Graph.{Graph}
use Rattle.theory.specs.Demand.{Accepted}
use Rattle.theory.specs.Demand.Proof.{accepted-fine}

-- if none is open at the start, the list is empty
pub ended-empty : (s : List ℕ) (p : List Merge) → Ended s → Maximal s p → p ≡ []
unfolding Ended
ended-empty s [] e m = refl
ended-empty s (r ∷ p) e m = absurd (e r m.valid.0)

module _ {g : Graph} (a : Accepted g) where
  -- no pair stands twice
  pub once : (i j : ℕ) → slot g.clusters i ≢ 0 → slot g.clusters i ≡ slot g.clusters j → i ≡ j
  unfolding Distinct
  once = start-distinct g.clusters a.pairs (accepted-fine a)

  -- e is at most 2n-3
  pub few : length g.clusters + 3 ≤ 2 * g.n
  few = fine-most g.n g.clusters a.two a.below (accepted-fine a)

  -- more constraints, never a smaller part: every cluster of any list of merges of a sheet with some of the constraints lies inside a final
  -- cluster of any maximal list of the whole
  pub grows : {h : Graph} → Accepted h → ((x : ℕ) → Among x h.clusters → Among x g.clusters) → (q p : List Merge)
      → Valid h.clusters q → Maximal g.clusters p → (x : ℕ) → live (final h.clusters q) x
      → (y : ℕ) × live (final g.clusters p) y × (x ⊑ y)
  grows {h} b sub q p w m x l =
      let r =
      never-smaller g.clusters a.pairs (accepted-fine a) h.clusters sub (threes g.clusters p) (threes h.clusters q)
      (as-start h.clusters b.pairs (accepted-fine b) q w) (as-start g.clusters a.pairs (accepted-fine a) p m.valid)
      (ended-there g.clusters a.pairs (accepted-fine a) p m.valid m.ended) x
      ((as-end h.clusters b.pairs (accepted-fine b) q w x).0 l) in
      (r.0, (as-end g.clusters a.pairs (accepted-fine a) p m.valid r.0).1 r.1, r.2)
