-- A list of merges that leaves one cluster shows that the constraints are not over: what a set carries is at most the sum of 2m - 3 over its parts in
-- the living clusters, m being a part's elements, and a merge never lowers that sum. Assumes nothing.
use Rattle.std.specs.Prelude.{◌≡◌, ◌∷◌, ◌+◌, ◌≤◌}
use Rattle.theory.specs.Prelude.{refl, ap, ◌∙◌, inl, inr, List, [], ℕ, zero, suc, arith, ones}
use Rattle.theory.specs.Set.{◌∩◌, ◌∪◌}
use Rattle.theory.specs.Set.Laws.{size-∪, ⊑⇒size≤, size-zero, ∩-distrib-∪, a∩b⊑a, a∩b⊑b, ∩-mono, ∪-mono, ⊑_refl, ⊑⇒∩≡, a⊑a∪b, b⊑a∪b}
use Rattle.theory.specs.Constraints.{Pairs, carried, has, NotOver}
use Rattle.theory.specs.Constraints.Laws.{Has, inside, outside, has-dec}
use Rattle.theory.specs.Merge.{Open, Three, union, Merge, three, put, Valid, final, total, left, weight}
use Rattle.theory.specs.Merge.Count.{total-put}

module _ (s : ℕ) where
  -- 2m-3 of a cluster's part in s
  abbrev part : ℕ → ℕ
  part x = weight (x ∩ s)

  part-zero : part 0 ≡ 0
  part-zero = omega (arith, ⊑⇒size≤ 0 (0 ∩ s) (a∩b⊑a 0 s), size-zero)

  -- ---- one merge

  -- two clusters that share one element share one at most in s
  shared : (a b : ℕ) → ones (a ∩ b) ≡ 1 → ones ((a ∩ s) ∩ (b ∩ s)) ≤ 1
  shared a b e = omega (arith, ⊑⇒size≤ (a ∩ b) ((a ∩ s) ∩ (b ∩ s)) (∩-mono (a∩b⊑a a s) (a∩b⊑a b s)))

  part-merge : (t : Three) → Open t.a t.b t.c → part t.a + part t.b + part t.c ≤ part (union t)
  unfolding union
  part-merge t o =
      let a = t.a ∩ s in
      let b = t.b ∩ s in
      let c = t.c ∩ s in
      let u : (t.a ∪ t.b ∪ t.c) ∩ s ≡ a ∪ b ∪ c = ∩-distrib-∪ (t.a ∪ t.b) t.c s ∙ ap (λ (z : ℕ). z ∪ c) (∩-distrib-∪ t.a t.b s) in
      let ab = shared t.a t.b o.ab in
      let bc = shared t.b t.c o.bc in
      let ac = shared t.a t.c o.ac in
      omega (
        arith,
        ap ones u,
        size-∪ a b,
        size-∪ (a ∪ b) c,
        ap ones (∩-distrib-∪ a b c),
        size-∪ (a ∩ c) (b ∩ c),
        size-∪ a c,
        size-∪ b c,
        ⊑⇒size≤ (a ∪ b ∪ c) (a ∪ b) (a⊑a∪b (a ∪ b) c),
        ⊑⇒size≤ (a ∪ b ∪ c) (a ∪ c) (∪-mono (a⊑a∪b a b) (⊑_refl c)),
        ⊑⇒size≤ (a ∪ b ∪ c) (b ∪ c) (∪-mono (b⊑a∪b a b) (⊑_refl c)),
        ⊑⇒size≤ (a ∪ b) a (a⊑a∪b a b),
        ⊑⇒size≤ (a ∪ b) b (b⊑a∪b a b),
        ⊑⇒size≤ (b ∪ c) c (b⊑a∪b b c),
      )

  -- ---- a list of merges

  part-run : (p : List Merge) (l : List ℕ) → Valid l p → total part l ≤ total part (final l p)
  part-run [] l v = omega arith
  part-run (m ∷ p) l v = omega (arith, total-put part part-zero l m v.0, part-merge (three l m) v.0.open3, part-run p (put l m) v.1)

  part-start : (cs : List ℕ) → Pairs cs → carried cs s ≤ total part cs
  unfolding carried total Pairs
  part-start [] h = omega arith
  part-start (m ∷ cs) h = omega (arith, part-start cs (λ y i. h y (inr i)), go (has-dec m s))
    where
      go : Has m s → has m s ≤ part m
      go (inside i e) = omega (arith, e, ap ones (⊑⇒∩≡ m s i), h m (inl refl))
      go (outside n e) = omega (arith, e)

  part_none : (l : List ℕ) → left l ≡ 0 → total part l ≡ 0
  unfolding left total
  part_none [] e = refl
  part_none (zero ∷ l) e = omega (arith, part-zero, part_none l (omega arith))
  part_none (suc x ∷ l) e = absurd (omega arith)

  part-one : (l : List ℕ) → left l ≡ 1 → (x : ℕ) × (total part l ≡ part x)
  unfolding left total
  part-one [] e = absurd (omega arith)
  part-one (zero ∷ l) e = let r = part-one l (omega arith) in (r.0, omega (arith, part-zero, r.1))
  part-one (suc x ∷ l) e = (suc x, omega (arith, part_none l (omega arith)))

-- one cluster is left: the constraints are not over
pub one-fine : (cs : List ℕ) → Pairs cs → (p : List Merge) → Valid cs p → left (final cs p) ≡ 1 → NotOver cs
unfolding NotOver
one-fine cs pairs p v e s two =
    let r = part-one s (final cs p) e in
    omega (arith, part-start s cs pairs, part-run s p cs v, r.1, ⊑⇒size≤ s (r.0 ∩ s) (a∩b⊑b r.0 s))
