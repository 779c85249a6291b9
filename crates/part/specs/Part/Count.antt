-- How many steps a cluster has: twice as many and one are 2m-3, m being its elements; so twice its steps are at most e. Each step stands in one
-- living cluster, once. Assumes nothing.
use Rattle.std.specs.Prelude.{◌+◌, ◌-◌, ◌*◌, ◌≤◌, ◌<◌, ◌≡◌, ◌≢◌, ◌∷◌, ◌++◌}
use Rattle.theory.specs.Prelude.{ℕ, suc, ℕ_discrete, arith, refl, sym, ap, ◌∙◌, subst, List, [], length}
use Rattle.theory.specs.Prelude.{get_or, length-append}
use Rattle.theory.specs.Constraints.{Pairs, Perm, same, then}
use Rattle.theory.specs.Merge.{Merge, slot, three, union, OpenAt, put, Valid, final, weight, weights}
use Rattle.theory.specs.Merge.Count.{total-set, weights-run, weights-kept}
use Rattle.theory.specs.Merge.Numbered.{Place, new, old, place, alive-lt, length-put, put-new, slot-among}
use Rattle.theory.specs.Merge.Threes.{size-union, big-a, big-b, big-c}
use Rattle.theory.specs.Set.Laws.{size-zero}
use Rattle.theory.specs.Plan.{ascending}
use Rattle.theory.specs.Plan.Order.{open-ascending, put-ascending}
use Rattle.theory.specs.Graph.{SizedGraph, step_of, steps_from}
use Rattle.theory.specs.declared.Step.{Step}
use Rattle.engine.specs.Steps.{blank_step}
use Rattle.part.specs.Part.{part_steps_of}
use Rattle.part.specs.Tallies.{Lower}
use Rattle.part.specs.Part.Laws.{part-initial, part-made}
use Rattle.part.specs.Part.Gather.{times-perm, before-end, firsts, firsts-few, gather, gather_none, union-lives, gather-put, times-gather}
use Rattle.part.specs.Shown.{times}

-- a cluster's 2m-3 is no more than the sum of all
weight-one : (s : List ℕ) (c : ℕ) → weight (slot s c) ≤ weights s
unfolding weights
weight-one s c = omega (arith, total-set weight (omega (arith, size-zero)) s c)

weight-union : (s : List ℕ) (m : Merge) → OpenAt s m
    → weight (union (three s m)) ≡ weight (slot s m.i) + weight (slot s m.j) + weight (slot s m.k)
weight-union s m o =
    let a = slot s m.i in
    let b = slot s m.j in
    let c = slot s m.k in
    omega (arith, big-a a b c o.open3, big-b a b c o.open3, big-c a b c o.open3, size-union (three s m) o.open3)

module _ (e : ℕ) (step : ℕ → Step) where
  -- the clusters s, living and dead, and their steps
  pub record Counted (s : List ℕ) : Type 0 where
    pub initials : e ≤ length s
    pub sums : weights s ≡ e
    pub lower : (c : ℕ) → c < length s → Lower e step c
    pub few : (c : ℕ) → c < length s → 2 * length (part_steps_of e step c) ≤ e
    pub weighs : (c : ℕ) → slot s c ≢ 0 → 2 * length (part_steps_of e step c) + 1 ≡ weight (slot s c)
    pub makes : (t : ℕ) → e + t < length s → (step t).made ≡ e + t
    pub gathers : Perm (gather (part_steps_of e step) 0 s) (firsts step (length s - e))
    pub once : (c : ℕ) → c < length s → (d : ℕ) → times d (part_steps_of e step c) ≤ 1

  lower-next : (part : Step → ℕ) (n t : ℕ) → e + t ≤ n → ((u : ℕ) → e + u < n → part (step u) < e + u) → part (step (n - e)) < n
      → part (step t) < e + t
  lower-next part n t b earlier last = go (ℕ_discrete (e + t) n)
    where
      go : Dec (e + t ≡ n) → part (step t) < e + t
      go (yes q) =
          let z : n - e ≡ t = omega arith in
          omega (arith, ap (λ (u : ℕ). part (step u)) z)
      go (no q) = earlier t (omega arith)

  pub counted_start : (cs : List ℕ) → Pairs cs → length cs ≡ e → Counted cs
  unfolding Pairs firsts times
  counted_start cs pairs count = record {
    initials = omega arith;
    sums = weights-kept cs pairs [] tt ∙ count;
    lower = λ c h. record { i_lower = λ t b. absurd (omega arith); j_lower = λ t b. absurd (omega arith); k_lower = λ t b. absurd (omega arith) };
    few = λ c h. omega (arith, ap length (part-initial e step c (omega arith)));
    weighs = λ c h.
        omega (arith, ap length (part-initial e step c (omega (arith, alive-lt cs c h))), pairs (slot cs c) (slot-among cs c (slot cs c) h refl));
    makes = λ t h. absurd (omega arith);
    gathers =
        let none : length cs - e ≡ 0 = omega arith in
        subst (λ (n : ℕ). Perm (gather (part_steps_of e step) 0 cs) (firsts step n)) (sym none)
        (subst (λ (l : List Step). Perm l []) (sym (gather_none (part_steps_of e step) cs 0 (λ k b. part-initial e step (0 + k) (omega arith)))) same);
    once = λ c h d. omega (arith, ap (times d) (part-initial e step c (omega arith)));
  }

  -- a merge whose parts are those of the next step
  module _ (s : List ℕ) (m : Merge) (o : OpenAt s m) (h : Counted s) (i : (step (length s - e)).i ≡ m.i) (j : (step (length s - e)).j ≡ m.j)
      (k : (step (length s - e)).k ≡ m.k) (own : (step (length s - e)).made ≡ length s) where
    lower-new : Lower e step (length s)
    lower-new = record {
      i_lower = λ t b.
          lower-next (λ x. x.i) (length s) t b (λ u d. (h.lower (e + u) d).i_lower u (omega arith)) (omega (arith, i, alive-lt s m.i o.livei));
      j_lower = λ t b.
          lower-next (λ x. x.j) (length s) t b (λ u d. (h.lower (e + u) d).j_lower u (omega arith)) (omega (arith, j, alive-lt s m.j o.livej));
      k_lower = λ t b.
          lower-next (λ x. x.k) (length s) t b (λ u d. (h.lower (e + u) d).k_lower u (omega arith)) (omega (arith, k, alive-lt s m.k o.livek));
    }

    steps-new : 2 * length (part_steps_of e step (length s)) + 1 ≡ weight (union (three s m))
    steps-new =
        let p = part_steps_of e step in
        let x = step (length s - e) in
        let wi : 2 * length (p x.i) + 1 ≡ weight (slot s m.i) = rw i (h.weighs m.i o.livei) in
        let wj : 2 * length (p x.j) + 1 ≡ weight (slot s m.j) = rw j (h.weighs m.j o.livej) in
        let wk : 2 * length (p x.k) + 1 ≡ weight (slot s m.k) = rw k (h.weighs m.k o.livek) in
        omega (
          arith,
          ap length (part-made e step (length s) h.initials lower-new),
          length-append (p x.i) (p x.j ++ (p x.k ++ (x ∷ []))),
          length-append (p x.j) (p x.k ++ (x ∷ [])),
          length-append (p x.k) (x ∷ []),
          weight-union s m o,
          wi,
          wj,
          wk,
        )

    makes-new : (t : ℕ) → e + t < length (put s m) → (step t).made ≡ e + t
    makes-new t b = by (ℕ_discrete (e + t) (length s))
      where
        by : Dec (e + t ≡ length s) → (step t).made ≡ e + t
        by (yes q) =
            let z : length s - e ≡ t = omega arith in
            sym (ap (λ (u : ℕ). (step u).made) z) ∙ own ∙ sym q
        by (no q) = h.makes t (omega (arith, length-put s m))

    gathers_new : Perm (gather (part_steps_of e step) 0 (put s m)) (firsts step (length (put s m) - e))
    unfolding firsts
    gathers_new =
        let more : length (put s m) - e ≡ suc (length s - e) = omega (arith, length-put s m, h.initials) in
        let all : part_steps_of e step (length s) ≡ joined-parts =
        part-made e step (length s) h.initials lower-new
        ∙ (λ z. part_steps_of e step (i z) ++ (part_steps_of e step (j z) ++ (part_steps_of e step (k z) ++ (step (length s - e) ∷ [])))) in
        subst (λ (n : ℕ). Perm (gather (part_steps_of e step) 0 (put s m)) (firsts step n)) (sym more)
        (then (gather-put (part_steps_of e step) s m o (step (length s - e)) all) (before-end h.gathers (step (length s - e) ∷ [])))
      where
        joined-parts : List Step
        joined-parts = part_steps_of e step m.i ++ (part_steps_of e step m.j ++ (part_steps_of e step m.k ++ (step (length s - e) ∷ [])))

    once-new : (d : ℕ) → times d (part_steps_of e step (length s)) ≤ 1
    once-new d =
        omega (
          arith,
          times-gather (part_steps_of e step) (put s m) (length s) d (λ z. union-lives s m o (sym (put-new s m) ∙ z)),
          times-perm d gathers_new,
          (firsts-few step e (length (put s m) - e) (λ t b. makes-new t (omega (arith, length-put s m, h.initials))) d).0,
        )

    sums-new : weights (put s m) ≡ e
    sums-new = weights-run (m ∷ []) s (o, tt) ∙ h.sums

    counted-put : Counted (put s m)
    counted-put = record {
      initials = omega (arith, length-put s m, h.initials);
      sums = sums-new;
      lower = λ c b. at-lower c b (ℕ_discrete c (length s));
      few = λ c b. at-few c b (ℕ_discrete c (length s));
      weighs = λ c z. at-weighs c (place s m c z) z;
      makes = makes-new;
      gathers = gathers_new;
      once = λ c b. at_once c b (ℕ_discrete c (length s));
    }
      where
        at-lower : (c : ℕ) → c < length (put s m) → Dec (c ≡ length s) → Lower e step c
        at-lower c b (yes q) = subst (Lower e step) (sym q) lower-new
        at-lower c b (no q) = h.lower c (omega (arith, length-put s m))

        at-few : (c : ℕ) → c < length (put s m) → Dec (c ≡ length s) → 2 * length (part_steps_of e step c) ≤ e
        at-few c b (yes q) =
            omega (
              arith,
              ap (λ (n : ℕ). length (part_steps_of e step n)) q,
              steps-new,
              ap weight (put-new s m),
              weight-one (put s m) (length s),
              sums-new,
            )
        at-few c b (no q) = h.few c (omega (arith, length-put s m))

        at_once : (c : ℕ) → c < length (put s m) → Dec (c ≡ length s) → (d : ℕ) → times d (part_steps_of e step c) ≤ 1
        at_once c b (yes q) d = omega (arith, ap (λ (n : ℕ). times d (part_steps_of e step n)) q, once-new d)
        at_once c b (no q) d = h.once c (omega (arith, length-put s m)) d

        at-weighs : (c : ℕ) → Place s m c → slot (put s m) c ≢ 0 → 2 * length (part_steps_of e step c) + 1 ≡ weight (slot (put s m) c)
        at-weighs c (new q f) z = omega (arith, ap (λ (n : ℕ). length (part_steps_of e step n)) q, steps-new, ap weight f)
        at-weighs c (old q f) z = h.weighs c (λ y. z (f ∙ y)) ∙ ap weight (sym f)

  -- a list of merges whose steps are those from here on
  pub counted-run : (g : SizedGraph) (p : List Merge) (s : List ℕ) → Valid s p → Counted s
      → ((t : ℕ) → t < length p → step (length s - e + t) ≡ get_or (steps_from g s p) t blank_step) → Counted (final s p)
  unfolding steps_from step_of
  counted-run g [] s v h are = h
  counted-run g (m ∷ p) s v h are =
      counted-run g p (put s m) v.1
      (subst Counted (put-ascending s m)
      (counted-put s (ascending m) (open-ascending s m v.0) h (ap (λ (x : Step). x.i) first)
      (ap (λ (x : Step). x.j) first) (ap (λ (x : Step). x.k) first)
      (ap (λ (x : Step). x.made) first)))
      (λ t b.
      let z : length (put s m) - e + t ≡ length s - e + suc t = omega (arith, length-put s m, h.initials) in
      ap step z ∙ are (suc t) (omega arith))
    where
      first : step (length s - e) ≡ step_of g s m
      first =
          let z : length s - e ≡ length s - e + 0 = omega arith in
          ap step z ∙ are 0 (omega arith)
