-- What clusters rest on is kept by every merge: each constraint stands in one living cluster, which holds both its
-- ends, and a cluster of m elements has 2m-3 of them. Assumes nothing.
use Rattle.std.specs.Prelude.{◌≡◌, ◌≢◌, ◌⊎◌, ◌∷◌, ◌+◌, ◌*◌, ◌^◌, ◌≤◌, ◌<◌}
use Rattle.theory.specs.Prelude.{refl, sym, ap, ◌∙◌, subst, inl, inr, List, [], ℕ, zero, suc, arith}
use Rattle.theory.specs.Prelude.{ℕ_discrete, dec_lt, ones, length, List·getD-eq-default, pow-lt}
use Rattle.std.proofs.Math.Pow.{ones_lt}
use Rattle.theory.specs.Set.{◌∩◌, ◌∪◌, ◌∈◌, ◌⊑◌, at, full}
use Rattle.theory.specs.Set.Laws.{at_zero, at-le, bit, below-full, at_same, at_other, size-pow, size-zero, size-∪, size_none, some, filled, ∈-∪⁻, ∈-∪ˡ, ∈-∪ʳ, ∈-∩⁻, ⊑_refl, ⊑_trans, ⊑⇒size≤, ∩-greatest}
use Rattle.theory.specs.Set.Less.{sub-below}
use Rattle.theory.specs.Constraints.{Pairs, NotOver}
use Rattle.theory.specs.Merge.{Merge, slot, three, union, OpenAt, Part, put, Valid, final, live}
use Rattle.theory.specs.Merge.Threes.{part-a, part-b, part_c, size-union}
use Rattle.theory.specs.Merge.Family.{Good, Distinct}
use Rattle.theory.specs.Merge.Family.Invariant.{share}
use Rattle.theory.specs.Merge.Numbered.{alive-lt, part-dec, length-put, put-new, put-old, cleared-part, cleared-other}
use Rattle.theory.specs.Merge.Numbered.{good-final, start-good, start-distinct}
use Rattle.theory.specs.Rests.{alone_from, rests_on, Rests}

-- ---- the initial clusters

pub length-alone : (k i : ℕ) → length (alone_from i k) ≡ k
unfolding alone_from
length-alone zero i = refl
length-alone (suc k) i = ap suc (length-alone k (suc i))

slot-from : (k i n : ℕ) → n < k → slot (alone_from i k) n ≡ 2 ^ (i + n)
unfolding alone_from
slot-from zero i n h = absurd (omega arith)
slot-from (suc k) i zero h = ap (λ (x : ℕ). 2 ^ x) {x = i} {y = i + 0} (omega arith)
slot-from (suc k) i (suc n) h = slot-from k (suc i) n (omega arith) ∙ ap (λ (x : ℕ). 2 ^ x) {x = suc i + n} {y = i + suc n} (omega arith)

pub slot-alone : (k n : ℕ) → n < k → slot (alone_from 0 k) n ≡ 2 ^ n
slot-alone k n h = slot-from k 0 n h ∙ ap (λ (x : ℕ). 2 ^ x) {x = 0 + n} {y = n} (omega arith)

-- a constraint has two ends
pub two_ends : (cs : List ℕ) → Pairs cs → (n : ℕ) → n < length cs → ones (slot cs n) ≡ 2
unfolding Pairs
two_ends [] pairs n h = absurd (omega arith)
two_ends (c ∷ cs) pairs zero h = pairs c (inl refl)
two_ends (c ∷ cs) pairs (suc n) h = two_ends cs (λ x i. pairs x (inr i)) n (omega arith)

-- ---- what every merge keeps: r holds the constraints that the clusters s of the constraints cs rest on

pub record Carrying (cs r s : List ℕ) : Type 0 where
  pub places : length r ≡ length s
  pub within : (n i : ℕ) → i ∈ slot r n → (i < length cs) × (slot cs i ⊑ slot s n)
  pub once : (i m n : ℕ) → i ∈ slot r m → i ∈ slot r n → m ≡ n
  pub every : (i : ℕ) → i < length cs → (n : ℕ) × (i ∈ slot r n)
  pub count : (n : ℕ) → slot s n ≢ 0 → ones (slot r n) + 3 ≡ 2 * ones (slot s n)
  pub dead : (n : ℕ) → slot s n ≡ 0 → slot r n ≡ 0

pub none_in : (i : ℕ) {a : ℕ} → a ≡ 0 → i ∈ a → ⊥
none_in i e h = omega (arith, h, ap (at i) e, at_zero i)

module _ (cs : List ℕ) (pairs : Pairs cs) where
  starting : Carrying cs (alone_from 0 (length cs)) cs
  starting = record {
    places = length-alone (length cs) 0;
    within = within;
    once = λ i m n h k. sym (number m i h).1 ∙ (number n i k).1;
    every = λ i h. (i, ap (at i) (slot-alone (length cs) i h) ∙ at_same i);
    count = count;
    dead = dead;
  }
    where
      r : List ℕ
      r = alone_from 0 (length cs)

      number : (n i : ℕ) → i ∈ slot r n → (n < length cs) × (i ≡ n)
      number n i h =
          let l : n < length cs = omega (arith, alive-lt r n (filled (slot r n) i h), length-alone (length cs) 0) in (
            l,
            elim (ℕ_discrete i n) [ yes e ↦ e | no ne ↦ absurd (omega (arith, h, ap (at i) (slot-alone (length cs) n l), at_other i n ne)) ],
          )

      within : (n i : ℕ) → i ∈ slot r n → (i < length cs) × (slot cs i ⊑ slot cs n)
      within n i h =
          let e = number n i h in (omega (arith, e), subst (λ (k : ℕ). slot cs i ⊑ slot cs k) e.1 (⊑_refl (slot cs i)))

      count : (n : ℕ) → slot cs n ≢ 0 → ones (slot r n) + 3 ≡ 2 * ones (slot cs n)
      count n h =
          let l = alive-lt cs n h in omega (arith, ap ones (slot-alone (length cs) n l), size-pow n, two_ends cs pairs n l)

      dead : (n : ℕ) → slot cs n ≡ 0 → slot r n ≡ 0
      dead n e = elim (dec_lt n (length cs)) [
        | yes l ↦ absurd (omega (arith, two_ends cs pairs n l, ap ones e, size-zero))
        | no k ↦ List·getD-eq-default r 0 (omega (arith, length-alone (length cs) 0))
      ]

-- ---- one merge

-- where a cluster and what it rests on stand after a merge
pub data Stands (r s : List ℕ) (m : Merge) (n : ℕ) : Type 0 where
  new : n ≡ length s → slot (put s m) n ≡ union (three s m) → slot (put r m) n ≡ union (three r m) → Stands r s m n
  gone : slot (put s m) n ≡ 0 → slot (put r m) n ≡ 0 → Stands r s m n
  kept : (Part n m → ⊥) → slot (put s m) n ≡ slot s n → slot (put r m) n ≡ slot r n → Stands r s m n

pub stands : (r s : List ℕ) → length r ≡ length s → (m : Merge) (n : ℕ) → Stands r s m n
stands r s places m n = by (ℕ_discrete n (length s)) (dec_lt n (length s)) (part-dec n m)
  where
    by : Dec (n ≡ length s) → Dec (n < length s) → Dec (Part n m) → Stands r s m n
    by (yes e) d q = new e (ap (slot (put s m)) e ∙ put-new s m) (ap (slot (put r m)) (e ∙ sym places) ∙ put-new r m)
    by (no k) (no h) q =
        gone (List·getD-eq-default (put s m) 0 (omega (arith, length-put s m)))
        (List·getD-eq-default (put r m) 0 (omega (arith, length-put r m, places)))
    by (no k) (yes h) (yes q) = gone (put-old s m n h ∙ cleared-part s m n q) (put-old r m n (omega (arith, places)) ∙ cleared-part r m n q)
    by (no k) (yes h) (no q) =
        kept q (put-old s m n h ∙ cleared-other s m n q) (put-old r m n (omega (arith, places)) ∙ cleared-other r m n q)

module _ {cs r s : List ℕ} (w : Carrying cs r s) (m : Merge) (o : OpenAt s m) where
  -- what the union rests on, one of the three rests on
  of_part : (i : ℕ) → i ∈ union (three r m) → (n : ℕ) × Part n m × (i ∈ slot r n)
  unfolding union
  of_part i h = elim (∈-∪⁻ i (slot r m.i ∪ slot r m.j) (slot r m.k) h) [
    | inl ab ↦ elim (∈-∪⁻ i (slot r m.i) (slot r m.j) ab) [ inl a ↦ (m.i, inl refl, a) | inr b ↦ (m.j, inr (inl refl), b) ]
    | inr c ↦ (m.k, inr (inr refl), c)
  ]

  part_of : (i n : ℕ) → Part n m → i ∈ slot r n → i ∈ union (three r m)
  unfolding union
  part_of i n (inl e) h = ∈-∪ˡ i _ _ (∈-∪ˡ i _ _ (subst (λ (k : ℕ). i ∈ slot r k) e h))
  part_of i n (inr (inl e)) h = ∈-∪ˡ i _ _ (∈-∪ʳ i _ _ (subst (λ (k : ℕ). i ∈ slot r k) e h))
  part_of i n (inr (inr e)) h = ∈-∪ʳ i _ _ (subst (λ (k : ℕ). i ∈ slot r k) e h)

  part-within : (n : ℕ) → Part n m → slot s n ⊑ union (three s m)
  part-within n (inl e) = subst (λ (k : ℕ). slot s k ⊑ union (three s m)) (sym e) (part-a (three s m))
  part-within n (inr (inl e)) = subst (λ (k : ℕ). slot s k ⊑ union (three s m)) (sym e) (part-b (three s m))
  part-within n (inr (inr e)) = subst (λ (k : ℕ). slot s k ⊑ union (three s m)) (sym e) (part_c (three s m))

  -- two different clusters share no constraint
  apart : (x y : ℕ) → ((i : ℕ) → i ∈ x → i ∈ y → ⊥) → ones (x ∪ y) ≡ ones x + ones y
  apart x y none = by (ones (x ∩ y)) refl
    where
      by : (k : ℕ) → ones (x ∩ y) ≡ k → ones (x ∪ y) ≡ ones x + ones y
      by zero e = omega (arith, size-∪ x y)
      by (suc k) e = let c = some (x ∩ y) (omega arith) in let b = ∈-∩⁻ c.0 x y c.1 in absurd (none c.0 b.0 b.1)

  size-three : ones (union (three r m)) ≡ ones (slot r m.i) + ones (slot r m.j) + ones (slot r m.k)
  unfolding union
  size-three =
      let a = slot r m.i in
      let b = slot r m.j in
      let c = slot r m.k in
      apart (a ∪ b) c (λ i h k. elim (∈-∪⁻ i a b h) [ inl p ↦ o.i≢k (w.once i m.i m.k p k) | inr p ↦ o.j≢k (w.once i m.j m.k p k) ])
      ∙ ap (λ (x : ℕ). x + ones c) (apart a b (λ i h k. o.i≢j (w.once i m.i m.j h k)))

  pub put-carrying : Carrying cs (put r m) (put s m)
  put-carrying = record {
    places = length-put r m ∙ ap suc w.places ∙ sym (length-put s m);
    within = λ n i h. within n i h (stands r s w.places m n);
    once = λ i p q h k. once i p q h k (stands r s w.places m p) (stands r s w.places m q);
    every = λ i h. let e = w.every i h in every i e.0 e.1 (part-dec e.0 m);
    count = λ n h. count n h (stands r s w.places m n);
    dead = λ n e. dead n e (stands r s w.places m n);
  }
    where
      within : (n i : ℕ) → i ∈ slot (put r m) n → Stands r s m n → (i < length cs) × (slot cs i ⊑ slot (put s m) n)
      within n i h (new e f g) =
          let q = of_part i (sym (ap (at i) g) ∙ h) in
          let v = w.within q.0 i q.2 in
          (v.0, subst (λ (x : ℕ). slot cs i ⊑ x) (sym f) (⊑_trans v.1 (part-within q.0 q.1)))
      within n i h (gone f g) = absurd (none_in i g h)
      within n i h (kept q f g) =
          let v = w.within n i (sym (ap (at i) g) ∙ h) in (v.0, subst (λ (x : ℕ). slot cs i ⊑ x) (sym f) v.1)

      -- a cluster that is kept is none of the three
      other : (i p q : ℕ) → i ∈ slot (put r m) p → slot (put r m) p ≡ union (three r m) → i ∈ slot (put r m) q → slot (put r m) q ≡ slot r q
          → (Part q m → ⊥) → ⊥
      other i p q h g k f no_part =
          let u = of_part i (sym (ap (at i) g) ∙ h) in
          no_part (subst (λ (n : ℕ). Part n m) (w.once i u.0 q u.2 (sym (ap (at i) f) ∙ k)) u.1)

      once : (i p q : ℕ) → i ∈ slot (put r m) p → i ∈ slot (put r m) q → Stands r s m p → Stands r s m q → p ≡ q
      once i p q h k (gone f g) v = absurd (none_in i g h)
      once i p q h k (new e f g) (gone f' g') = absurd (none_in i g' k)
      once i p q h k (kept n f g) (gone f' g') = absurd (none_in i g' k)
      once i p q h k (new e f g) (new e' f' g') = e ∙ sym e'
      once i p q h k (new e f g) (kept n f' g') = absurd (other i p q h g k g' n)
      once i p q h k (kept n f g) (new e f' g') = absurd (other i q p k g' h g n)
      once i p q h k (kept n f g) (kept n' f' g') = w.once i p q (sym (ap (at i) g) ∙ h) (sym (ap (at i) g') ∙ k)

      every : (i n : ℕ) → i ∈ slot r n → Dec (Part n m) → (k : ℕ) × (i ∈ slot (put r m) k)
      every i n h (yes q) = (length r, ap (at i) (put-new r m) ∙ part_of i n q h)
      every i n h (no q) =
          (n, ap (at i) (put-old r m n (alive-lt r n (filled (slot r n) i h)) ∙ cleared-other r m n q) ∙ h)

      count : (n : ℕ) → slot (put s m) n ≢ 0 → Stands r s m n → ones (slot (put r m) n) + 3 ≡ 2 * ones (slot (put s m) n)
      count n h (new e f g) = omega (
        arith,
        ap ones f,
        ap ones g,
        size-three,
        size-union (three s m) o.open3,
        w.count m.i o.livei,
        w.count m.j o.livej,
        w.count m.k o.livek,
      )
      count n h (gone f g) = absurd (h f)
      count n h (kept q f g) = omega (arith, ap ones f, ap ones g, w.count n (λ z. h (f ∙ z)))

      dead : (n : ℕ) → slot (put s m) n ≡ 0 → Stands r s m n → slot (put r m) n ≡ 0
      dead n z (new e f g) = absurd (o.livei (size_none (slot s m.i) (omega (
        arith,
        ⊑⇒size≤ (union (three s m)) (slot s m.i) (part-a (three s m)),
        ap ones (sym f ∙ z),
        size-zero,
      ))))
      dead n z (gone f g) = g
      dead n z (kept q f g) = g ∙ w.dead n (sym f ∙ z)

-- ---- every list of merges

carrying-run : (cs : List ℕ) (p : List Merge) {r s : List ℕ} → Carrying cs r s → Valid s p → Carrying cs (final r p) (final s p)
carrying-run cs [] w v = w
carrying-run cs (m ∷ p) w v = carrying-run cs p (put-carrying w m v.0) v.1

pub carrying : (cs : List ℕ) → Pairs cs → (p : List Merge) → Valid cs p → Carrying cs (rests_on (length cs) p) (final cs p)
unfolding rests_on
carrying cs pairs p v = carrying-run cs p (starting cs pairs) v

-- only constraints that there are
pub rests-below : (k : ℕ) (cs : List ℕ) → Pairs cs → length cs ≤ k → (p : List Merge) → Valid cs p → (n : ℕ) → slot (rests_on (length cs) p) n < 2 ^ k
unfolding full
rests-below k cs pairs few p v n =
    sub-below k r (full k) (record { le = λ i. le i (bit (at i r) (at-le i r)) }) (ones_lt k)
  where
    r : ℕ
    r = slot (rests_on (length cs) p) n

    le : (i : ℕ) → (at i r ≡ 0) ⊎ (at i r ≡ 1) → at i r ≤ at i (full k)
    le i (inl e) = omega (arith, e)
    le i (inr e) =
        let l : i < k = omega (arith, ((carrying cs pairs p v).within n i e).0) in omega (arith, e, at_same i, (below-full k (2 ^ i) (pow-lt l)).le i)

-- ---- the promise

pub rests : (cs : List ℕ) → Pairs cs → NotOver cs → (p : List Merge) → Valid cs p → Rests cs p
unfolding Distinct Pairs
rests cs pairs fine p v = record {
  once = w.once;
  every = λ i h. let e = w.every i h in (e.0, lives e.0 i e.1, e.1);
  count = w.count;
  exactly = λ n h i. (w.within n i, λ q. back n h i q.0 q.1 (w.every i q.0));
}
  where
    r : List ℕ
    r = rests_on (length cs) p

    s : List ℕ
    s = final cs p

    w : Carrying cs r s
    w = carrying cs pairs p v

    lives : (n i : ℕ) → i ∈ slot r n → slot s n ≢ 0
    lives n i h e = none_in i (w.dead n e) h

    good : Good cs (live s) × Distinct s
    good = good-final cs fine p cs (start-good cs pairs fine) (start-distinct cs pairs fine) v

    -- both ends in two clusters, which would share them
    back : (n : ℕ) → slot s n ≢ 0 → (i : ℕ) → i < length cs → slot cs i ⊑ slot s n → (k : ℕ) × (i ∈ slot r k) → i ∈ slot r n
    back n h i l q (k, f) = elim (ℕ_discrete k n) [
      | yes e ↦ subst (λ (x : ℕ). i ∈ slot r x) e f
      | no ne ↦ absurd (omega (
        arith,
        share cs fine good.0 (slot s k) (slot s n) (k, refl, lives k i f) (n, refl, h) (λ e. ne (good.1 k n (lives k i f) e)),
        ⊑⇒size≤ (slot s k ∩ slot s n) (slot cs i) (∩-greatest (w.within k i f).1 q),
        two_ends cs pairs i l,
      ))
    ]
