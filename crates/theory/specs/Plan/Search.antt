-- The search for the first open merge finds it, or there is none. Assumes nothing.
use Rattle.std.specs.Prelude.{◌≡◌, ◌∷◌, ◌+◌, ◌≤◌, ◌<◌}
use Rattle.theory.specs.Prelude.{refl, sym, ◌∙◌, subst, inl, inr, List, [], Bool, true, false, not, Option, none, some, ℕ, zero, suc}
use Rattle.theory.specs.Prelude.{arith, ℕ_discrete, T, eqb, eqb→eq, ones}
use Rattle.theory.specs.Tests.{and_intro, and_both, eq_test, ne_test, test-ne}
use Rattle.theory.specs.Set.{◌∩◌}
use Rattle.theory.specs.Merge.{Merge, merge, slot, Open, OpenAt, Ended}
use Rattle.theory.specs.Merge.Threes.{open-living, open_at}
use Rattle.theory.specs.Plan.{open_test, third_of, second_of, first_of, ascending, NotAfter, First}
use Rattle.theory.specs.Plan.Order.{merge-by, open-ascending, ascends}

-- ---- the test of an open three

module _ (a b c : ℕ) where
  pub open-test : Open a b c → T (open_test a b c)
  unfolding open_test
  open-test o =
      and_intro (eqb (ones (a ∩ b)) 1) _ (eq_test (ones (a ∩ b)) 1 o.ab)
      (and_intro (eqb (ones (b ∩ c)) 1) _ (eq_test (ones (b ∩ c)) 1 o.bc)
      (and_intro (eqb (ones (a ∩ c)) 1) _ (eq_test (ones (a ∩ c)) 1 o.ac)
      (and_intro (not (eqb (a ∩ b) (b ∩ c))) _ (ne_test (a ∩ b) (b ∩ c) o.ab≢bc)
      (and_intro (not (eqb (b ∩ c) (a ∩ c))) _ (ne_test (b ∩ c) (a ∩ c) o.bc≢ac) (ne_test (a ∩ b) (a ∩ c) o.ab≢ac)))))

  pub test-open : T (open_test a b c) → Open a b c
  unfolding open_test
  test-open t =
      let t1 = and_both (eqb (ones (a ∩ b)) 1) _ t in
      let t2 = and_both (eqb (ones (b ∩ c)) 1) _ t1.1 in
      let t3 = and_both (eqb (ones (a ∩ c)) 1) _ t2.1 in
      let t4 = and_both (not (eqb (a ∩ b) (b ∩ c))) _ t3.1 in
      let t5 = and_both (not (eqb (b ∩ c) (a ∩ c))) _ t4.1 in
      record {
        ab = eqb→eq (ones (a ∩ b)) 1 t1.0;
        bc = eqb→eq (ones (b ∩ c)) 1 t2.0;
        ac = eqb→eq (ones (a ∩ c)) 1 t3.0;
        ab≢bc = test-ne (a ∩ b) (b ∩ c) t4.0;
        bc≢ac = test-ne (b ∩ c) (a ∩ c) t5.0;
        ab≢ac = test-ne (a ∩ b) (a ∩ c) t5.1;
      }

-- ---- the first open merge

data Third (a b k : ℕ) (s : List ℕ) : Option ℕ → Type 0 where
  found : (r n : ℕ) → r ≡ k + n → Open a b (slot s n) → ((j : ℕ) → Open a b (slot s j) → n ≤ j) → Third a b k s (some r)
  nothing : ((j : ℕ) → Open a b (slot s j) → ⊥) → Third a b k s none

third : (s : List ℕ) (a b k : ℕ) → Third a b k s (third_of a b k s)
unfolding third_of
third [] a b k = nothing (λ j o. (open-living a b 0 o).2 refl)
third (c ∷ s) a b k = go (open_test a b c) refl (third_of a b (suc k) s) (third s a b (suc k))
  where
    not-here : open_test a b c ≡ false → Open a b c → ⊥
    not-here e o = subst T e (open-test a b c o)

    go : (t : Bool) → open_test a b c ≡ t → (o : Option ℕ) → Third a b (suc k) s o → Third a b k (c ∷ s) (elim t [ true ↦ some k | false ↦ o ])
    go true e o r = found k 0 (omega arith) (test-open a b c (subst T (sym e) tt)) (λ j h. omega arith)
    go false e o (found r n q h l) = found r (suc n) (omega arith) h (λ j. later j)
      where
        later : (j : ℕ) → Open a b (slot (c ∷ s) j) → suc n ≤ j
        later zero h = absurd (not-here e h)
        later (suc j) h = omega (arith, l j h)
    go false e o (nothing l) = nothing (λ j. later j)
      where
        later : (j : ℕ) → Open a b (slot (c ∷ s) j) → ⊥
        later zero h = not-here e h
        later (suc j) h = l j h

data Second (a i k : ℕ) (s : List ℕ) : Option Merge → Type 0 where
  found : (p q : ℕ) (r : Merge) → r ≡ merge i (k + p) (k + q) → p < q → Open a (slot s p) (slot s q)
      → ((x y : ℕ) → x < y → Open a (slot s x) (slot s y) → p ≤ x) → ((y : ℕ) → p < y → Open a (slot s p) (slot s y) → q ≤ y)
      → Second a i k s (some r)
  nothing : ((x y : ℕ) → x < y → Open a (slot s x) (slot s y) → ⊥) → Second a i k s none

second : (s : List ℕ) (a i k : ℕ) → Second a i k s (second_of a i k s)
unfolding second_of
second [] a i k = nothing (λ x y l o. (open-living a 0 0 o).1 refl)
second (b ∷ s) a i k = go (third_of a b (suc k) s) (third s a b (suc k)) (second_of a i (suc k) s) (second s a i (suc k))
  where
    go : (t : Option ℕ) → Third a b (suc k) s t → (o : Option Merge) → Second a i (suc k) s o
        → Second a i k (b ∷ s) (elim t [ some r ↦ some (merge i k r) | none ↦ o ])
    go t (found r n q h l) o w =
        found 0 (suc n) (merge i k r) (merge-by refl (omega arith) (omega arith)) (omega arith) h (λ x y m g. omega arith) (λ y. after y)
      where
        after : (y : ℕ) → 0 < y → Open a b (slot (b ∷ s) y) → suc n ≤ y
        after zero m g = absurd (omega arith)
        after (suc y) m g = omega (arith, l y g)
    go t (nothing l) o (found p q r e m h f g) =
        let shift : merge i (suc k + p) (suc k + q) ≡ merge i (k + suc p) (k + suc q) = merge-by (omega arith) (omega arith) (omega arith) in
        found (suc p) (suc q) r (e ∙ shift) (omega arith) h (λ x. front x) (λ y. after y)
      where
        front : (x y : ℕ) → x < y → Open a (slot (b ∷ s) x) (slot (b ∷ s) y) → suc p ≤ x
        front zero zero d v = absurd (omega arith)
        front zero (suc y) d v = absurd (l y v)
        front (suc x) zero d v = absurd (omega arith)
        front (suc x) (suc y) d v = omega (arith, f x y (omega arith) v)

        after : (y : ℕ) → suc p < y → Open a (slot s p) (slot (b ∷ s) y) → suc q ≤ y
        after zero d v = absurd (omega arith)
        after (suc y) d v = omega (arith, g y (omega arith) v)
    go t (nothing l) o (nothing f) = nothing (λ x. front x)
      where
        front : (x y : ℕ) → x < y → Open a (slot (b ∷ s) x) (slot (b ∷ s) y) → ⊥
        front zero zero d v = omega arith
        front zero (suc y) d v = l y v
        front (suc x) zero d v = omega arith
        front (suc x) (suc y) d v = f x y (omega arith) v

data Whole (k : ℕ) (s : List ℕ) : Option Merge → Type 0 where
  found : (o p q : ℕ) (r : Merge) → r ≡ merge (k + o) (k + p) (k + q) → o < p → p < q → Open (slot s o) (slot s p) (slot s q)
      → ((x y z : ℕ) → x < y → y < z → Open (slot s x) (slot s y) (slot s z) → o ≤ x)
      → ((y z : ℕ) → o < y → y < z → Open (slot s o) (slot s y) (slot s z) → p ≤ y)
      → ((z : ℕ) → p < z → Open (slot s o) (slot s p) (slot s z) → q ≤ z) → Whole k s (some r)
  nothing : ((x y z : ℕ) → x < y → y < z → Open (slot s x) (slot s y) (slot s z) → ⊥) → Whole k s none

whole : (s : List ℕ) (k : ℕ) → Whole k s (first_of k s)
unfolding first_of
whole [] k = nothing (λ x y z l m o. (open-living 0 0 0 o).0 refl)
whole (a ∷ s) k = go (second_of a k (suc k) s) (second s a k (suc k)) (first_of (suc k) s) (whole s (suc k))
  where
    go : (t : Option Merge) → Second a k (suc k) s t → (o : Option Merge) → Whole (suc k) s o
        → Whole k (a ∷ s) (elim t [ some m ↦ some m | none ↦ o ])
    go t (found p q r e l h f g) w v =
        let shift : merge k (suc k + p) (suc k + q) ≡ merge (k + 0) (k + suc p) (k + suc q) = merge-by (omega arith) (omega arith) (omega arith) in
        found 0 (suc p) (suc q) r (e ∙ shift) (omega arith) (omega arith) h (λ x y z b c d. omega arith) (λ y. middle y) (λ z. after z)
      where
        middle : (y z : ℕ) → 0 < y → y < z → Open a (slot (a ∷ s) y) (slot (a ∷ s) z) → suc p ≤ y
        middle zero z b c d = absurd (omega arith)
        middle (suc y) zero b c d = absurd (omega arith)
        middle (suc y) (suc z) b c d = omega (arith, f y z (omega arith) d)

        after : (z : ℕ) → suc p < z → Open a (slot s p) (slot (a ∷ s) z) → suc q ≤ z
        after zero b d = absurd (omega arith)
        after (suc z) b d = omega (arith, g z (omega arith) d)
    go t (nothing l) w (found o p q r e b c h f g d) =
        let shift : merge (suc k + o) (suc k + p) (suc k + q) ≡ merge (k + suc o) (k + suc p) (k + suc q) =
        merge-by (omega arith) (omega arith) (omega arith) in
        found (suc o) (suc p) (suc q) r (e ∙ shift) (omega arith) (omega arith) h (λ x. front x) (λ y. middle y) (λ z. after z)
      where
        front : (x y z : ℕ) → x < y → y < z → Open (slot (a ∷ s) x) (slot (a ∷ s) y) (slot (a ∷ s) z) → suc o ≤ x
        front x zero z m n v = absurd (omega arith)
        front x (suc y) zero m n v = absurd (omega arith)
        front zero (suc y) (suc z) m n v = absurd (l y z (omega arith) v)
        front (suc x) (suc y) (suc z) m n v = omega (arith, f x y z (omega arith) (omega arith) v)

        middle : (y z : ℕ) → suc o < y → y < z → Open (slot s o) (slot (a ∷ s) y) (slot (a ∷ s) z) → suc p ≤ y
        middle zero z m n v = absurd (omega arith)
        middle (suc y) zero m n v = absurd (omega arith)
        middle (suc y) (suc z) m n v = omega (arith, g y z (omega arith) (omega arith) v)

        after : (z : ℕ) → suc p < z → Open (slot s o) (slot s p) (slot (a ∷ s) z) → suc q ≤ z
        after zero m v = absurd (omega arith)
        after (suc z) m v = omega (arith, d z (omega arith) v)
    go t (nothing l) w (nothing f) = nothing (λ x. front x)
      where
        front : (x y z : ℕ) → x < y → y < z → Open (slot (a ∷ s) x) (slot (a ∷ s) y) (slot (a ∷ s) z) → ⊥
        front x zero z m n v = omega arith
        front x (suc y) zero m n v = omega arith
        front zero (suc y) (suc z) m n v = l y z (omega arith) v
        front (suc x) (suc y) (suc z) m n v = f x y z (omega arith) (omega arith) v

-- ---- first by the comparison

pub data Found (s : List ℕ) : Option Merge → Type 0 where
  found : (m : Merge) → First s m → Found s (some m)
  nothing : Ended s → Found s none

pub first_found : (s : List ℕ) → Found s (first_of 0 s)
unfolding Ended NotAfter
first_found s = go (first_of 0 s) (whole s 0)
  where
    go : (o : Option Merge) → Whole 0 s o → Found s o
    go w (found x y z r e b c h f g d) = found r (subst (First s) (sym (e ∙ plain)) (record {
      i<j = b;
      j<k = c;
      isopen = open_at s (merge x y z) h;
      least =
          λ q u. let v = up q u in place (ascending q) v.0 v.1 v.2.open3 (ℕ_discrete (ascending q).i x) (ℕ_discrete (ascending q).j y);
    }))
      where
        plain : merge (0 + x) (0 + y) (0 + z) ≡ merge x y z
        plain = merge-by (omega arith) (omega arith) (omega arith)

        up : (q : Merge) → OpenAt s q → ((ascending q).i < (ascending q).j) × ((ascending q).j < (ascending q).k) × OpenAt s (ascending q)
        up q u = let l = ascends q u.i≢j u.j≢k u.i≢k in (l.0, l.1, open-ascending s q u)

        place : (q : Merge) → q.i < q.j → q.j < q.k → Open (slot s q.i) (slot s q.j) (slot s q.k) → Dec (q.i ≡ x) → Dec (q.j ≡ y)
            → NotAfter (merge x y z) q
        place q l m o (no n) v = inl (omega (arith, f q.i q.j q.k l m o, n))
        place q l m o (yes p) v =
            let o1 : Open (slot s x) (slot s q.j) (slot s q.k) = subst (λ (w : ℕ). Open (slot s w) (slot s q.j) (slot s q.k)) p o in
            inr (
              sym p,
              elim v [
                | no n ↦ inl (omega (arith, g q.j q.k (omega arith) m o1, n))
                | yes r ↦ inr (sym r, d q.k (omega arith) (subst (λ (w : ℕ). Open (slot s x) (slot s w) (slot s q.k)) r o1))
              ],
            )
    go w (nothing f) = nothing (λ m o.
        let l = ascends m o.i≢j o.j≢k o.i≢k in
        f (ascending m).i (ascending m).j (ascending m).k l.0 l.1 (open-ascending s m o).open3)
