-- Lines each of which lies in two clusters that hold another of them: from line to cluster to line one comes round. Assumes nothing.
use Rattle.std.specs.Prelude.{◌≡◌, ◌≢◌, ◌⊎◌, ◌+◌, ◌-◌, ◌^◌, ◌≤◌, ◌<◌}
use Rattle.theory.specs.Prelude.{refl, sym, ap, ◌∙◌, subst, inl, inr, List, ℕ, zero, suc, arith}
use Rattle.theory.specs.Prelude.{ℕ_discrete, ones}
use Rattle.theory.specs.Set.{◌∈◌, ◌∩◌, ◌∪◌, at}
use Rattle.theory.specs.Set.Laws.{at-le, at_zero, at_other, size-zero, ⊑⇒size≤, size-add, some, other, ∈-∩⁻, ∈-∪⁻}
use Rattle.theory.specs.Merge.{live}
use Rattle.theory.specs.Ring.{Ring}
use Rattle.theory.specs.Ring.Strip.{Rich}

-- ---- the set of the first numbers of a sequence

unfoldable seen : ℕ → (ℕ → ℕ) → ℕ
seen zero f = zero
seen (suc m) f = 2 ^ f m ∪ seen m f

seen-in : (m : ℕ) (f : ℕ → ℕ) (x : ℕ) → x ∈ seen m f → (i : ℕ) × (i < m) × (x ≡ f i)
unfolding seen
seen-in zero f x e = absurd (omega (arith, at_zero x))
seen-in (suc m) f x e = by (ℕ_discrete x (f m)) (∈-∪⁻ x (2 ^ f m) (seen m f) e) (seen-in m f x)
  where
    by : Dec (x ≡ f m) → (x ∈ 2 ^ f m) ⊎ (x ∈ seen m f) → (x ∈ seen m f → (i : ℕ) × (i < m) × (x ≡ f i))
        → (i : ℕ) × (i < suc m) × (x ≡ f i)
    by (yes p) h ih = (m, omega arith, p)
    by (no n) (inl h) ih = absurd (omega (arith, at_other x (f m) n))
    by (no n) (inr h) ih = let r = ih h in (r.0, omega (arith, r.1), r.2)

seen_size : (m : ℕ) (f : ℕ → ℕ) → ((i j : ℕ) → i < j → j < m → f i ≡ f j → ⊥) → ones (seen m f) ≡ m
unfolding seen
seen_size zero f h = size-zero
seen_size (suc m) f h =
    size-add (seen m f) (f m) (new (ℕ_discrete (at (f m) (seen m f)) 1)) ∙ ap suc (seen_size m f (λ i j l k. h i j l (omega arith)))
  where
    new : Dec (f m ∈ seen m f) → at (f m) (seen m f) ≡ 0
    new (yes e) = let r = seen-in m f (f m) e in absurd (h r.0 m r.1 (omega arith) (sym r.2))
    new (no n) = omega (arith, at-le (f m) (seen m f))

-- different elements of a set are not more than it has
pub seen_most : (m : ℕ) (f : ℕ → ℕ) (a : ℕ) → ((i j : ℕ) → i < j → j < m → f i ≡ f j → ⊥) → ((i : ℕ) → i < m → f i ∈ a) → m ≤ ones a
seen_most m f a h k = omega (arith, seen_size m f h, ⊑⇒size≤ a (seen m f) (record { le = λ x. digit x (ℕ_discrete (at x (seen m f)) 1) }))
  where
    digit : (x : ℕ) → Dec (x ∈ seen m f) → at x (seen m f) ≤ at x a
    digit x (yes e) = let r = seen-in m f x e in omega (arith, k r.0 r.1, ap (λ (z : ℕ). at z a) r.2)
    digit x (no n) = omega (arith, at-le x (seen m f))

-- ---- a sequence with another value at one place

pick : {P : Type 0} → Dec P → ℕ → ℕ → ℕ
pick (yes p) v w = v
pick (no n) v w = w

put : ℕ → ℕ → (ℕ → ℕ) → ℕ → ℕ
unfolding pick
put k v f i = pick (ℕ_discrete i k) v (f i)

put-elim : (k v : ℕ) (f : ℕ → ℕ) (i : ℕ) (P : ℕ → Type 0) → (i ≡ k → P v) → (i ≢ k → P (f i)) → P (put k v f i)
unfolding put pick
put-elim k v f i P a b = by (ℕ_discrete i k)
  where
    by : (d : Dec (i ≡ k)) → P (pick d v (f i))
    by (yes e) = a e
    by (no n) = b n

-- ---- the last number below m with a property

data Last (P : ℕ → Type 0) (m : ℕ) : Type 0 where
  found : (i : ℕ) → i < m → P i → ((j : ℕ) → i < j → j < m → P j → ⊥) → Last P m
  nothing : ((j : ℕ) → j < m → P j → ⊥) → Last P m

last : (P : ℕ → Type 0) → ((i : ℕ) → Dec (P i)) → (m : ℕ) → Last P m
last P d zero = nothing (λ j h p. omega arith)
last P d (suc m) = by (d m) (last P d m)
  where
    by : Dec (P m) → Last P m → Last P (suc m)
    by (yes p) r = found m (omega arith) p (λ j h k q. omega arith)
    by (no n) (found i h p f) = found i (omega arith) p (λ j a b q. top j (ℕ_discrete j m) a b q)
      where
        top : (j : ℕ) → Dec (j ≡ m) → i < j → j < suc m → P j → ⊥
        top j (yes e) a b q = n (subst P e q)
        top j (no k) a b q = f j a (omega arith) q
    by (no n) (nothing f) = nothing (λ j b q. top j (ℕ_discrete j m) b q)
      where
        top : (j : ℕ) → Dec (j ≡ m) → j < suc m → P j → ⊥
        top j (yes e) b q = n (subst P e q)
        top j (no k) b q = f j (omega arith) q

module _ (s : List ℕ) (l : ℕ) (rich : Rich s l) where
  -- different clusters 0 to m, each entered by a line of its own that lies in the one before it
  record Walk (m : ℕ) (c e : ℕ → ℕ) : Type 0 where
    lives : (i : ℕ) → i ≤ m → live s (c i)
    many : (i : ℕ) → i ≤ m → 2 ≤ ones (c i ∩ l)
    kind : (i : ℕ) → i ≤ m → e i ∈ l
    enters : (i : ℕ) → i ≤ m → e i ∈ c i
    leaves : (i : ℕ) → i < m → e (suc i) ∈ c i
    clusters : (i j : ℕ) → i < j → j ≤ m → c i ≡ c j → ⊥
    lines : (i j : ℕ) → i < j → j ≤ m → e i ≡ e j → ⊥

  module _ (m : ℕ) (c e : ℕ → ℕ) (w : Walk m c e) (x : ℕ) (xl : x ∈ l) (xm : x ∈ c m) (xe : x ≢ e m) where
    -- the line leads back to a cluster of the walk
    round : (i : ℕ) → i < m → x ∈ c i → ((j : ℕ) → i < j → j < m → x ∈ c j → ⊥) → Ring s l (suc (m - i))
    round i im xi near = record {
      cluster = cl;
      line = ln;
      lives = λ j h. put-elim (suc k) (c i) from j (live s) (λ p. absurd (omega arith)) (λ n. w.lives (i + j) (omega arith));
      is_a_line = λ j h. put-elim k x to j (λ z. z ∈ l) (λ p. xl) (λ n. w.kind (suc (i + j)) (omega arith));
      leaves = λ j h.
          put-elim (suc k) (c i) from j (λ z. ln j ∈ z) (λ p. absurd (omega arith))
          (λ q. put-elim k x to j (λ z. z ∈ from j)
          (λ p. subst (λ (z : ℕ). x ∈ c z) (omega arith) xm) (λ n. w.leaves (i + j) (omega arith)));
      enters = λ j h.
          put-elim (suc k) (c i) from (suc j) (λ z. ln j ∈ z)
          (λ q. put-elim k x to j (λ z. z ∈ c i) (λ p. xi) (λ n. absurd (omega arith)))
          (λ q.
          put-elim k x to j (λ z. z ∈ from (suc j)) (λ p. absurd (omega arith))
          (λ n. subst (λ (z : ℕ). to j ∈ c z) (omega arith) (w.enters (suc (i + j)) (omega arith))));
      closed =
          put-elim (suc k) (c i) from (suc k) (λ z. z ≡ cl 0)
          (λ p. put-elim (suc k) (c i) from 0 (λ z. c i ≡ z) (λ q. absurd (omega arith)) (λ q. ap c (omega arith))) (λ n. absurd (n refl));
      clusters_differ = λ a b h h'.
          put-elim (suc k) (c i) from a (λ z. z ≡ cl b → ⊥) (λ p. absurd (omega arith))
          (λ n.
          put-elim (suc k) (c i) from b (λ z. from a ≡ z → ⊥) (λ p. absurd (omega arith))
          (λ q. w.clusters (i + a) (i + b) (omega arith) (omega arith)));
      lines_differ = λ a b h h'.
          put-elim k x to a (λ z. z ≡ ln b → ⊥) (λ p. absurd (omega arith))
          (λ n.
          put-elim k x to b (λ z. to a ≡ z → ⊥) (λ p q. not-old a (omega arith) q)
          (λ q. w.lines (suc (i + a)) (suc (i + b)) (omega arith) (omega arith)));
    }
      where
        k : ℕ
        k = m - i

        from : ℕ → ℕ
        from j = c (i + j)

        to : ℕ → ℕ
        to j = e (suc (i + j))

        cl : ℕ → ℕ
        cl = put (suc k) (c i) from

        ln : ℕ → ℕ
        ln = put k x to

        not-old : (a : ℕ) → a < m - i → e (suc (i + a)) ≡ x → ⊥
        not-old a h q = by (ℕ_discrete (suc (i + a)) m)
          where
            by : Dec (suc (i + a) ≡ m) → ⊥
            by (yes p) = xe (sym q ∙ ap e p)
            by (no n) =
                near (suc (i + a)) (omega arith) (omega arith)
                (subst (λ (z : ℕ). z ∈ c (suc (i + a))) q (w.enters (suc (i + a)) (omega arith)))

    -- or to a new one
    further : ((j : ℕ) → j < m → x ∈ c j → ⊥) → (d : ℕ) → live s d → d ≢ c m → x ∈ d → 2 ≤ ones (d ∩ l)
        → Walk (suc m) (put (suc m) d c) (put (suc m) x e)
    further new d fd dn xd dm = record {
      lives = λ i h. put-elim (suc m) d c i (live s) (λ p. fd) (λ n. w.lives i (omega arith));
      many = λ i h. put-elim (suc m) d c i (λ z. 2 ≤ ones (z ∩ l)) (λ p. dm) (λ n. w.many i (omega arith));
      kind = λ i h. put-elim (suc m) x e i (λ z. z ∈ l) (λ p. xl) (λ n. w.kind i (omega arith));
      enters = λ i h.
          put-elim (suc m) d c i (λ z. put (suc m) x e i ∈ z)
          (λ p. put-elim (suc m) x e i (λ z. z ∈ d) (λ q. xd) (λ n. absurd (n p)))
          (λ n. put-elim (suc m) x e i (λ z. z ∈ c i) (λ q. absurd (n q)) (λ q. w.enters i (omega arith)));
      leaves = λ i h.
          put-elim (suc m) d c i (λ z. put (suc m) x e (suc i) ∈ z) (λ p. absurd (omega arith))
          (λ n.
          put-elim (suc m) x e (suc i) (λ z. z ∈ c i) (λ q. subst (λ (z : ℕ). x ∈ c z) (omega arith) xm) (λ q. w.leaves i (omega arith)));
      clusters = λ i j h h'.
          put-elim (suc m) d c i (λ z. z ≡ put (suc m) d c j → ⊥) (λ p. absurd (omega arith))
          (λ n.
          put-elim (suc m) d c j (λ z. c i ≡ z → ⊥) (λ p q. not-c i (omega arith) (ℕ_discrete i m) q) (λ q. w.clusters i j h (omega arith)));
      lines = λ i j h h'.
          put-elim (suc m) x e i (λ z. z ≡ put (suc m) x e j → ⊥) (λ p. absurd (omega arith))
          (λ n.
          put-elim (suc m) x e j (λ z. e i ≡ z → ⊥) (λ p q. not-e i (omega arith) (ℕ_discrete i m) q) (λ q. w.lines i j h (omega arith)));
    }
      where
        not-c : (i : ℕ) → i ≤ m → Dec (i ≡ m) → c i ≡ d → ⊥
        not-c i h (yes p) q = dn (sym q ∙ ap c p)
        not-c i h (no n) q = new i (omega arith) (subst (λ (z : ℕ). x ∈ z) (sym q) xd)

        not-e : (i : ℕ) → i ≤ m → Dec (i ≡ m) → e i ≡ x → ⊥
        not-e i h (yes p) q = xe (sym q ∙ ap e p)
        not-e i h (no n) q = new i (omega arith) (subst (λ (z : ℕ). z ∈ c i) q (w.enters i h))

  walk-round : (f m : ℕ) (c e : ℕ → ℕ) → Walk m c e → ones l ≤ m + f → (count : ℕ) × (2 ≤ count) × Ring s l count
  walk-round zero m c e w h =
      absurd (omega (arith, seen_most (suc m) e l (λ i j a b. w.lines i j a (omega arith)) (λ i a. w.kind i (omega arith))))
  walk-round (suc f) m c e w h =
      let o = other (c m ∩ l) (e m) (w.many m (omega arith)) in
      let i = ∈-∩⁻ o.0 (c m) l o.1 in
      step (λ c e w. walk-round f (suc m) c e w (omega arith)) o.0 i.1 i.0 o.2
      (last (λ j. o.0 ∈ c j) (λ j. ℕ_discrete (at o.0 (c j)) 1) m)
    where
      step : ((c e : ℕ → ℕ) → Walk (suc m) c e → (count : ℕ) × (2 ≤ count) × Ring s l count) → (x : ℕ) → x ∈ l → x ∈ c m → x ≢ e m
          → Last (λ j. x ∈ c j) m → (count : ℕ) × (2 ≤ count) × Ring s l count
      step ih x xl xm xe (found i im xi near) = (suc (m - i), omega arith, round m c e w x xl xm xe i im xi near)
      step ih x xl xm xe (nothing new) =
          let d = rich.each x xl (c m) in
          ih (put (suc m) d.0 c) (put (suc m) x e) (further m c e w x xl xm xe new d.0 d.1 d.2 d.3 d.4)

  -- there is a ring
  pub comes-round : 1 ≤ ones l → (count : ℕ) × (2 ≤ count) × Ring s l count
  comes-round h =
      let x = some l h in
      let d = rich.each x.0 x.1 0 in
      walk-round (ones l) 0 (λ i. d.0) (λ i. x.0)
      (record {
        lives = λ i k. d.1;
        many = λ i k. d.4;
        kind = λ i k. x.1;
        enters = λ i k. d.3;
        leaves = λ i k. absurd (omega arith);
        clusters = λ i j a b. absurd (omega arith);
        lines = λ i j a b. absurd (omega arith);
      })
      (omega arith)
