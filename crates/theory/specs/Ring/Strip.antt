-- What stripping leaves: a ring's lines stay, and if lines are left each lies in two clusters that hold another of them. Assumes nothing.
use Rattle.std.specs.Prelude.{◌≡◌, ◌≢◌, ◌∷◌, ◌≤◌, ◌<◌}
use Rattle.theory.specs.Prelude.{refl, sym, ap, ◌∙◌, subst, ⊎_elim, Bool, true, false, cond, List, [], ℕ, zero, suc}
use Rattle.theory.specs.Prelude.{arith, ℕ_discrete, dec_le, dec_lt, leb, T, leb→le, le→leb, ones}
use Rattle.theory.specs.Set.{◌∈◌, ◌∩◌, ◌⊑◌, at}
use Rattle.theory.specs.Set.Laws.{at-le, at_zero, ⊑-size-≡, ⊑_refl, ⊑_trans, two_in, both, ∈-∩⁻, ∈-∪⁻, ∈-∪ˡ, ∈-∪ʳ}
use Rattle.theory.specs.Merge.{slot, live}
use Rattle.theory.specs.Merge.Family.{Distinct}
use Rattle.theory.specs.Ring.{Ring, linked, once, strip, stripped}

-- each line of the set lies in a cluster, other than any one, that holds two or more of the set
pub record Rich (s : List ℕ) (l : ℕ) : Type 0 where
  pub each : (x : ℕ) → x ∈ l → (c : ℕ) → (d : ℕ) × live s d × (d ≢ c) × (x ∈ d) × (2 ≤ ones (d ∩ l))

-- ---- the lines of a cluster

linked-in : (l c x : ℕ) → x ∈ linked l c → (x ∈ c) × (x ∈ l) × (2 ≤ ones (c ∩ l))
unfolding linked
linked-in l c x = by (leb 2 (ones (c ∩ l))) refl
  where
    by : (b : Bool) → leb 2 (ones (c ∩ l)) ≡ b → x ∈ cond b (c ∩ l) 0 → (x ∈ c) × (x ∈ l) × (2 ≤ ones (c ∩ l))
    by true e h = let r = ∈-∩⁻ x c l h in (r.0, r.1, leb→le 2 (ones (c ∩ l)) (subst T (sym e) tt))
    by false e h = absurd (omega (arith, at_zero x))

in-linked : (l c x : ℕ) → x ∈ c → x ∈ l → 2 ≤ ones (c ∩ l) → x ∈ linked l c
unfolding linked
in-linked l c x p q h = by (leb 2 (ones (c ∩ l))) (le→leb 2 (ones (c ∩ l)) h)
  where
    by : (b : Bool) → T b → x ∈ cond b (c ∩ l) 0
    by true t = both x c l p q
    by false t = absurd t

none-linked : (l x : ℕ) → x ∈ linked l zero → ⊥
none-linked l x h = omega (arith, (linked-in l zero x h).0, at_zero x)

-- ---- in some, in two

once-some : (l : ℕ) (s : List ℕ) (x : ℕ) → x ∈ once l s → (n : ℕ) × (x ∈ linked l (slot s n))
unfolding once
once-some l [] x h = absurd (omega (arith, at_zero x))
once-some l (c ∷ s) x h =
    ⊎_elim (λ e. (zero, e)) (λ k. let r = once-some l s x k in (suc r.0, r.1)) (∈-∪⁻ x (linked l c) (once l s) h)

some-once : (l : ℕ) (s : List ℕ) (x n : ℕ) → x ∈ linked l (slot s n) → x ∈ once l s
unfolding once
some-once l [] x n h = absurd (none-linked l x h)
some-once l (c ∷ s) x zero h = ∈-∪ˡ x (linked l c) (once l s) h
some-once l (c ∷ s) x (suc n) h = ∈-∪ʳ x (linked l c) (once l s) (some-once l s x n h)

strip-two : (l : ℕ) (s : List ℕ) (x : ℕ) → x ∈ strip l s
    → (i j : ℕ) × (i < j) × (x ∈ linked l (slot s i)) × (x ∈ linked l (slot s j))
unfolding strip
strip-two l [] x h = absurd (omega (arith, at_zero x))
strip-two l (c ∷ s) x h =
    ⊎_elim
    (λ k. let p = ∈-∩⁻ x (linked l c) (once l s) k in let r = once-some l s x p.1 in (zero, suc r.0, omega arith, p.0, r.1))
    (λ k. let r = strip-two l s x k in (suc r.0, suc r.1, omega (arith, r.2), r.3, r.4))
    (∈-∪⁻ x (linked l c ∩ once l s) (strip l s) h)

two-strip : (l : ℕ) (s : List ℕ) (x i j : ℕ) → i < j → x ∈ linked l (slot s i) → x ∈ linked l (slot s j) → x ∈ strip l s
unfolding strip
two-strip l [] x i j o h k = absurd (none-linked l x h)
two-strip l (c ∷ s) x i zero o h k = absurd (omega arith)
two-strip l (c ∷ s) x zero (suc j) o h k =
    ∈-∪ˡ x (linked l c ∩ once l s) (strip l s) (both x (linked l c) (once l s) h (some-once l s x j k))
two-strip l (c ∷ s) x (suc i) (suc j) o h k = ∈-∪ʳ x (linked l c ∩ once l s) (strip l s) (two-strip l s x i j (omega arith) h k)

differ-strip : (l : ℕ) (s : List ℕ) (x i j : ℕ) → i ≢ j → x ∈ linked l (slot s i) → x ∈ linked l (slot s j) → x ∈ strip l s
differ-strip l s x i j n h k = by (dec_lt i j)
  where
    by : Dec (i < j) → x ∈ strip l s
    by (yes o) = two-strip l s x i j o h k
    by (no m) = two-strip l s x j i (omega (arith, n)) k h

pub strip-sub : (l : ℕ) (s : List ℕ) → strip l s ⊑ l
strip-sub l s = record { le = λ x. digit x (ℕ_discrete (at x (strip l s)) 1) }
  where
    digit : (x : ℕ) → Dec (x ∈ strip l s) → at x (strip l s) ≤ at x l
    digit x (yes e) = let r = strip-two l s x e in omega (arith, (linked-in l (slot s r.0) x r.3).1)
    digit x (no n) = omega (arith, at-le x (strip l s))

-- ---- stripping comes to an end

pub stripped-sub : (k : ℕ) (s : List ℕ) (l : ℕ) → stripped k s l ⊑ l
unfolding stripped
stripped-sub zero s l = ⊑_refl l
stripped-sub (suc k) s l = ⊑_trans (stripped-sub k s (strip l s)) (strip-sub l s)

pub stripped-same : (k : ℕ) (s : List ℕ) (l : ℕ) → strip l s ≡ l → stripped k s l ≡ l
unfolding stripped
stripped-same zero s l e = refl
stripped-same (suc k) s l e = ap (stripped k s) e ∙ stripped-same k s l e

pub stripped-ends : (k : ℕ) (s : List ℕ) (l : ℕ) → ones l ≤ k → strip (stripped k s l) s ≡ stripped k s l
unfolding stripped
stripped-ends zero s l h = ⊑-size-≡ l (strip l s) (strip-sub l s) (omega arith)
stripped-ends (suc k) s l h = by (stripped-ends k s (strip l s)) (dec_le (ones l) (ones (strip l s)))
  where
    by : (ones (strip l s) ≤ k → strip (stripped k s (strip l s)) s ≡ stripped k s (strip l s)) → Dec (ones l ≤ ones (strip l s))
        → strip (stripped k s (strip l s)) s ≡ stripped k s (strip l s)
    by ih (yes m) =
        let e = ⊑-size-≡ l (strip l s) (strip-sub l s) m in
        let d : stripped k s (strip l s) ≡ l = ap (stripped k s) e ∙ stripped-same k s l e in
        ap (λ (z : ℕ). strip z s) d ∙ e ∙ sym d
    by ih (no n) = ih (omega arith)

-- ---- what is left is rich

pub rich : (s : List ℕ) → Distinct s → (l : ℕ) → strip l s ≡ l → Rich s l
unfolding Distinct
rich s d l e = record { each = λ x h c. pick x c (strip-two l s x (ap (at x) e ∙ h)) }
  where
    Found : ℕ → ℕ → Type 0
    Found x c = (d : ℕ) × live s d × (d ≢ c) × (x ∈ d) × (2 ≤ ones (d ∩ l))

    alive : (x n : ℕ) → x ∈ linked l (slot s n) → slot s n ≢ 0
    alive x n h z = none-linked l x (subst (λ (w : ℕ). x ∈ linked l w) z h)

    take : (x c n : ℕ) → slot s n ≢ c → x ∈ linked l (slot s n) → Found x c
    take x c n ne h = let r = linked-in l (slot s n) x h in (slot s n, (n, refl, alive x n h), ne, r.0, r.2)

    pick : (x c : ℕ) → (i j : ℕ) × (i < j) × (x ∈ linked l (slot s i)) × (x ∈ linked l (slot s j)) → Found x c
    pick x c (i, j, o, h, k) = by (ℕ_discrete (slot s i) c)
      where
        by : Dec (slot s i ≡ c) → Found x c
        by (no n) = take x c i n h
        by (yes p) = take x c j (λ q. omega (arith, d i j (alive x i h) (p ∙ sym q))) k

-- ---- a ring's lines stay

module _ (s : List ℕ) (lines count : ℕ) (r : Ring s lines count) (many : 2 ≤ count) where
  -- the line by which a cluster is entered
  entry : (i : ℕ) → i < count → (j : ℕ) × (j < count) × (j ≢ i) × (r.line j ∈ r.cluster i)
  entry zero h = by count refl
    where
      by : (n : ℕ) → count ≡ n → (j : ℕ) × (j < count) × (j ≢ 0) × (r.line j ∈ r.cluster 0)
      by zero e = absurd (omega arith)
      by (suc n) e = (
        n,
        omega arith,
        λ z. omega arith,
        subst (λ (c : ℕ). r.line n ∈ c) (ap r.cluster (sym e) ∙ r.closed) (r.enters n (omega arith)),
      )
  entry (suc i) h = (i, omega arith, λ z. omega arith, r.enters i (omega arith))

  -- the next cluster is another
  onward : (i : ℕ) → i < count → (j : ℕ) × (j < count) × (j ≢ i) × (r.line i ∈ r.cluster j)
  onward i h = by (ℕ_discrete (suc i) count)
    where
      by : Dec (suc i ≡ count) → (j : ℕ) × (j < count) × (j ≢ i) × (r.line i ∈ r.cluster j)
      by (yes e) = (0, omega arith, λ z. omega arith, subst (λ (c : ℕ). r.line i ∈ c) (ap r.cluster e ∙ r.closed) (r.enters i h))
      by (no n) = (suc i, omega arith, λ z. omega arith, r.enters i h)

  apart_by : (f : ℕ → ℕ) → ((i j : ℕ) → i < j → j < count → f i ≡ f j → ⊥) → (i j : ℕ) → i < count → j < count → i ≢ j → f i ≢ f j
  apart_by f d i j hi hj n e = by (dec_lt i j)
    where
      by : Dec (i < j) → ⊥
      by (yes o) = d i j o hj e
      by (no m) = d j i (omega (arith, n)) hi (sym e)

  module _ (l : ℕ) (has : (i : ℕ) → i < count → r.line i ∈ l) where
    two-of : (i : ℕ) → i < count → 2 ≤ ones (r.cluster i ∩ l)
    two-of i h =
        let e = entry i h in
        two_in (r.cluster i ∩ l) (r.line e.0) (r.line i) (both (r.line e.0) (r.cluster i) l e.3 (has e.0 e.1))
        (both (r.line i) (r.cluster i) l (r.leaves i h) (has i h)) (apart_by r.line r.lines_differ e.0 i e.1 h e.2)

    at_place : (i : ℕ) (h : i < count) (x : ℕ) → x ∈ r.cluster i → x ∈ l → x ∈ linked l (slot s (r.lives i h).0)
    at_place i h x p q =
        subst (λ (c : ℕ). x ∈ linked l c) (sym (r.lives i h).1) (in-linked l (r.cluster i) x p q (two-of i h))

    stays : (i : ℕ) → i < count → r.line i ∈ strip l s
    stays i h =
        let o = onward i h in
        differ-strip l s (r.line i) (r.lives i h).0 (r.lives o.0 o.1).0
        (λ e.
        apart_by r.cluster r.clusters_differ o.0 i o.1 h o.2
        (sym (r.lives o.0 o.1).1 ∙ ap (slot s) (sym e) ∙ (r.lives i h).1))
        (at_place i h (r.line i) (r.leaves i h) (has i h)) (at_place o.0 o.1 (r.line i) o.3 (has i h))

  pub ring-stays : (k l : ℕ) → ((i : ℕ) → i < count → r.line i ∈ l) → (i : ℕ) → i < count → r.line i ∈ stripped k s l
  unfolding stripped
  ring-stays zero l has i h = has i h
  ring-stays (suc k) l has i h = ring-stays k (strip l s) (stays l has) i h
