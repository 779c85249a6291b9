-- The chain that is computed is the shortest run, first place by place, or none where there is no run; there is no
-- other (Chain/Laws). Assumes nothing.
use Rattle.std.specs.Prelude.{◌≡◌, ◌⊎◌, ◌∷◌, ◌^◌, ◌≤◌, ◌<◌}
use Rattle.theory.specs.Prelude.{refl, sym, ap, ◌∙◌, subst, inl, inr, ⊎_elim, Bool, true, false, cond, List}
use Rattle.theory.specs.Prelude.{[]}
use Rattle.theory.specs.Prelude.{some, ℕ, zero, suc, arith, ℕ_discrete, dec_lt, dec_le, pow-lt, or_lt}
use Rattle.theory.specs.Prelude.{ones, ones-le, length}
use Rattle.theory.specs.Set.{◌∈◌, ◌∪◌, at, ◌⊑◌}
use Rattle.theory.specs.Set.Laws.{at_same, at-le, bit, size-pow, size-add, ⊑-size-≡, out}
use Rattle.theory.specs.Merge.{slot}
use Rattle.chain.specs.Chain.{Share, From, Run, First, same, here, next, Shortest, Chain}
use Rattle.chain.specs.Layers.{shares, grown, reached, way, distance, chain_of}
use Rattle.chain.specs.Kept.{Far}
use Rattle.chain.specs.Layers.Laws.{shared_at, share, single-is, single-share, grown-keeps, first_is}
use Rattle.chain.specs.Layers.Laws.{reached-more}
use Rattle.chain.specs.Layers.Laws.{reached-before, far-next, distance-first, far-distance, chain-some}
use Rattle.chain.specs.Layers.Laws.{chain-none, length-way}

module _ (s : List ℕ) (v : ℕ) where
  -- ---- runs, and what goes on from a set

  run-from : (u : ℕ) (r : List ℕ) → Run s u v r → From s v (2 ^ u) r
  run-from u [] e = subst (λ (z : ℕ). z ∈ 2 ^ u) e (at_same u)
  run-from u (k ∷ r) (h, f) = (share u (at_same u) h, f)

  from-run : (u : ℕ) (r : List ℕ) → From s v (2 ^ u) r → Run s u v r
  from-run u [] e = sym (single-is u v e)
  from-run u (k ∷ r) (h, f) = (single-share u h, f)

  -- t clusters or fewer lead only from what shares an element with the first t layers
  from-reached : (t a : ℕ) (r : List ℕ) → From s v a r → length r ≤ t → Share a (reached s v t)
  unfolding reached
  from-reached zero a [] f l = share v f (at_same v)
  from-reached (suc t) a [] f l = reached-more s v t (from-reached t a [] f (omega arith))
  from-reached zero a (k ∷ r) f l = absurd (omega arith)
  from-reached (suc t) a (k ∷ r) (f, g) l = reached-before s v t k f (from-reached t (slot s k) r g (omega arith))

  -- ---- the way is the first of its length

  record Best (t a : ℕ) (r : List ℕ) : Type 0 where
    from : From s v a r
    first : (q : List ℕ) → From s v a q → length q ≡ t → First r q

  best-next : (t a k : ℕ) {r : List ℕ} → Share a (slot s k)
      → ((i : ℕ) → Share a (slot s i) × Share (slot s i) (reached s v t) → k ≤ i)
      → Best t (slot s k) r → Best (suc t) a (k ∷ r)
  best-next t a k {r} sh least b = record { from = (sh, b.from); first = compare }
    where
      compare : (q : List ℕ) → From s v a q → length q ≡ suc t → First (k ∷ r) q
      compare [] f z = absurd (omega arith)
      compare (i ∷ q) (f, g) z =
          let low = least i (f, from-reached t (slot s i) q g (omega arith)) in
          elim (ℕ_discrete i k) [
            | yes e ↦ subst (λ (y : ℕ). First (k ∷ r) (y ∷ q)) (sym e)
                (next k (b.first q (subst (λ (y : ℕ). From s v (slot s y) q) e g) (omega arith)))
            | no n ↦ let l : k < i = omega (arith, n, low) in here l
          ]

  way-best : (t a : ℕ) → Far s v t a → Best t a (way s v t a)
  unfolding way reached
  way-best zero a far =
      let (x, p, q) = shared_at far.meets in
      record { from = subst (λ (y : ℕ). y ∈ a) (single-is v x q) p; first = λ q f z. nil q z }
    where
      nil : (q : List ℕ) → length q ≡ 0 → First [] q
      nil [] z = same
      nil (k ∷ q) z = absurd (omega arith)
  way-best (suc t) a far =
      let o = far-next s v t a far in
      best-next t a _ o.from (λ i b. (first_is a (reached s v t) s i b).least) (way-best t _ o.far)

  shortest : (u t : ℕ) → Far s v t (2 ^ u) → Shortest s u v (way s v t (2 ^ u))
  shortest u t far =
      let b = way-best t (2 ^ u) far in
      let n = length-way s v t (2 ^ u) in
      record {
        run = from-run u (way s v t (2 ^ u)) b.from;
        fewest = λ q f. elim (dec_le t (length q)) [
          | yes l ↦ omega (arith, n, l)
          | no m ↦ absurd (far.misses (length q) (omega (arith, m))
              (from-reached (length q) (2 ^ u) q (run-from u q f) (omega arith)))
        ];
        first = λ q f z. b.first q (run-from u q f) (z ∙ n);
      }

  -- ---- a layer that brings nothing new is the last

  last-layer : (m : ℕ) → reached s v (suc m) ≡ reached s v m → (a : ℕ) (r : List ℕ) → From s v a r
      → Share a (reached s v m)
  last-layer m e a [] f = from-reached m a [] f (omega arith)
  last-layer m e a (k ∷ r) (f, g) = subst (Share a) e (reached-before s v m k f (last-layer m e (slot s k) r g))

  layer⊑ : (t : ℕ) → reached s v t ⊑ reached s v (suc t)
  unfolding reached
  layer⊑ t = record {
    le = λ x. ⊎_elim (λ z. omega (arith, z))
        (λ e. omega (arith, e, grown-keeps (reached s v t) x s (reached s v t) e))
        (bit (at x (reached s v t)) (at-le x (reached s v t)));
  }

  -- a layer before brings nothing new, or each has brought an element
  grows : (t : ℕ) → ((m : ℕ) × (m < t) × (reached s v (suc m) ≡ reached s v m)) ⊎ (suc t ≤ ones (reached s v t))
  unfolding reached
  grows zero = inr (omega (arith, size-pow v))
  grows (suc t) = ⊎_elim (λ (m, l, e). inl (m, omega arith, e))
      (λ h. by h (ℕ_discrete (reached s v (suc t)) (reached s v t))) (grows t)
    where
      by : suc t ≤ ones (reached s v t) → Dec (reached s v (suc t) ≡ reached s v t)
          → ((m : ℕ) × (m < suc t) × (reached s v (suc m) ≡ reached s v m)) ⊎ (suc (suc t) ≤ ones (reached s v (suc t)))
      by h (yes e) = inl (t, omega arith, e)
      by h (no n) = elim (dec_le (ones (reached s v (suc t))) (ones (reached s v t))) [
        | yes l ↦ absurd (n (sym (⊑-size-≡ (reached s v (suc t)) (reached s v t) (layer⊑ t) l)))
        | no m ↦ inr (omega (arith, m))
      ]

-- ---- among 64 elements

grown-low : (s : List ℕ) (d all : ℕ) → ((k : ℕ) → slot s k < 2 ^ 64) → all < 2 ^ 64 → grown s d all < 2 ^ 64
unfolding grown ◌∪◌
grown-low [] d all few l = l
grown-low (c ∷ s) d all few l = grown-low s d _ (λ k. few (suc k)) (by (shares c d))
  where
    by : (b : Bool) → cond b (all ∪ c) all < 2 ^ 64
    by true = or_lt 64 all c l (few 0)
    by false = l

module _ (s : List ℕ) (few : (k : ℕ) → slot s k < 2 ^ 64) (u v : ℕ) (low : u < 64) (end : v < 64) where
  reached-low : (t : ℕ) → reached s v t < 2 ^ 64
  unfolding reached
  reached-low zero = pow-lt end
  reached-low (suc t) = grown-low s (reached s v t) (reached s v t) few (reached-low t)

  no_run : ((m : ℕ) → m < 64 → Share (2 ^ u) (reached s v m) → ⊥) → (r : List ℕ) → Run s u v r → ⊥
  unfolding ◌∪◌
  no_run misses r run =
      ⊎_elim (λ (m, l, e). misses m (omega arith) (last-layer s v m e (2 ^ u) r (run-from s v u r run)))
      (λ full.
      let away = out u (reached s v 63) (λ e. misses 63 (omega arith) (share u (at_same u) e)) in
      omega (
        arith,
        size-add (reached s v 63) u away,
        ones-le 64 (2 ^ u ∪ reached s v 63) (or_lt 64 (2 ^ u) (reached s v 63) (pow-lt low) (reached-low 63)),
        full,
      ))
      (grows s v 63)

  pub chain-is : Chain s u v (chain_of s u v)
  chain-is = elim (dec_lt (distance s u v) 64) [
    | yes l ↦ subst (Chain s u v) (sym (chain-some s v u refl l)) (shortest s v u _ (far-distance s v u refl l))
    | no n ↦ subst (Chain s u v) (sym (chain-none s v u refl (omega (arith, n))))
        (no_run (λ m l. (distance-first s v u 64 0 (λ m h. absurd (omega arith))).misses m (omega (arith, n, l))))
  ]

pub chain-few : (s : List ℕ) (u v : ℕ) (r : List ℕ) → chain_of s u v ≡ some r → length r ≤ 63
chain-few s u v r e = elim (dec_lt (distance s u v) 64) [
  | yes l ↦
      let is = chain-some s v u refl l in
      let same : way s v (distance s u v) (2 ^ u) ≡ r = cc in
      omega (arith, length-way s v (distance s u v) (2 ^ u), ap length same, l)
  | no n ↦
      let is = chain-none s v u refl (omega (arith, n)) in
      absurd (let z : ◌≡◌ {A = ℕ} 0 1 = cc in omega arith)
]
