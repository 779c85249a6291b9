-- Constraints that are peeled off to the last element: 2n-3 of them on n elements end in one cluster, whatever list of merges is made.
-- Assumes nothing.
use Rattle.std.specs.Prelude.{◌≡◌, ◌≢◌, ◌⊎◌, ◌∷◌, ◌+◌, ◌*◌, ◌-◌, ◌^◌, ◌≤◌, ◌<◌}
use Rattle.theory.specs.Prelude.{refl, sym, ap, ◌∙◌, subst, inl, inr, Ne-symm, List, [], ℕ, zero, suc}
use Rattle.theory.specs.Prelude.{arith, ℕ_discrete, dec_le, ones, length, set, pow_pos, pow_mono, get_or-set_other}
use Rattle.theory.specs.Set.{◌∈◌, ◌∩◌, ◌⊑◌, at, full}
use Rattle.theory.specs.Set.Laws.{at-le, at_zero, bit, zero-ext, ⊑⇒size≤, ⊑-size-≡, size-zero, size-full, ⊑_refl, other, two_in, both, ∈-∩⁻}
use Rattle.theory.specs.Constraints.{Among, Pairs, Below, carried, NotOver}
use Rattle.theory.specs.Constraints.Laws.{Has, inside, outside, has-dec, has_in, carried-pos, carried-small, carried-full, pairs-share}
use Rattle.theory.specs.Merge.{slot, Merge, Maximal, final, live, total, living, left, weight, weights}
use Rattle.theory.specs.Merge.Threes.{meet-open}
use Rattle.theory.specs.Merge.Count.{total-set, weights-kept}
use Rattle.theory.specs.Merge.Family.{Fam, Good, EndedIn, threes, start}
use Rattle.theory.specs.Merge.Family.Invariant.{big, share}
use Rattle.theory.specs.Merge.Family.Outcome.{kept}
use Rattle.theory.specs.Merge.Numbered.{zero-at, start-good, start-distinct, good-final, as-ended, as-end}
use Rattle.peeling.specs.Core.{Loose}
use Rattle.theory.specs.Set.Less.{less_other, size_less, sub-less}

-- ---- constraints that lie in one set and not in another

pub record Between (cs : List ℕ) (a b m : ℕ) : Type 0 where
  pub among : Among m cs
  pub in_a : m ⊑ a
  pub not_b : m ⊑ b → ⊥

later : {m k a b : ℕ} {cs : List ℕ} → Between cs a b k → Between (m ∷ cs) a b k
later r = record { among = inr r.among; in_a = r.in_a; not_b = r.not_b }

pub one-between : (cs : List ℕ) (a b : ℕ) → carried cs b + 1 ≤ carried cs a → (m : ℕ) × Between cs a b m
unfolding carried
one-between [] a b h = absurd (omega arith)
one-between (m ∷ cs) a b h = go (has-dec m a) (has-dec m b) (one-between cs a b)
  where
    go : Has m a → Has m b → (carried cs b + 1 ≤ carried cs a → (k : ℕ) × Between cs a b k) → (k : ℕ) × Between (m ∷ cs) a b k
    go (inside i e) (outside n f) ih = (m, record { among = inl refl; in_a = i; not_b = n })
    go (inside i e) (inside j f) ih = let r = ih (omega arith) in (r.0, later r.1)
    go (outside n e) d ih = let r = ih (omega (arith, h)) in (r.0, later r.1)

-- two of them, different ones where no constraint stands twice
pub record Two (cs : List ℕ) (a b : ℕ) : Type 0 where
  pub m : ℕ
  pub k : ℕ
  pub m_is : Between cs a b m
  pub k_is : Between cs a b k
  pub twice : m ≡ k → 2 ≤ carried cs m

pub two-between : (cs : List ℕ) (a b : ℕ) → carried cs b + 2 ≤ carried cs a → Two cs a b
unfolding carried
two-between [] a b h = absurd (omega arith)
two-between (m ∷ cs) a b h = go (has-dec m a) (has-dec m b) (two-between cs a b)
  where
    further : Two cs a b → Two (m ∷ cs) a b
    further r = record { m = r.m; k = r.k; m_is = later r.m_is; k_is = later r.k_is; twice = λ e. omega (arith, r.twice e) }

    go : Has m a → Has m b → (carried cs b + 2 ≤ carried cs a → Two cs a b) → Two (m ∷ cs) a b
    go (inside i e) (outside n f) ih =
        let r = one-between cs a b (omega arith) in
        record {
          m = m;
          k = r.0;
          m_is = record { among = inl refl; in_a = i; not_b = n };
          k_is = later r.1;
          twice = λ q. omega (arith, has_in m m (⊑_refl m), carried-pos cs m (subst (λ (z : ℕ). Among z cs) (sym q) r.1.among));
        }
    go (inside i e) (inside j f) ih = further (ih (omega arith))
    go (outside n e) d ih = further (ih (omega arith))

-- ---- a tight set lies in one cluster, where none is open

module _ (cs : List ℕ) (pairs : Pairs cs) (fine : NotOver cs) (H : Fam) (good : Good cs H) (ended : EndedIn H)
    (covered : (c : ℕ) → Among c cs → (y : ℕ) × H y × (c ⊑ y)) where
  -- the one element that two clusters share
  same-shared : (y z p q : ℕ) → H y → H z → y ≢ z → p ∈ y → p ∈ z → q ∈ y → q ∈ z → p ≡ q
  same-shared y z p q hy hz ne py pz qy qz = go (ℕ_discrete p q)
    where
      go : Dec (p ≡ q) → p ≡ q
      go (yes e) = e
      go (no n) = absurd (omega (arith, share cs fine good y z hy hz ne, two_in (y ∩ z) p q (both p y z py pz) (both q y z qy qz) n))

  one-shared : (y z p : ℕ) → H y → H z → y ≢ z → p ∈ y → p ∈ z → ones (y ∩ z) ≡ 1
  one-shared y z p hy hz ne py pz = elim (ones (y ∩ z)) as (λ (k : ℕ). ones (y ∩ z) ≡ k → ones (y ∩ z) ≡ 1) [
    | zero ↦ λ e. absurd (omega (
      arith,
      both p y z py pz,
      at_zero p,
      ap (at p) (sym (⊑-size-≡ (y ∩ z) 0 (record { le = λ x. omega (arith, at_zero x) }) (omega (arith, size-zero)))),
    ))
    | suc k ↦ λ e. omega (arith, share cs fine good y z hy hz ne)
  ] refl

  -- three clusters that meet in three different elements are open
  corner : (y u v p q x : ℕ) → H y → H u → H v → at x y ≡ 0 → p ≢ q → p ∈ y → p ∈ u → q ∈ y → q ∈ v → x ∈ u → x ∈ v → ⊥
  unfolding EndedIn
  corner y u v p q x hy hu hv out n py pu qy qv xu xv =
      ended (record { a = y; b = u; c = v })
      (record {
        ina = hy;
        inb = hu;
        inc = hv;
        open3 = meet-open y u v (one-shared y u p hy hu yu py pu) (one-shared u v x hu hv uv xu xv) (one-shared y v q hy hv yv qy qv) none;
      })
    where
      yu : y ≢ u
      yu e = omega (arith, ap (at x) e)

      yv : y ≢ v
      yv e = omega (arith, ap (at x) e)

      uv : u ≢ v
      uv e = n (same-shared y u p q hy hu yu py pu qy (ap (at q) e ∙ qv))

      none : y ∩ u ∩ v ≡ 0
      none = zero-ext (y ∩ u ∩ v) (λ z. elim (bit (at z (y ∩ u ∩ v)) (at-le z (y ∩ u ∩ v))) [
        | inl e ↦ e
        | inr e ↦ let i = ∈-∩⁻ z (y ∩ u) v e in
            let j = ∈-∩⁻ z y u i.0 in
            let s : z ≡ x = same-shared u v z x hu hv uv j.1 i.1 xu xv in
            absurd (omega (arith, j.0, ap (λ (w : ℕ). at w y) s, out))
      ])

  module _ (loose : Loose cs) where
    -- one element more
    grown : (a x : ℕ) → x ∈ a → carried cs (a - 2 ^ x) + 2 ≤ carried cs a → (y : ℕ) → H y → a - 2 ^ x ⊑ y → (z : ℕ) × H z × (a ⊑ z)
    unfolding Pairs NotOver
    grown a x xa more y hy sub = go (bit (at x y) (at-le x y))
      where
        b : ℕ
        b = a - 2 ^ x

        in-y : (z : ℕ) → z ∈ a → z ≢ x → z ∈ y
        in-y z e n = omega (arith, sub.le z, less_other x z a xa n, at-le z y)

        has-x : (m : ℕ) → Between cs a b m → x ∈ m
        has-x m r = elim (bit (at x m) (at-le x m)) [ inl e ↦ absurd (r.not_b (sub-less x a m xa r.in_a e)) | inr e ↦ e ]

        go : (at x y ≡ 0) ⊎ (x ∈ y) → (z : ℕ) × H z × (a ⊑ z)
        go (inr e) = (
          y,
          hy,
          record {
            le = λ z. elim (ℕ_discrete z x) [
              | yes q ↦ omega (arith, ap (λ (w : ℕ). at w y) q, at-le z a)
              | no n ↦ elim (bit (at z a) (at-le z a)) [ inl i ↦ omega arith | inr i ↦ omega (arith, in-y z i n) ]
            ];
          },
        )
        go (inl e) =
            let t = two-between cs a b more in
            let sm = pairs t.m t.m_is.among in
            let sk = pairs t.k t.k_is.among in
            let xm = has-x t.m t.m_is in
            let xk = has-x t.k t.k_is in
            let p = other t.m x (omega (arith, sm)) in
            let q = other t.k x (omega (arith, sk)) in
            let u = covered t.m t.m_is.among in
            let v = covered t.k t.k_is.among in
            let m≢k : t.m ≢ t.k = λ f. omega (arith, t.twice f, fine t.m (omega (arith, sm)), sm) in
            let n : p.0 ≢ q.0 =
            λ f. omega (
              arith,
              pairs-share t.m t.k sm sk m≢k,
              two_in (t.m ∩ t.k) x p.0 (both x t.m t.k xm xk)
                  (both p.0 t.m t.k p.1 (subst (λ (w : ℕ). w ∈ t.k) (sym f) q.1)) (Ne-symm p.2),
            ) in
            absurd (
            corner y u.0 v.0 p.0 q.0 x hy u.1 v.1 e n
            (in-y p.0 (omega (arith, t.m_is.in_a.le p.0, p.1, at-le p.0 a)) p.2)
            (omega (arith, u.2.le p.0, p.1, at-le p.0 u.0))
            (in-y q.0 (omega (arith, t.k_is.in_a.le q.0, q.1, at-le q.0 a)) q.2)
            (omega (arith, v.2.le q.0, q.1, at-le q.0 v.0))
            (omega (arith, u.2.le x, xm, at-le x u.0)) (omega (arith, v.2.le x, xk, at-le x v.0)))

    within : (k a : ℕ) → ones a ≤ k → a < 2 ^ 64 → 2 ≤ ones a → carried cs a + 3 ≡ 2 * ones a → (y : ℕ) × H y × (a ⊑ y)
    unfolding Pairs NotOver
    within zero a h l two e = absurd (omega arith)
    within (suc k) a h l two e = elim (dec_le 3 (ones a)) [
      | yes three ↦ let r = loose.least a l (omega arith) in
          let s = size_less r.0 a r.1 in
          let f = fine (a - 2 ^ r.0) (omega arith) in
          let i = within k (a - 2 ^ r.0) (omega arith) (omega arith) (omega arith) (omega (arith, r.2, f, s)) in
          grown a r.0 r.1 (omega (arith, f, s)) i.0 i.1 i.2
      | no n ↦ let r = one-between cs a 0 (omega (arith, carried-small cs pairs 0 (omega (arith, size-zero)))) in
          let q : r.0 ≡ a = ⊑-size-≡ a r.0 r.1.in_a (omega (arith, pairs r.0 r.1.among)) in
          let c = covered r.0 r.1.among in
          (c.0, c.1, subst (λ (z : ℕ). z ⊑ c.0) q c.2)
    ]

-- ---- lists of merges

-- clusters of two elements or more, and no constraint in any: none lives
none-lives : (s : List ℕ) → ((j : ℕ) → slot s j ≢ 0 → 2 ≤ ones (slot s j)) → weights s ≡ 0 → left s ≡ 0
unfolding left weights total
none-lives [] h e = refl
none-lives (zero ∷ s) h e = omega (arith, none-lives s (λ j n. h (suc j) n) (omega arith))
none-lives (suc x ∷ s) h e = absurd (omega (arith, h 0 (λ z. omega arith)))

-- a cluster that carries all constraints is the only one
all-in-one : (s : List ℕ) (i y n : ℕ) → slot s i ≡ y → y ≢ 0 → n ≤ ones y → weights s + 3 ≡ 2 * n
    → ((j : ℕ) → slot s j ≢ 0 → 2 ≤ ones (slot s j)) → left s ≡ 1
unfolding left weights
all-in-one s i y n at_i lives size count two =
    let weight-zero : weight 0 ≡ 0 = omega (arith, size-zero) in
    let rest = none-lives (set s i 0) (λ j. others j (ℕ_discrete j i)) (omega (arith, total-set weight weight-zero s i, ap ones at_i)) in
    omega (
      arith,
      total-set living refl s i,
      rest,
      elim (slot s i) as (λ (x : ℕ). x ≢ 0 → living x ≡ 1) [ zero ↦ λ h. absurd (h refl) | suc x ↦ λ h. refl ] (λ z. lives (sym at_i ∙ z)),
    )
  where
    others : (j : ℕ) → Dec (j ≡ i) → slot (set s i 0) j ≢ 0 → 2 ≤ ones (slot (set s i 0) j)
    others j (yes e) h = absurd (h (ap (slot (set s i 0)) e ∙ zero-at s i))
    others j (no n) h = let e = get_or-set_other s i j 0 0 n in rw e (two j (λ z. h (e ∙ z)))

pub loose-one : (n : ℕ) (cs : List ℕ) → 2 ≤ n → n ≤ 64 → Pairs cs → Below n cs → NotOver cs → Loose cs
    → length cs + 3 ≡ 2 * n → (p : List Merge) → Maximal cs p
    → left (final cs p) ≡ 1
unfolding full
loose-one n cs two most pairs below fine loose count p m =
    let s = final cs p in
    let g = (good-final cs fine p cs (start-good cs pairs fine) (start-distinct cs pairs fine) m.valid).0 in
    let z = size-full n in
    let y =
    within cs pairs fine (live s) g (as-ended cs fine s g m.ended) covered loose n (full n) (omega (arith, z))
    (omega (arith, pow_mono most, pow_pos n)) (omega (arith, z))
    (omega (arith, z, carried-full n cs below)) in
    all-in-one s y.1.0 y.0 n y.1.1 y.1.2 (omega (arith, z, ⊑⇒size≤ y.0 (full n) y.2))
    (omega (arith, weights-kept cs pairs p m.valid, count))
    (λ j h. big cs fine g (slot s j) (j, refl, h))
  where
    covered : (c : ℕ) → Among c cs → (y : ℕ) × live (final cs p) y × (c ⊑ y)
    covered c i = let r = kept (threes cs p) (start cs) c i in (r.0, (as-end cs pairs fine p m.valid r.0).1 r.1, r.2)
