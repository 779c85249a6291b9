-- The layers: what is in them, the step of each loop that computes them, and what lies at a distance. Assumes nothing.
use Rattle.std.specs.Prelude.{◌≡◌, ◌≢◌, ◌⊎◌, ◌&&◌, ◌∷◌, ◌+◌, ◌-◌, ◌^◌, ◌≤◌, ◌<◌}
use Rattle.theory.specs.Prelude.{refl, sym, ap, ◌∙◌, subst, inl, inr, ⊎_elim, Bool, true, false, not}
use Rattle.theory.specs.Prelude.{cond}
use Rattle.theory.specs.Prelude.{List, [], ℕ, zero, suc, arith, add-one, ℕ_discrete}
use Rattle.theory.specs.Prelude.{eq-eqb, ne_eqb}
use Rattle.theory.specs.Prelude.{none, some, lt-ltb, le-ltb, length, drop, drop-cons}
use Rattle.std.specs.Prelude.{Some, position}
use Rattle.std.proofs.lemmas.List.Recursion.{is_position_or_len}
use Rattle.theory.specs.Set.{◌∈◌, ◌∩◌, ◌∪◌}
use Rattle.theory.specs.Set.Laws.{at_other, at_zero, element, meets, ∈-∩⁻, ∈-∪⁻, ∈-∪ˡ, ∈-∪ʳ}
use Rattle.theory.specs.Merge.{slot}
use Rattle.chain.specs.Chain.{Share}
use Rattle.chain.specs.Layers.{shares, grown, reached, first_both, way, distance_from, distance, chain_of}
use Rattle.chain.specs.Kept.{Far}

-- ---- sharing an element

pub shared_at : {a b : ℕ} → Share a b → (x : ℕ) × (x ∈ a) × (x ∈ b)
shared_at {a} {b} h = let e = element (a ∩ b) h.some in let m = ∈-∩⁻ e.0 a b e.1 in (e.0, m.0, m.1)

pub share : {a b : ℕ} (x : ℕ) → x ∈ a → x ∈ b → Share a b
share {a} {b} x p q = record { some = meets a b x p q }

-- an element as a set
pub single-is : (x y : ℕ) → y ∈ 2 ^ x → y ≡ x
single-is x y h = by (ℕ_discrete y x)
  where
    by : Dec (y ≡ x) → y ≡ x
    by (yes e) = e
    by (no n) = absurd (omega (arith, h, at_other y x n))

pub single-share : (x : ℕ) {a : ℕ} → Share (2 ^ x) a → x ∈ a
single-share x {a} h = let m = shared_at h in subst (λ (z : ℕ). z ∈ a) (single-is x m.0 m.1) m.2

pub share-dec : (a b : ℕ) → Dec (Share a b)
share-dec a b = by (ℕ_discrete (a ∩ b) 0)
  where
    by : Dec (a ∩ b ≡ 0) → Dec (Share a b)
    by (yes e) = no (λ sh. sh.some e)
    by (no n) = yes (record { some = n })

pub shares-yes : {a b : ℕ} → Share a b → shares a b ≡ true
shares-yes {a} {b} h = ap not (ne_eqb (a ∩ b) 0 h.some)

pub shares-no : {a b : ℕ} → (Share a b → ⊥) → shares a b ≡ false
shares-no {a} {b} h = by (ℕ_discrete (a ∩ b) 0)
  where
    by : Dec (a ∩ b ≡ 0) → shares a b ≡ false
    by (yes e) = ap not (eq-eqb (a ∩ b) 0 e)
    by (no n) = absurd (h (record { some = n }))

-- what the machine's word says of it
pub word-shares : {a b r : ℕ} → r ≡ a ∩ b → r ≢ 0 → Share a b
word-shares e n = record { some = λ z. n (e ∙ z) }

pub word-apart : {a b r : ℕ} → r ≡ a ∩ b → r ≡ 0 → Share a b → ⊥
word-apart e z sh = sh.some (sym e ∙ z)

-- ---- one layer

module _ (s : List ℕ) (d all k : ℕ) (low : k < length s) where
  grown-step : (b : Bool) → shares (slot s k) d ≡ b
      → grown (drop k s) d all ≡ grown (drop (k + 1) s) d (cond b (all ∪ slot s k) all)
  unfolding grown
  grown-step b e =
      ap (λ (l : List ℕ). grown l d all) (drop-cons s k 0 low)
      ∙ ap (λ (x : Bool). grown (drop (suc k) s) d (cond x (all ∪ slot s k) all)) e
      ∙ ap (λ (n : ℕ). grown (drop n s) d (cond b (all ∪ slot s k) all)) (sym (add-one k))

  pub grown-yes : Share (slot s k) d → grown (drop k s) d all ≡ grown (drop (k + 1) s) d (all ∪ slot s k)
  grown-yes sh = grown-step true (shares-yes sh)

  pub grown-no : (Share (slot s k) d → ⊥) → grown (drop k s) d all ≡ grown (drop (k + 1) s) d all
  grown-no n = grown-step false (shares-no n)

-- an element of it was there, or lies in a cluster that shares one with d
module _ (d x : ℕ) where
  abbrev Reaches : List ℕ → ℕ → Type 0
  Reaches s all = (x ∈ all) ⊎ ((k : ℕ) × (x ∈ slot s k) × Share (slot s k) d)

  pub grown-in : (s : List ℕ) (all : ℕ) → x ∈ grown s d all → Reaches s all
  unfolding grown
  grown-in [] all h = inl h
  grown-in (c ∷ s) all h = ⊎_elim here (λ (k, e, sh). inr (suc k, e, sh)) (grown-in s _ h)
    where
      here : x ∈ cond (shares c d) (all ∪ c) all → Reaches (c ∷ s) all
      here h = elim (share-dec c d) [
        | yes sh ↦ ⊎_elim inl (λ e. inr (zero, e, sh)) (∈-∪⁻ x all c (rw (shares-yes sh) at h))
        | no n ↦ inl (rw (shares-no n) at h)
      ]

  pub grown-keeps : (s : List ℕ) (all : ℕ) → x ∈ all → x ∈ grown s d all
  unfolding grown
  grown-keeps [] all h = h
  grown-keeps (c ∷ s) all h = grown-keeps s _ (by (shares c d))
    where
      by : (b : Bool) → x ∈ cond b (all ∪ c) all
      by true = ∈-∪ˡ x all c h
      by false = h

  pub grown-takes : (s : List ℕ) (all k : ℕ) → Share (slot s k) d → x ∈ slot s k → x ∈ grown s d all
  unfolding grown
  grown-takes [] all k sh e = absurd (omega (arith, e, at_zero x))
  grown-takes (c ∷ s) all zero sh e = rw (shares-yes sh) (grown-keeps s (all ∪ c) (∈-∪ʳ x all c e))
  grown-takes (c ∷ s) all (suc k) sh e = grown-takes s _ k sh e

-- ---- the lowest cluster that shares an element with both

module _ (a d : ℕ) where
  abbrev Both : ℕ → Type 0
  Both c = Share a c × Share c d

  both_yes : {c : ℕ} → Both c → (shares a c && shares c d) ≡ true
  both_yes (p, q) = rw (shares-yes p, shares-yes q)

  both-no : {c : ℕ} → (Both c → ⊥) → (shares a c && shares c d) ≡ false
  both-no {c} n = elim (share-dec a c) [
    | yes p ↦ rw (shares-yes p) (shares-no (λ q. n (p, q)))
    | no m ↦ rw (shares-no m)
  ]

  both_dec : (c : ℕ) → Dec (Both c)
  both_dec c = by (share-dec a c) (share-dec c d)
    where
      by : Dec (Share a c) → Dec (Share c d) → Dec (Both c)
      by (yes p) (yes q) = yes (p, q)
      by (yes p) (no n) = no (λ b. n b.1)
      by (no n) e = no (λ b. n b.0)

  -- it is one of them, and no higher than any
  pub record IsFirst (s : List ℕ) (i k : ℕ) : Type 0 where
    pub low : k < length s
    pub both : Both (slot s k)
    pub least : k ≤ i

  pub first_is : (s : List ℕ) (i : ℕ) → Both (slot s i) → IsFirst s i (first_both s a d)
  unfolding first_both
  first_is [] i (p, q) = absurd (let x = shared_at p in omega (arith, x.2, at_zero x.0))
  first_is (c ∷ s) i b = by (both_dec c) i b (first_is s)
    where
      by : Dec (Both c) → (i : ℕ) → Both (slot (c ∷ s) i) → ((i : ℕ) → Both (slot s i) → IsFirst s i (first_both s a d))
          → IsFirst (c ∷ s) i (cond (shares a c && shares c d) 0 (suc (first_both s a d)))
      by (yes h) i b on = rw (both_yes h) (record { low = omega arith; both = h; least = omega arith })
      by (no n) zero b on = absurd (n b)
      by (no n) (suc i) b on =
          let r = on i b in
          rw (both-no n) (record { low = omega (arith, r.low); both = r.both; least = omega (arith, r.least) })

  -- and where there is one, the first place that passes
  pub first-position : (s : List ℕ) → first_both s a d < length s
      → position (λ c. shares a c && shares c d) s ≡ Some (first_both s a d)
  unfolding first_both
  first-position s l =
      let one : (n : ℕ) → suc n ≡ 1 + n = λ n. omega arith in
      let e = is_position_or_len (λ x. first_both x a d) (λ c. shares a c && shares c d) refl
      (λ c x. ap (λ (n : ℕ). cond (shares a c && shares c d) 0 n) (one (first_both x a d))) s in
      rw (← e, lt-ltb _ (length s) l)

-- what holds below t and at t
one_more : (P : ℕ → Type 0) (t : ℕ) → ((m : ℕ) → m < t → P m) → P t → (m : ℕ) → m < suc t → P m
one_more P t h p m l = elim (ℕ_discrete m t) [ yes e ↦ subst P (sym e) p | no n ↦ h m (omega (arith, n)) ]

-- ---- what lies t layers from the end

module _ (s : List ℕ) (v : ℕ) where
  pub reached-more : (t : ℕ) {a : ℕ} → Share a (reached s v t) → Share a (reached s v (suc t))
  unfolding reached
  reached-more t sh =
      let (x, p, q) = shared_at sh in share x p (grown-keeps (reached s v t) x s (reached s v t) q)

  -- one cluster before
  pub reached-before : (t k : ℕ) {a : ℕ} → Share a (slot s k) → Share (slot s k) (reached s v t)
      → Share a (reached s v (suc t))
  unfolding reached
  reached-before t k sh on =
      let (x, p, q) = shared_at sh in share x p (grown-takes (reached s v t) x s (reached s v t) k on q)

  -- the way's next cluster stands, and lies a layer nearer
  pub record Onward (m a k : ℕ) : Type 0 where
    pub low : k < length s
    pub from : Share a (slot s k)
    pub far : Far s v m (slot s k)

  pub far-next : (t a : ℕ) → Far s v (suc t) a → Onward t a (first_both s a (reached s v t))
  unfolding reached
  far-next t a far =
      let (x, p, q) = shared_at far.meets in
      ⊎_elim (λ e. absurd (far.misses t (omega arith) (share x p e)))
      (λ (i, e, on).
      let l = first_is a (reached s v t) s i (share x p e, on) in
      let (from, to) = l.both in
      record {
        low = l.low;
        from = from;
        far = record { meets = to; misses = λ m h sh. far.misses (suc m) (omega arith) (reached-before m _ from sh) };
      })
      (grown-in (reached s v t) x s (reached s v t) q)

  -- so a run may be written from the start, a layer fewer at each cluster
  module _ (m a : ℕ) (some : m ≢ 0) where
    one-layer : suc (m - 1) ≡ m
    one-layer = omega (arith, some)

    pub onward : Far s v m a → Onward (m - 1) a (first_both s a (reached s v (m - 1)))
    onward far = far-next (m - 1) a (subst (λ (n : ℕ). Far s v n a) (sym one-layer) far)

    pub way_next : way s v m a
        ≡ first_both s a (reached s v (m - 1)) ∷ way s v (m - 1) (slot s (first_both s a (reached s v (m - 1))))
    unfolding way
    way_next = sym (ap (λ (n : ℕ). way s v n a) one-layer)

  -- ---- the distance

  module _ (u : ℕ) where
    step : (t : ℕ) (b : Bool) → t < 64 → shares (2 ^ u) (reached s v t) ≡ b
        → distance_from s u v (64 - t) t ≡ cond b t (distance_from s u v (64 - (t + 1)) (t + 1))
    unfolding distance_from
    step t b l e =
        let one : 64 - t ≡ suc (64 - (t + 1)) = omega arith in
        ap (λ (n : ℕ). distance_from s u v n t) one
        ∙ ap (λ (x : Bool). cond x t (distance_from s u v (64 - (t + 1)) (suc t))) e
        ∙ ap (λ (n : ℕ). cond b t (distance_from s u v (64 - (t + 1)) n)) (sym (add-one t))

    pub distance-here : (t : ℕ) → t < 64 → Share (2 ^ u) (reached s v t) → distance_from s u v (64 - t) t ≡ t
    distance-here t l sh = step t true l (shares-yes sh)

    pub distance-later : (t : ℕ) → t < 64 → (Share (2 ^ u) (reached s v t) → ⊥)
        → distance_from s u v (64 - t) t ≡ distance_from s u v (64 - (t + 1)) (t + 1)
    distance-later t l n = step t false l (shares-no n)

    pub distance-last : (t : ℕ) → 64 ≤ t → distance_from s u v (64 - t) t ≡ t
    unfolding distance_from
    distance-last t l = let e : 64 - t ≡ 0 = omega arith in rw e

    -- where a layer brings nothing new, none after it does
    pub distance_none : (more t : ℕ) → reached s v (suc t) ≡ reached s v t → (Share (2 ^ u) (reached s v t) → ⊥)
        → distance_from s u v more t ≡ t + more
    unfolding distance_from reached
    distance_none zero t e n = omega arith
    distance_none (suc more) t e n =
        rw (shares-no n)
        (distance_none more (suc t) (ap (λ (d : ℕ). grown s d d) e) (rw e n) ∙ omega arith)

    -- the first layer that reaches the start
    pub record FirstLayer (last r : ℕ) : Type 0 where
      pub meets : r < last → Share (2 ^ u) (reached s v r)
      pub misses : (m : ℕ) → m < r → Share (2 ^ u) (reached s v m) → ⊥
      pub most : r ≤ last

    pub distance-first : (more t : ℕ) → ((m : ℕ) → m < t → Share (2 ^ u) (reached s v m) → ⊥)
        → FirstLayer (t + more) (distance_from s u v more t)
    unfolding distance_from
    distance-first zero t n = record { meets = λ l. absurd (omega arith); misses = n; most = omega arith }
    distance-first (suc more) t n = elim (share-dec (2 ^ u) (reached s v t)) [
      | yes sh ↦ rw (shares-yes sh) (record { meets = λ l. sh; misses = n; most = omega arith })
      | no a ↦ rw (shares-no a) (subst (λ (last : ℕ). FirstLayer last (distance_from s u v more (suc t))) (omega arith)
          (distance-first more (suc t) (one_more (λ m. Share (2 ^ u) (reached s v m) → ⊥) t n a)))
    ]

    pub far-distance : {t : ℕ} → t ≡ distance s u v → t < 64 → Far s v t (2 ^ u)
    far-distance e l =
        let f = distance-first 64 0 (λ m h. absurd (omega arith)) in
        subst (λ (r : ℕ). Far s v r (2 ^ u)) (sym e) (record { meets = f.meets (omega arith); misses = f.misses })

    -- ---- the chain

    pub chain-some : {t : ℕ} → t ≡ distance s u v → t < 64 → chain_of s u v ≡ some (way s v t (2 ^ u))
    unfolding chain_of
    chain-some e l = rw (← e, lt-ltb _ 64 l)

    pub chain-none : {t : ℕ} → t ≡ distance s u v → 64 ≤ t → chain_of s u v ≡ none
    unfolding chain_of
    chain-none e l = rw (← e, le-ltb _ 64 l)

  pub length-way : (t a : ℕ) → length (way s v t a) ≡ t
  unfolding way
  length-way zero a = refl
  length-way (suc t) a = ap suc (length-way t _)
