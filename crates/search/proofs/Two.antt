-- The two elements of a set of two, and the clusters that join them to a third. Assumes nothing.
use Rattle.std.specs.Prelude.{◌≡◌, ◌≢◌, ◌⊎◌, ◌-◌, ◌^◌, ◌≤◌, ◌<◌}
use Rattle.theory.specs.Prelude.{refl, sym, ap, ◌∙◌, subst, inl, inr, List, ℕ, min, arith, ℕ_discrete, dec_lt, bit_and, and_le_l}
use Rattle.theory.specs.Prelude.{count_trailing_zeros}
use Rattle.theory.specs.Set.{◌∈◌, ◌∩◌, at}
use Rattle.theory.specs.Set.Laws.{at_zero, ∈-∩⁻, element}
use Rattle.theory.specs.Set.Lowest.{lowest-in, rest-lowest, rest-other}
use Rattle.search.specs.State.{Met, Joined, Best}

-- an element of a set is its lowest or lies in the rest
pub first-or : (x r : ℕ) → x < 2 ^ 64 → x ≢ 0 → r ∈ x → (r ≡ count_trailing_zeros 64 x) ⊎ (r ∈ bit_and x (x - 1))
first-or x r l n e = first-or-case (ℕ_discrete r (count_trailing_zeros 64 x))
  where
    first-or-case : Dec (r ≡ count_trailing_zeros 64 x) → (r ≡ count_trailing_zeros 64 x) ⊎ (r ∈ bit_and x (x - 1))
    first-or-case (yes h) = inl h
    first-or-case (no h) = inr (rest-other x l n r h ∙ e)

-- a set of one element
pub single : (x r : ℕ) → x < 2 ^ 64 → x ≢ 0 → bit_and x (x - 1) ≡ 0 → r ∈ x → r ≡ count_trailing_zeros 64 x
single x r l n z e = single-case (first-or x r l n e)
  where
    single-case : (r ≡ count_trailing_zeros 64 x) ⊎ (r ∈ bit_and x (x - 1)) → r ≡ count_trailing_zeros 64 x
    single-case (inl h) = h
    single-case (inr h) = absurd (omega (arith, ap (at r) z, at_zero r))

-- ---- the clusters that join two elements to z

pub met-swap : (hold : List ℕ) (p q z v : ℕ) → Met hold p q z v → Met hold q p z v
met-swap hold p q z v (a, b, ja, jb, e) = (b, a, jb, ja, omega arith)

module _ (hold : List ℕ) (near z v : ℕ) (l : near < 2 ^ 64) where
  pub joined-none : near ≡ 0 → Joined hold near z v
  unfolding Joined
  joined-none e p q n pi qi all = absurd (omega (arith, ap (at p) e, at_zero p))

  pub joined-one : near ≢ 0 → bit_and near (near - 1) ≡ 0 → Joined hold near z v
  unfolding Joined
  joined-one s e p q n pi qi all = absurd (n (single near p l s e pi ∙ sym (single near q l s e qi)))

  pub joined-two : near ≢ 0 → bit_and near (near - 1) ≢ 0 → (a b : ℕ) → a ≡ count_trailing_zeros 64 near
      → b ≡ count_trailing_zeros 64 (bit_and near (near - 1)) → Met hold a b z v → Joined hold near z v
  unfolding Joined ◌∩◌
  joined-two s t a b is-a is-b m p q n pi qi all = by (all a ain) (all b (∈-∩⁻ b near (near - 1) bin).0)
    where
      ain : a ∈ near
      ain = ap (λ (y : ℕ). at y near) is-a ∙ lowest-in 64 near l s

      bin : b ∈ bit_and near (near - 1)
      bin =
          ap (λ (y : ℕ). at y (bit_and near (near - 1))) is-b
          ∙ lowest-in 64 (bit_and near (near - 1)) (omega (arith, and_le_l near (near - 1))) t

      a≢b : a ≢ b
      a≢b e = omega (arith, bin, rest-lowest near l s, ap (λ (y : ℕ). at y (bit_and near (near - 1))) (sym is-a ∙ e))

      by : (a ≡ p) ⊎ (a ≡ q) → (b ≡ p) ⊎ (b ≡ q) → Met hold p q z v
      by (inl x) (inl y) = absurd (a≢b (x ∙ sym y))
      by (inr x) (inr y) = absurd (a≢b (x ∙ sym y))
      by (inl x) (inr y) = subst (λ (w : ℕ). Met hold p w z v) y (subst (λ (w : ℕ). Met hold w b z v) x m)
      by (inr x) (inl y) = met-swap hold q p z v (subst (λ (w : ℕ). Met hold q w z v) y (subst (λ (w : ℕ). Met hold w b z v) x m))

-- ---- the least key, one element after another

-- v is the least key of the elements of o that lie not in rest, or a number that no key is above
pub record Leading (P : ℕ → ℕ → Type 0) (o rest v : ℕ) : Type 0 where
  pub fits : rest < 2 ^ 64
  pub within : (y : ℕ) → y ∈ rest → y ∈ o
  pub small : v < 65536
  pub here : (v ≡ 65535) ⊎ ((z : ℕ) × (z ∈ o) × P z v)
  pub least : (y : ℕ) → y ∈ o → at y rest ≡ 0 → (w : ℕ) × P y w × (v ≤ w) × (w < 65536)

pub leading-none : {P : ℕ → ℕ → Type 0} {o : ℕ} → o < 2 ^ 64 → Leading P o o 65535
leading-none l = record {
  fits = l;
  within = λ y e. e;
  small = omega arith;
  here = inl refl;
  least = λ y e f. absurd (omega arith);
}

module _ {P : ℕ → ℕ → Type 0} {o rest v : ℕ} (h : Leading P o rest v) where
  -- one element more, whose key is w
  pub leading-next : rest ≢ 0 → {u w : ℕ} → u ≡ count_trailing_zeros 64 rest → P u w → w < 65536 → Leading P o (bit_and rest (rest - 1)) (min v w)
  unfolding ◌∩◌
  leading-next some {u} {w} is p s = record {
    fits = omega (arith, h.fits, and_le_l rest (rest - 1));
    within = λ y e. h.within y (∈-∩⁻ y rest (rest - 1) e).0;
    small = omega (arith, s);
    here = here (dec_lt w v) h.here;
    least = λ y e f. least y e f (ℕ_discrete y (count_trailing_zeros 64 rest));
  }
    where
      here : Dec (w < v) → (v ≡ 65535) ⊎ ((z : ℕ) × (z ∈ o) × P z v) → (min v w ≡ 65535) ⊎ ((z : ℕ) × (z ∈ o) × P z (min v w))
      here (yes l) d =
          inr (u, h.within u (ap (λ (y : ℕ). at y rest) is ∙ lowest-in 64 rest h.fits some), subst (P u) (omega arith) p)
      here (no n) (inl e) = inl (omega arith)
      here (no n) (inr (z, i, q)) = inr (z, i, subst (P z) (omega arith) q)

      least : (y : ℕ) → y ∈ o → at y (bit_and rest (rest - 1)) ≡ 0 → Dec (y ≡ count_trailing_zeros 64 rest)
          → (t : ℕ) × P y t × (min v w ≤ t) × (t < 65536)
      least y e f (yes g) = (w, subst (λ (x : ℕ). P x w) (is ∙ sym g) p, omega arith, s)
      least y e f (no g) = let k = h.least y e (sym (rest-other rest h.fits some y g) ∙ f) in (k.0, k.1, omega (arith, k.2), k.3)

  pub leading-best : rest ≡ 0 → o ≢ 0 → Best P o v
  leading-best e some = best h.here
    where
      least : (y : ℕ) → y ∈ o → (w : ℕ) × P y w × (v ≤ w) × (w < 65536)
      least y i = h.least y i (ap (at y) e ∙ at_zero y)

      below : (y : ℕ) → y ∈ o → (w : ℕ) × P y w × (v ≤ w)
      below y i = let k = least y i in (k.0, k.1, k.2)

      best : (v ≡ 65535) ⊎ ((z : ℕ) × (z ∈ o) × P z v) → Best P o v
      best (inr (z, i, p)) = record { z = z; z_in = i; here = p; least = below }
      best (inl top) =
          let (z, i) = element o some in
          let k = least z i in
          record { z = z; z_in = i; here = subst (P z) (omega (arith, top, k.2, k.3)) k.1; least = below }
