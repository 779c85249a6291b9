-- What the table of freedoms says of a set, and the table at the start. Assumes nothing.
use Rattle.std.specs.Prelude.{◌≡◌, ◌≢◌, ◌⊎◌, ◌∷◌, ◌+◌, ◌*◌, ◌^◌, ◌≤◌, ◌<◌}
use Rattle.theory.specs.Prelude.{refl, sym, ap, ◌∙◌, subst, inl, inr, List, [], ℕ, zero, suc}
use Rattle.theory.specs.Prelude.{zero-add, zero-lt-suc, not-suc-le-zero, le_of_suc-le-suc, le_refl, arith, ℕ_discrete, ones, length, get_or, set}
use Rattle.theory.specs.Prelude.{length-set, replicate, length-replicate, get_or-replicate, get_or-set_same, get_or-set_other}
use Rattle.theory.specs.Set.{◌∈◌, at}
use Rattle.theory.specs.Set.Laws.{at-le, bit}
use Rattle.theory.specs.Constraints.{carried}
use Rattle.theory.specs.Set.Less.{at-below}
use Rattle.sparsity.specs.Freedoms.{entry, same, free, over, frees, kept, Table, Balanced, Closed, FreeBelow}
use Rattle.sparsity.specs.Freedoms.Sums.{same_refl, over-le, over-same, over-tight, over-two, over-only, over-size}

-- ---- what the table says of a set

module _ (own : List (List ℕ)) (a : ℕ) (la : a < 2 ^ 64) where
  -- two entries for each element
  pub kept-le : kept own a ≤ 2 * ones a
  unfolding kept
  kept-le = omega (
    arith,
    over-le a (λ x. at (entry own x 0) a + at (entry own x 1) a) (λ x. 2)
        (λ x l e. omega (arith, at-le (entry own x 0) a, at-le (entry own x 1) a)),
    over-size a la,
  )

  pub closed-kept : Closed own a → kept own a ≡ 2 * ones a
  unfolding kept
  closed-kept c = omega (
    arith,
    kept-le,
    over-le a (λ x. 2) (λ x. at (entry own x 0) a + at (entry own x 1) a)
        (λ x l e. omega (arith, c.stays x 0 e (zero-lt-suc 1), c.stays x 1 e (le_refl 2))),
    over-size a la,
  )

  pub kept-closed : 2 * ones a ≤ kept own a → Closed own a
  unfolding kept
  kept-closed k = record { stays = stays }
    where
      full : (x : ℕ) → x ∈ a → 2 ≤ at (entry own x 0) a + at (entry own x 1) a
      full x e =
          over-tight a (λ x. at (entry own x 0) a + at (entry own x 1) a) (λ x. 2)
          (λ x l e. omega (arith, at-le (entry own x 0) a, at-le (entry own x 1) a)) (omega (arith, over-size a la)) x
          (at-below 64 x a la e) e

      stays : (x s : ℕ) → x ∈ a → s < 2 → entry own x s ∈ a
      stays x s e l = go (bit s (le_of_suc-le-suc l))
        where
          go : (s ≡ 0) ⊎ (s ≡ 1) → entry own x s ∈ a
          go (inl q) = ap (λ (i : ℕ). at (entry own x i) a) q ∙ omega (arith, full x e, at-le (entry own x 0) a, at-le (entry own x 1) a)
          go (inr q) = ap (λ (i : ℕ). at (entry own x i) a) q ∙ omega (arith, full x e, at-le (entry own x 0) a, at-le (entry own x 1) a)

  -- the free entries of two of its elements
  pub frees-two : (x y : ℕ) → x ≢ y → x ∈ a → y ∈ a → free own x + free own y ≤ frees own a
  unfolding frees
  frees-two x y n ex ey = over-two a (free own) x y (at-below 64 x a la ex) (at-below 64 y a la ey) n ex ey

  pub frees-only : (x y : ℕ) → x ≢ y → x ∈ a → y ∈ a → ((z : ℕ) → z ∈ a → z ≢ x → z ≢ y → free own z ≡ 0)
      → frees own a ≡ free own x + free own y
  unfolding frees
  frees-only x y n ex ey none = over-only a (free own) x y (at-below 64 x a la ex) (at-below 64 y a la ey) n ex ey (λ z l e p q. none z e p q)

-- ---- the table at the start

pub free-none : FreeBelow 0 (replicate 64 (replicate 2 0))
free-none = record {
  rows = length-replicate {A = List ℕ} 64 (replicate 2 0);
  two = λ x l. ap length (get_or-replicate 64 x (replicate 2 0) [] l);
  own_free = λ x s l h. absurd (not-suc-le-zero l);
}

pub free-next : (x : ℕ) (own : List (List ℕ)) → x < 64 → FreeBelow x own → FreeBelow (x + 1) (set own x (x ∷ x ∷ []))
free-next x own lx f = record {
  rows = length-set own x (x ∷ x ∷ []) ∙ f.rows;
  two = λ y l. two y l (ℕ_discrete y x);
  own_free = λ y s l h. own_free y s l h (ℕ_discrete y x);
}
  where
    row : get_or (set own x (x ∷ x ∷ [])) x [] ≡ x ∷ x ∷ []
    row = get_or-set_same own x (x ∷ x ∷ []) [] (omega (arith, f.rows))

    two : (y : ℕ) → y < 64 → Dec (y ≡ x) → length (get_or (set own x (x ∷ x ∷ [])) y []) ≡ 2
    two y l (yes e) = subst (λ (i : ℕ). length (get_or (set own x (x ∷ x ∷ [])) i []) ≡ 2) (sym e) (ap length row)
    two y l (no n) = ap length (get_or-set_other own x y (x ∷ x ∷ []) [] n) ∙ f.two y l

    pair-of : (s : ℕ) → s < 2 → get_or (x ∷ x ∷ []) s 0 ≡ x
    pair-of zero h = refl
    pair-of (suc zero) h = refl
    pair-of (suc (suc s)) h = absurd (omega arith)

    own_free : (y s : ℕ) → y < x + 1 → s < 2 → Dec (y ≡ x) → entry (set own x (x ∷ x ∷ [])) y s ≡ y
    own_free y s l h (yes e) = subst (λ (i : ℕ). entry (set own x (x ∷ x ∷ [])) i s ≡ i) (sym e) (ap (λ (r : List ℕ). get_or r s 0) row ∙ pair-of s h)
    own_free y s l h (no n) = ap (λ (r : List ℕ). get_or r s 0) (get_or-set_other own x y (x ∷ x ∷ []) [] n) ∙ f.own_free y s (omega arith) h

module _ (own : List (List ℕ)) (f : FreeBelow 64 own) where
  pub free-table : Table own
  free-table = record { rows = f.rows; two = f.two; low = λ x s l h. omega (arith, f.own_free x s l h) }

  pub free-closed : (u : ℕ) → u < 2 ^ 64 → Closed own u
  free-closed u l = record { stays = λ x s e h. ap (λ (i : ℕ). at i u) (f.own_free x s (at-below 64 x u l e) h) ∙ e }

  pub free-balanced : (u : ℕ) → Balanced [] u own
  unfolding carried frees kept free
  free-balanced u = record {
    all = λ a h. zero-add (over a (free own)) ∙ over-same a (free own) (λ x. at (entry own x 0) a + at (entry own x 1) a) (λ x l e. omega (
      arith,
      ap (λ (i : ℕ). same i x) (f.own_free x 0 l (zero-lt-suc 1)),
      ap (λ (i : ℕ). same i x) (f.own_free x 1 l (le_refl 2)),
      same_refl x,
      ap (λ (i : ℕ). at i a) (f.own_free x 0 l (zero-lt-suc 1)),
      ap (λ (i : ℕ). at i a) (f.own_free x 1 l (le_refl 2)),
    ));
  }
