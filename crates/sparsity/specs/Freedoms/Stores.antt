-- The effect of one store in the table of freedoms, and the balance that placing and turning keep. Assumes nothing.
use Rattle.std.specs.Prelude.{◌≡◌, ◌≢◌, ◌+◌, ◌*◌, ◌<◌}
use Rattle.theory.specs.Prelude.{sym, ap, ap₂, ◌∙◌, subst, inl, inr, List, [], ℕ, le_of_suc-le-suc, arith, ℕ_discrete}
use Rattle.theory.specs.Prelude.{length, get_or, set, length-set, get_or-set_same, get_or-set_other}
use Rattle.theory.specs.Set.{◌∈◌, ◌⊑◌, at}
use Rattle.theory.specs.Set.Laws.{at-le, bit}
use Rattle.theory.specs.Constraints.{has, carried}
use Rattle.sparsity.specs.Freedoms.{entry, stored, same, free, over, frees, kept, Table, Balanced, Closed}
use Rattle.sparsity.specs.Freedoms.Sums.{same_refl, same-ne, over-change}

-- ---- one store

pub entry_row : (own : List (List ℕ)) (x s y z r : ℕ) → z ≢ x → entry (stored own x s y) z r ≡ entry own z r
entry_row own x s y z r n = ap (λ (l : List ℕ). get_or l r 0) (get_or-set_other own x z (set (get_or own x []) s y) [] n)

module _ (own : List (List ℕ)) (t : Table own) (x s y : ℕ) (lx : x < 64) (ls : s < 2) where
  row_same : get_or (stored own x s y) x [] ≡ set (get_or own x []) s y
  row_same = get_or-set_same own x (set (get_or own x []) s y) [] (omega (arith, t.rows))

  pub entry-same : entry (stored own x s y) x s ≡ y
  entry-same = ap (λ (r : List ℕ). get_or r s 0) row_same ∙ get_or-set_same (get_or own x []) s y 0 (omega (arith, t.two x lx))

  pub entry-slot : (r : ℕ) → r ≢ s → entry (stored own x s y) x r ≡ entry own x r
  entry-slot r n = ap (λ (l : List ℕ). get_or l r 0) row_same ∙ get_or-set_other (get_or own x []) s r y 0 n

  -- what another element or entry holds stays, and y comes in
  cases : (P : ℕ → ℕ → ℕ → Type 0) → P x s y → ((z r : ℕ) → P z r (entry own z r)) → (z r : ℕ) → P z r (entry (stored own x s y) z r)
  cases P new old z r = go (ℕ_discrete z x) (ℕ_discrete r s)
    where
      go : Dec (z ≡ x) → Dec (r ≡ s) → P z r (entry (stored own x s y) z r)
      go (no n) d = subst (P z r) (sym (entry_row own x s y z r n)) (old z r)
      go (yes p) (yes q) =
          subst (λ (i : ℕ). P i r (entry (stored own x s y) i r)) (sym p)
          (subst (λ (i : ℕ). P x i (entry (stored own x s y) x i)) (sym q) (subst (P x s) (sym entry-same) new))
      go (yes p) (no n) = subst (λ (i : ℕ). P i r (entry (stored own x s y) i r)) (sym p) (subst (P x r) (sym (entry-slot r n)) (old x r))

  pub stored-table : y < 64 → Table (stored own x s y)
  stored-table ly = record { rows = length-set own x _ ∙ t.rows; two = two; low = cases (λ z r e. z < 64 → r < 2 → e < 64) (λ m k. ly) t.low }
    where
      two : (z : ℕ) → z < 64 → length (get_or (stored own x s y) z []) ≡ 2
      two z l = elim (ℕ_discrete z x) [
        | yes e ↦ subst (λ (i : ℕ). length (get_or (stored own x s y) i []) ≡ 2) (sym e)
            (ap length row_same ∙ length-set (get_or own x []) s y ∙ t.two x lx)
        | no n ↦ ap length (get_or-set_other own x z (set (get_or own x []) s y) [] n) ∙ t.two z l
      ]

  -- a set that is closed stays so
  pub stored-closed : (u : ℕ) → (x ∈ u → y ∈ u) → Closed own u → Closed (stored own x s y) u
  stored-closed u hy c = record { stays = cases (λ z r i. z ∈ u → r < 2 → i ∈ u) (λ e l. hy e) c.stays }

  -- what the entries hold, each worth h of its element and of what it holds: x's own, and a set's
  module _ (h : ℕ → ℕ → ℕ) where
    held : List (List ℕ) → ℕ → ℕ
    held own z = h z (entry own z 0) + h z (entry own z 1)

    held-own : held (stored own x s y) x + h x (entry own x s) ≡ held own x + h x y
    unfolding held
    held-own =
        let other : (r : ℕ) → r ≢ s → h x (entry (stored own x s y) x r) ≡ h x (entry own x r) = λ r n. ap (h x) (entry-slot r n) in
        let same-slot : (r : ℕ) → r ≡ s → (h x (entry (stored own x s y) x r) ≡ h x y) × (h x (entry own x r) ≡ h x (entry own x s)) =
        λ r e. (ap (h x) (ap (entry (stored own x s y) x) e ∙ entry-same), ap (λ (i : ℕ). h x (entry own x i)) e) in
        elim (bit s (le_of_suc-le-suc ls)) [
          | inl q ↦ omega (arith, same-slot 0 (sym q), other 1 (λ r. omega arith))
          | inr q ↦ omega (arith, same-slot 1 (sym q), other 0 (λ r. omega arith))
        ]

    held_in : (a : ℕ) → over a (held (stored own x s y)) + at x a * h x (entry own x s) ≡ over a (held own) + at x a * h x y
    unfolding held
    held_in a = omega (
      arith,
      over-change a (held (stored own x s y)) (held own) x lx
          (λ z n. ap₂ (λ (i j : ℕ). h z i + h z j) (entry_row own x s y z 0 n) (entry_row own x s y z 1 n)),
      ap (λ (i : ℕ). at x a * i) held-own,
    )

  pub free-stored : free (stored own x s y) x + same (entry own x s) x ≡ free own x + same y x
  unfolding free held
  free-stored = held-own (λ z i. same i z)

  frees-stored : (a : ℕ) → frees (stored own x s y) a + at x a * same (entry own x s) x ≡ frees own a + at x a * same y x
  unfolding frees free held
  frees-stored a = held_in (λ z i. same i z) a

  kept-stored : (a : ℕ) → kept (stored own x s y) a + at x a * at (entry own x s) a ≡ kept own a + at x a * at y a
  unfolding kept held
  kept-stored a = held_in (λ z i. at i a) a

-- ---- the balance

-- a constraint that does not lie in u
pub balanced-outside : (cs ds : List ℕ) (m u : ℕ) (own : List (List ℕ)) → Balanced cs u own → ((a : ℕ) → carried ds a ≡ carried cs a + has m a)
    → ((a : ℕ) → a ⊑ u → has m a ≡ 0) → Balanced ds u own
balanced-outside cs ds m u own b more out = record { all = λ a h. omega (arith, b.all a h, more a, out a h) }

-- a digit times itself
square : (x a : ℕ) → at x a * at x a ≡ at x a
square x a = elim (bit (at x a) (at-le x a)) [ inl e ↦ rw e (omega arith) | inr e ↦ rw e (omega arith) ]

module _ (own : List (List ℕ)) (t : Table own) (x y : ℕ) (lx : x < 64) (n : x ≢ y) where
  -- the constraint m between x and y uses a free entry of x
  pub balanced-placed : (cs ds : List ℕ) (m u : ℕ) → Balanced cs u own → ((a : ℕ) → carried ds a ≡ carried cs a + has m a)
      → ((a : ℕ) → has m a ≡ at x a * at y a) → (s : ℕ) → s < 2 → entry own x s ≡ x → Balanced ds u (stored own x s y)
  balanced-placed cs ds m u b more between s ls e = record {
    all = λ a h.
        let f = rw (e, same_refl x, same-ne y x (λ q. n (sym q))) at (frees-stored own t x s y lx ls a) in
        let k = rw e at (kept-stored own t x s y lx ls a) in
        omega (arith, b.all a h, more a, between a, square x a);
  }

  -- a constraint that x holds towards y goes over to a free entry of y
  module _ (ly : y < 64) (s r : ℕ) (ls : s < 2) (lr : r < 2) (ex : entry own x s ≡ y) (ey : entry own y r ≡ y) where
    abbrev mid : List (List ℕ)
    mid = stored own x s x

    abbrev new : List (List ℕ)
    new = stored mid y r x

    mid-table : Table mid
    mid-table = stored-table own t x s x lx ls lx

    mid-free : entry mid y r ≡ y
    mid-free = entry_row own x s x y r (λ q. n (sym q)) ∙ ey

    pub turned-table : Table new
    turned-table = stored-table mid mid-table y r x ly lr lx

    pub turned-closed : (u : ℕ) → x ∈ u → Closed own u → Closed new u
    turned-closed u hx c = stored-closed mid mid-table y r x ly lr u (λ q. hx) (stored-closed own t x s x lx ls u (λ q. q) c)

    pub turned-balanced : (cs : List ℕ) (u : ℕ) → Balanced cs u own → Balanced cs u new
    turned-balanced cs u b = record {
      all = λ a h.
          let f = rw (ex, same-ne y x (λ q. n (sym q)), same_refl x) at (frees-stored own t x s x lx ls a) in
          let k = rw ex at (kept-stored own t x s x lx ls a) in
          let f' = rw (mid-free, same_refl y, same-ne x y n) at (frees-stored mid mid-table y r x ly lr a) in
          let k' = rw mid-free at (kept-stored mid mid-table y r x ly lr a) in
          omega (arith, b.all a h, square x a, square y a);
    }

    -- x has one more free entry, and another element than x and y as many as before
    pub turned-gains : free new x ≡ free own x + 1
    unfolding free
    turned-gains =
        let free_other : free new x ≡ free mid x = ap₂ (λ (i j : ℕ). same i x + same j x) (entry_row mid y r x x 0 n) (entry_row mid y r x x 1 n) in
        omega (arith, free_other, free-stored own t x s x lx ls, ap (λ (i : ℕ). same i x) ex, same-ne y x (λ q. n (sym q)), same_refl x)

    pub turned-other : (z i : ℕ) → z ≢ x → z ≢ y → entry new z i ≡ entry own z i
    turned-other z i p q = entry_row mid y r x z i q ∙ entry_row own x s x z i p
