-- The way back from a place of the queue to the first two, which turns one freedom at each step, and what is gathered so. Assumes nothing.
use Rattle.std.specs.Prelude.{◌≡◌, ◌≢◌, ◌+◌, ◌-◌, ◌≤◌, ◌<◌}
use Rattle.theory.specs.Prelude.{refl, sym, ap, ap₂, ◌∙◌, subst, inr, ⊎_elim, List, ℕ, suc, lt_trans, lt-suc_self}
use Rattle.theory.specs.Prelude.{zero-lt-suc, le_refl, le_of_suc-le-suc, ℕ_discrete, dec_lt, arith}
use Rattle.theory.specs.Set.{at}
use Rattle.theory.specs.Set.Laws.{bit}
use Rattle.sparsity.specs.Freedoms.{entry, stored, free, same, Table}
use Rattle.sparsity.specs.Freedoms.Sums.{same_refl, same-ne, same-eq, same_bit}
use Rattle.sparsity.specs.Freedoms.Stores.{turned-table, turned-closed, turned-balanced, turned-gains, turned-other}
use Rattle.sparsity.specs.Reach.{item, Rebalanced, Way, Walked, Gained, Placed}
use Rattle.sparsity.specs.Reach.Laws.{linked-within}

-- ---- entries

-- the place among the two entries of x that holds y, where one does
pub slot : (own : List (List ℕ)) (x y s : ℕ) → s ≡ same (entry own x 1) y → (r : ℕ) → r < 2 → entry own x r ≡ y → (s < 2) × (entry own x s ≡ y)
slot own x y s e r l q = (
  omega (arith, same_bit s (entry own x 1) y e),
  elim (ℕ_discrete (entry own x 1) y) [
    | yes p ↦ ap (entry own x) (e ∙ ap (λ (z : ℕ). same z y) p ∙ same_refl y) ∙ p
    | no n ↦
        let zero_is : r ≡ 0 = ⊎_elim (λ (z : r ≡ 0). z) (λ (z : r ≡ 1). absurd (n (ap (entry own x) (sym z) ∙ q))) (bit r (le_of_suc-le-suc l)) in
        ap (entry own x) (e ∙ same-ne (entry own x 1) y n) ∙ ap (entry own x) (sym zero_is) ∙ q
  ],
)

-- an element with a free entry has one
pub free-slot : (own : List (List ℕ)) (x : ℕ) → 0 < free own x → (r : ℕ) × (r < 2) × (entry own x r ≡ x)
unfolding free
free-slot own x h = go (ℕ_discrete (entry own x 0) x)
  where
    go : Dec (entry own x 0 ≡ x) → (r : ℕ) × (r < 2) × (entry own x r ≡ x)
    go (yes e) = (0, zero-lt-suc 1, e)
    go (no n) = (1, le_refl 2, same-eq (entry own x 1) x (omega (arith, same-ne (entry own x 0) x n)))

free-same : (own new : List (List ℕ)) (x : ℕ) → ((s : ℕ) → entry new x s ≡ entry own x s) → free new x ≡ free own x
unfolding free
free-same own new x h = ap₂ (λ (i j : ℕ). same i x + same j x) (h 0) (h 1)

-- ---- the way

pub walk_start : {own : List (List ℕ)} {queue from : List ℕ} {p : ℕ} → Way own queue from p → Walked own queue p p own
walk_start {p = p} w = record {
  inside = le_refl p;
  again = record { table = w.table; balanced = λ cs u b. b; closed = λ u ea eb c. c };
  open_at = w.open_at;
  kept = λ j s l. refl;
  gain = λ l. absurd (omega (arith, w.far));
}

module _ {own : List (List ℕ)} {queue from : List ℕ} {p : ℕ} (way : Way own queue from p) {i : ℕ} {t : List (List ℕ)} (w : Walked own queue p i t)
    (two : 2 ≤ i) {j : ℕ} (ej : j ≡ item from i) where
  pub j-less : j < i
  j-less = omega (arith, ej, way.back i two w.inside)

  pub x_fits : {x : ℕ} → x ≡ item queue j → x < 64
  x_fits ex = omega (arith, ex, way.inside j (omega (arith, j-less, w.inside)))

  pub y-fits : {y : ℕ} → y ≡ item queue i → y < 64
  y-fits ey = omega (arith, ey, way.inside i w.inside)

  module _ {x y s r : ℕ} (ex : x ≡ item queue j) (ey : y ≡ item queue i) (es : s ≡ same (entry t x 1) y) (er : r ≡ same (entry t y 1) y) where
    x≢y : x ≢ y
    x≢y e = way.apart j i j-less w.inside (sym ex ∙ e ∙ ey)

    holds : (s < 2) × (entry t x s ≡ y)
    holds =
        let o = way.link i two w.inside in
        slot t x y s es o.0 o.1
        (ap (λ (z : ℕ). entry t z o.0) ex ∙ w.kept j o.0 j-less ∙ ap (λ (k : ℕ). entry own (item queue k) o.0) ej ∙ o.2 ∙ sym ey)

    opens : (r < 2) × (entry t y r ≡ y)
    opens = let o = free-slot t y (subst (λ (z : ℕ). 0 < free t z) (sym ey) w.open_at) in slot t y y r er o.0 o.1 o.2

    abbrev new : List (List ℕ)
    new = stored (stored t x s x) y r x

    other : (m k : ℕ) → m ≤ i → m ≢ j → m ≢ i → entry new (item queue m) k ≡ entry t (item queue m) k
    other m k l nj ni =
        turned-other t w.again.table x y (x_fits ex) x≢y (y-fits ey) s r holds.0 opens.0 holds.1 opens.1 (item queue m) k
        (λ e. differ m j nj l (omega (arith, j-less)) (e ∙ ex)) (λ e. differ m i ni l (le_refl i) (e ∙ ey))
      where
        differ : (m n : ℕ) → m ≢ n → m ≤ i → n ≤ i → item queue m ≢ item queue n
        differ m n ne lm ln = go (dec_lt m n)
          where
            go : Dec (m < n) → item queue m ≢ item queue n
            go (yes h) = way.apart m n h (omega (arith, w.inside))
            go (no h) = λ e. way.apart n m (omega arith) (omega (arith, w.inside)) (sym e)

    gains : free new (item queue j) ≡ free t (item queue j) + 1
    gains =
        subst (λ (z : ℕ). free new z ≡ free t z + 1) ex
        (turned-gains t w.again.table x y (x_fits ex) x≢y (y-fits ey) s r holds.0 opens.0 holds.1 opens.1)

    walk_step : Walked own queue p j (stored (stored t x s x) y r x)
    walk_step = record {
      inside = omega (arith, j-less, w.inside);
      again = record {
        table = turned-table t w.again.table x y (x_fits ex) x≢y (y-fits ey) s r holds.0 opens.0 holds.1 opens.1;
        balanced = λ cs u b.
            turned-balanced t w.again.table x y (x_fits ex) x≢y (y-fits ey) s r holds.0 opens.0 holds.1 opens.1 cs u
            (w.again.balanced cs u b);
        closed = λ u ea eb c.
            turned-closed t w.again.table x y (x_fits ex) x≢y (y-fits ey) s r holds.0 opens.0 holds.1 opens.1 u
            (ap (λ (z : ℕ). at z u) ex
            ∙ linked-within own queue from (suc p) (λ k h l. way.back k h (le_of_suc-le-suc l))
            (λ k h l. way.link k h (le_of_suc-le-suc l)) u ea eb c j
            (omega (arith, j-less, w.inside)))
            (w.again.closed u ea eb c);
      };
      open_at = omega (arith, gains);
      kept = λ m k l. other m k (omega (arith, j-less)) (λ e. omega arith) (λ e. omega (arith, j-less)) ∙ w.kept m k (lt_trans l j-less);
      gain = gain;
    }
      where
        start : (m : ℕ) → m < 2 → m ≢ j → free new (item queue m) ≡ free own (item queue m)
        start m l n = free-same own new (item queue m) (λ k. other m k (omega arith) n (λ e. omega arith) ∙ w.kept m k (omega arith))

        here : free new (item queue j) ≡ free own (item queue j) + 1
        here = gains ∙ ap (λ (z : ℕ). z + 1) (free-same own t (item queue j) (λ k. w.kept j k j-less))

        gain : j < 2 → free new (item queue 0) + free new (item queue 1) ≡ free own (item queue 0) + free own (item queue 1) + 1
        gain l = ⊎_elim
            (λ (e : j ≡ 0).
            omega (
              arith,
              start 1 (lt-suc_self 1) (λ q. omega arith),
              subst (λ (k : ℕ). free new (item queue k) ≡ free own (item queue k) + 1) e here,
            ))
            (λ (e : j ≡ 1).
            omega (
              arith,
              start 0 (zero-lt-suc 1) (λ q. omega arith),
              subst (λ (k : ℕ). free new (item queue k) ≡ free own (item queue k) + 1) e here,
            ))
            (bit j (le_of_suc-le-suc l))

    -- one step of the way back, as the code stores it: z is the element that both entries get
    pub walk-stored : {z : ℕ} → x ≡ z → Walked own queue p j (stored (stored t x s z) y r z)
    walk-stored e = subst (λ (z : ℕ). Walked own queue p j (stored (stored t x s z) y r z)) e walk_step

pub walk_end : {own : List (List ℕ)} {queue : List ℕ} {p i : ℕ} {t : List (List ℕ)} → Walked own queue p i t → i < 2
    → Gained own (item queue 0) (item queue 1) t
walk_end w l = record { again = w.again; gain = w.gain l }

-- ---- gathering

pub again-refl : {own : List (List ℕ)} (a b : ℕ) → Table own → Rebalanced own a b own
again-refl a b t = record { table = t; balanced = λ cs u e. e; closed = λ u ea eb c. c }

pub again-trans : {own mid new : List (List ℕ)} {a b : ℕ} → Rebalanced own a b mid → Rebalanced mid a b new → Rebalanced own a b new
again-trans g h = record {
  table = h.table;
  balanced = λ cs u e. h.balanced cs u (g.balanced cs u e);
  closed = λ u ea eb c. h.closed u ea eb (g.closed u ea eb c);
}

-- the first two are a and b
pub gained-ends : {own new : List (List ℕ)} {a b x y : ℕ} → x ≡ a → y ≡ b → Gained own x y new → Gained own a b new
gained-ends {own} {new} {a} {b} {x} {y} ex ey g = subst (λ (z : ℕ). Gained own a z new) ey (subst (λ (z : ℕ). Gained own z y new) ex g)

-- ---- placing

-- a free entry of b, for a constraint between a and b
pub placed-second : {own : List (List ℕ)} (a : ℕ) {b j : ℕ} (s : ℕ) → j ≡ b → s < 2 → entry own b s ≡ b → Placed own a b (stored own j s a)
placed-second {own} a {b} s ej l e =
    record { from = _; to = a; slot = s; ends = inr (ej, refl); two = l; was_free = ap (λ (x : ℕ). entry own x s) ej ∙ e ∙ sym ej; stores = refl }

-- neither entry of a is free: one of b is, the first where that is
pub last-free : (own : List (List ℕ)) {a b r : ℕ} → r ≡ 1 - same (entry own b 0) b → entry own a 0 ≢ a → entry own a 1 ≢ a
    → 0 < free own a + free own b → (r < 2) × (entry own b r ≡ b)
unfolding free
last-free own {a} {b} {r} e n0 n1 h = elim (ℕ_discrete (entry own b 0) b) [
  | yes q ↦ let z : r ≡ 0 = omega (arith, e, ap (λ (y : ℕ). same y b) q, same_refl b) in (omega arith, ap (entry own b) z ∙ q)
  | no n ↦ let o : r ≡ 1 = omega (arith, e, same-ne (entry own b 0) b n) in (
    omega arith,
    ap (entry own b) o ∙ same-eq (entry own b 1) b (omega (arith, same-ne (entry own a 0) a n0, same-ne (entry own a 1) a n1, same-ne (entry own b 0) b n)),
  )
]
