-- The search from its start to its end, and what its end says. Assumes nothing.
use Rattle.std.specs.Prelude.{◌≡◌, ◌≢◌, ◌+◌, ◌^◌, ◌≤◌, ◌<◌, Ok, Err}
use Rattle.theory.specs.Prelude.{sym, ap, ◌∙◌, subst, inl, inr, ⊎_elim, List, ℕ, zero, suc, lt-suc_self}
use Rattle.theory.specs.Prelude.{zero-lt-suc, le_refl, ne_of_lt, not-suc-le-zero, le_of_suc-le-suc, dec_lt, arith, bit_or}
use Rattle.theory.specs.Prelude.{set, length-set, get_or-set_same, get_or-set_other}
use borrow.Author.Count.{below_more}
use Rattle.theory.specs.Set.{◌∈◌, ◌∪◌, ◌⊑◌, at}
use Rattle.theory.specs.Set.Laws.{at-le, at_same, at_other, bit, size-add, size-pow, ∈-∪ˡ, ∈-∪ʳ}
use Rattle.theory.specs.Constraints.{pair}
use Rattle.theory.specs.Constraints.Laws.{at_pair, at-end, pair-below}
use Rattle.sparsity.specs.Freedoms.{entry, free, Table, Closed}
use Rattle.sparsity.specs.Reach.{item, Lent, Reached, Scanned, Shut, Found}
use Rattle.sparsity.specs.Reach.Visits.{pushed-fits, pushed, pushed-way, pushed-shut, pushed-scanned}

-- ---- the search

-- the elements at the first p places are scanned
pub record Searched (own : List (List ℕ)) (a b : ℕ) (queue from : List ℕ) (seen count p : ℕ) : Type 0 where
  pub reached : Reached own a b queue from seen count
  pub scanned : Scanned own queue seen p
  pub shut : Shut own queue count
  pub within : p ≤ count

-- and of the element x at place p the first s entries
pub record Scanning (own : List (List ℕ)) (a b : ℕ) (queue from : List ℕ) (seen count p x s : ℕ) : Type 0 where
  pub reached : Reached own a b queue from seen count
  pub scanned : Scanned own queue seen p
  pub shut : Shut own queue count
  pub here : p < count
  pub place : item queue p ≡ x
  pub entries : (k : ℕ) → k < s → entry own x k ∈ seen

-- the queue at the start
module _ (own : List (List ℕ)) (a b : ℕ) (la : a < 64) (lb : b < 64) (n : a ≢ b) {queue from : List ℕ} (lent : Lent queue from) where
  abbrev two : List ℕ
  two = set (set queue 0 a) 1 b

  first : item two 0 ≡ a
  first = get_or-set_other (set queue 0 a) 1 0 b 0 (ne_of_lt (zero-lt-suc 0)) ∙ get_or-set_same queue 0 a 0 (omega (arith, lent.places))

  second : item two 1 ≡ b
  second = get_or-set_same (set queue 0 a) 1 b 0 (omega (arith, length-set queue 0 a, lent.places))

  either : (P : ℕ → Type 0) → P 0 → P 1 → (i : ℕ) → i < 2 → P i
  either P p q i l = ⊎_elim (λ (e : i ≡ 0). subst P (sym e) p) (λ (e : i ≡ 1). subst P (sym e) q) (bit i (le_of_suc-le-suc l))

  begun : Reached own a b two from (pair a b) 2
  unfolding pair
  begun = record {
    lent = record { places = length-set (set queue 0 a) 1 b ∙ length-set queue 0 a ∙ lent.places; places' = lent.places' };
    low = le_refl 2;
    start = first;
    start' = second;
    inside = either (λ i. item two i < 64) (omega (arith, first)) (omega (arith, second));
    back = λ i h l. absurd (omega arith);
    link = λ i h l. absurd (omega arith);
    apart = λ i j l h e. n (sym first ∙ ap (item two) (omega arith) ∙ e ∙ ap (item two) (omega arith) ∙ second);
    marked = either (λ i. item two i ∈ pair a b) (ap (λ (x : ℕ). at x (pair a b)) first ∙ (at-end a b).0)
        (ap (λ (x : ℕ). at x (pair a b)) second ∙ (at-end a b).1);
    queued = λ x e. elim (at_pair x a b e) [ inl q ↦ (0, zero-lt-suc 1, first ∙ sym q) | inr q ↦ (1, lt-suc_self 1, second ∙ sym q) ];
    size = omega (arith, size-add (2 ^ b) a (at_other a b n), size-pow b);
    small = pair-below 64 a b la lb;
  }

  pub searched_none : {seen : ℕ} → seen ≡ pair a b → Searched own a b two from seen 2 0
  searched_none e = rw e (record {
    reached = begun;
    scanned = record { stays = λ i s l h. absurd (not-suc-le-zero l) };
    shut = record { none = λ i h l. absurd (omega arith) };
    within = omega arith;
  })

pub scan-none : {own : List (List ℕ)} {a b : ℕ} {queue from : List ℕ} {seen count p x : ℕ} → Searched own a b queue from seen count p → p < count
    → x ≡ item queue p → Scanning own a b queue from seen count p x 0
scan-none w l e = record {
  reached = w.reached;
  scanned = w.scanned;
  shut = w.shut;
  here = l;
  place = sym e;
  entries = λ k h. absurd (not-suc-le-zero h);
}

module _ {own : List (List ℕ)} (t : Table own) {a b : ℕ} {queue from : List ℕ} {seen count p x s : ℕ}
    (w : Scanning own a b queue from seen count p x s) (ls : s < 2) where
  -- the other end of entry s
  abbrev y : ℕ
  y = entry own x s

  -- a known one
  pub scan-known : y ∈ seen → Scanning own a b queue from seen count p x (s + 1)
  scan-known e = record {
    reached = w.reached;
    scanned = w.scanned;
    shut = w.shut;
    here = w.here;
    place = w.place;
    entries = below_more (λ k. entry own x k ∈ seen) s w.entries e;
  }

  -- a new one
  module _ (new : at y seen ≡ 0) where
    ey : y ≡ entry own (item queue p) s
    ey = ap (λ (z : ℕ). entry own z s) (sym w.place)

    pub scan-fits : count < 64
    scan-fits = pushed-fits t w.reached p s y w.here ls ey new

    pub scan-found : 0 < free own y → Found own a b (set queue count y) (set from count p) (Ok count)
    scan-found o =
        let r = pushed t w.reached p s y w.here ls ey new in
        record { start = r.start; start' = r.start'; outcome = pushed-way t w.reached p s y w.here ls ey new o }

    pub scan-new : free own y ≡ 0 → {m : ℕ} → m ≡ 2 ^ y
        → Scanning own a b (set queue count y) (set from count p) (bit_or seen m) (count + 1) p x (s + 1)
    unfolding ◌∪◌
    scan-new o e = rw e (record {
      reached = pushed t w.reached p s y w.here ls ey new;
      scanned = pushed-scanned t w.reached p s y w.here ls ey new w.scanned;
      shut = pushed-shut t w.reached p s y w.here ls ey new w.shut o;
      here = omega (arith, w.here);
      place = get_or-set_other queue count p y 0 (ne_of_lt w.here) ∙ w.place;
      entries = below_more (λ k. entry own x k ∈ seen ∪ 2 ^ y) s (λ k l. ∈-∪ˡ (entry own x k) seen (2 ^ y) (w.entries k l)) (∈-∪ʳ y seen (2 ^ y) (at_same y));
    })

-- what is linked to the first two lies in every closed set that holds them
pub linked-within : (own : List (List ℕ)) (queue from : List ℕ) (count : ℕ) → ((i : ℕ) → 2 ≤ i → i < count → item from i < i)
    → ((i : ℕ) → 2 ≤ i → i < count → (s : ℕ) × (s < 2) × (entry own (item queue (item from i)) s ≡ item queue i))
    → (u : ℕ) → item queue 0 ∈ u → item queue 1 ∈ u → Closed own u → (i : ℕ) → i < count → item queue i ∈ u
linked-within own queue from count back link u ea eb c i l = go (suc i) i (lt-suc_self i) l
  where
    go : (m i : ℕ) → i < m → i < count → item queue i ∈ u
    go zero i h l = absurd (not-suc-le-zero h)
    go (suc m) i h l = elim (dec_lt i 2) [
      | yes k ↦ ⊎_elim
          (λ (e : i ≡ 0). ap (λ (j : ℕ). at (item queue j) u) e ∙ ea)
          (λ (e : i ≡ 1). ap (λ (j : ℕ). at (item queue j) u) e ∙ eb) (bit i (le_of_suc-le-suc k))
      | no k ↦ let two : 2 ≤ i = omega arith in
          let o = link i two l in
          let b = back i two l in
          ap (λ (x : ℕ). at x u) (sym o.2) ∙ c.stays (item queue (item from i)) o.0 (go m (item from i) (omega arith) (omega arith)) o.1
    ]

-- what is reached lies in every closed set that holds a and b
pub reached-within : (own : List (List ℕ)) (a b : ℕ) (queue from : List ℕ) (seen count : ℕ) → Reached own a b queue from seen count
    → (u : ℕ) → a ∈ u → b ∈ u → Closed own u → (i : ℕ) → i < count → item queue i ∈ u
reached-within own a b queue from seen count r u ea eb c =
    linked-within own queue from count r.back r.link u (ap (λ (x : ℕ). at x u) r.start ∙ ea) (ap (λ (x : ℕ). at x u) r.start' ∙ eb) c

pub seen-within : {own : List (List ℕ)} {a b : ℕ} {queue from : List ℕ} {seen count : ℕ} → Reached own a b queue from seen count
    → (u : ℕ) → a ∈ u → b ∈ u → Closed own u → seen ⊑ u
seen-within {own} {a} {b} {queue} {from} {seen} {count} r u ea eb c = record {
  le = λ x. ⊎_elim
      (λ (e : at x seen ≡ 0). omega arith)
      (λ (e : x ∈ seen).
      let o = r.queued x e in
      omega (arith, ap (λ (i : ℕ). at i u) o.2, reached-within own a b queue from seen count r u ea eb c o.0 o.1))
      (bit (at x seen) (at-le x seen));
}

-- all is reached, and nothing is free but at a and b: no more can be had
module _ {own : List (List ℕ)} {a b : ℕ} {queue from : List ℕ} {seen count p : ℕ} (w : Searched own a b queue from seen count p) (done : count ≤ p) where
  abbrev r : Reached own a b queue from seen count
  r = w.reached

  stuck-none : (x : ℕ) → x ∈ seen → x ≢ a → x ≢ b → free own x ≡ 0
  stuck-none x e na nb = let o = r.queued x e in elim (dec_lt o.0 2) [
    | yes k ↦ ⊎_elim
        (λ (z : o.0 ≡ 0). absurd (na (sym o.2 ∙ ap (item queue) z ∙ r.start)))
        (λ (z : o.0 ≡ 1). absurd (nb (sym o.2 ∙ ap (item queue) z ∙ r.start'))) (bit o.0 (le_of_suc-le-suc k))
    | no k ↦ ap (free own) (sym o.2) ∙ w.shut.none o.0 (omega arith) o.1
  ]

  pub searched-stuck : Found own a b queue from (Err seen)
  searched-stuck = record {
    start = r.start;
    start' = r.start';
    outcome = record {
      first = ap (λ (x : ℕ). at x seen) (sym r.start) ∙ r.marked 0 (omega (arith, r.low));
      second = ap (λ (x : ℕ). at x seen) (sym r.start') ∙ r.marked 1 (omega (arith, r.low));
      closed = record {
        stays = λ x s e h. let o = r.queued x e in subst (λ (z : ℕ). entry own z s ∈ seen) o.2 (w.scanned.stays o.0 s (omega (arith, o.1)) h);
      };
      none = stuck-none;
      least = λ u ua ub uc. seen-within r u ua ub uc;
    };
  }
