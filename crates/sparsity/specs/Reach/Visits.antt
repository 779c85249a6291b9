-- An element that is met for the first time goes to the end of the queue. Assumes nothing.
use Rattle.std.specs.Prelude.{◌≡◌, ◌≢◌, ◌+◌, ◌^◌, ◌≤◌, ◌<◌}
use Rattle.theory.specs.Prelude.{sym, ap, ◌∙◌, subst, ⊎_elim, List, ℕ, lt_trans, ne_of_lt}
use Rattle.theory.specs.Prelude.{eq-or-lt_of_le, ℕ_discrete, arith, or_lt, ones, ones-le, set, length-set, pow-lt, get_or-set_same}
use Rattle.theory.specs.Prelude.{get_or-set_other}
use Rattle.theory.specs.Set.{◌∈◌, ◌∪◌, at}
use Rattle.theory.specs.Set.Laws.{at-∪, at-le, at_same, at_other, size-add, ∪-comm}
use Rattle.sparsity.specs.Freedoms.{entry, free, Table}
use Rattle.sparsity.specs.Reach.{item, Reached, Scanned, Shut, Way}

pub reached-most : {own : List (List ℕ)} {a b : ℕ} {queue from : List ℕ} {seen count : ℕ} → Reached own a b queue from seen count → count ≤ 64
reached-most {seen = seen} r = omega (arith, r.size, ones-le 64 seen r.small)

-- the way back from an element with a free entry
pub way_of : {own : List (List ℕ)} {a b : ℕ} {queue from : List ℕ} {seen count : ℕ} → Table own → Reached own a b queue from seen count
    → (place : ℕ) → place < count → 2 ≤ place → 0 < free own (item queue place) → Way own queue from place
way_of t r place l far o = record {
  table = t;
  far = far;
  room = omega (arith, reached-most r);
  inside = λ i h. r.inside i (omega arith);
  back = λ i two h. r.back i two (omega arith);
  link = λ i two h. r.link i two (omega arith);
  apart = λ i j k h. r.apart i j k (omega arith);
  open_at = o;
}

-- y is the other end of entry s of the element at place p
module _ {own : List (List ℕ)} (t : Table own) {a b : ℕ} {queue from : List ℕ} {seen count : ℕ} (r : Reached own a b queue from seen count)
    (p s y : ℕ) (lp : p < count) (ls : s < 2) (ey : y ≡ entry own (item queue p) s) (new : at y seen ≡ 0) where
  ly : y < 64
  ly = omega (arith, ey, t.low (item queue p) s (r.inside p lp) ls)

  more : ones (seen ∪ 2 ^ y) ≡ count + 1
  more = omega (arith, ap ones (∪-comm seen (2 ^ y)), size-add seen y new, r.size)

  pub pushed-fits : count < 64
  unfolding ◌∪◌
  pushed-fits = omega (arith, more, ones-le 64 (seen ∪ 2 ^ y) (or_lt 64 seen (2 ^ y) r.small (pow-lt ly)))

  abbrev q : List ℕ
  q = set queue count y

  abbrev f : List ℕ
  f = set from count p

  abbrev v : ℕ
  v = seen ∪ 2 ^ y

  q-old : (i : ℕ) → i < count → item q i ≡ item queue i
  q-old i l = get_or-set_other queue count i y 0 (ne_of_lt l)

  q-new : item q count ≡ y
  q-new = get_or-set_same queue count y 0 (omega (arith, r.lent.places, pushed-fits))

  f-old : (i : ℕ) → i < count → item f i ≡ item from i
  f-old i l = get_or-set_other from count i p 0 (ne_of_lt l)

  f-new : item f count ≡ p
  f-new = get_or-set_same from count p 0 (omega (arith, r.lent.places', pushed-fits))

  v-old : (x : ℕ) → x ∈ seen → x ∈ v
  v-old x e = omega (arith, at-∪ x seen (2 ^ y), at-le x (2 ^ y))

  v-new : y ∈ v
  v-new = omega (arith, at-∪ y seen (2 ^ y), at_same y, at-le y seen)

  v-other : (x : ℕ) → x ≢ y → at x v ≡ at x seen
  v-other x n = omega (arith, at-∪ x seen (2 ^ y), at_other x y n)

  split : (P : ℕ → Type 0) → P count → ((i : ℕ) → i < count → P i) → (i : ℕ) → i < count + 1 → P i
  split P last old i l = ⊎_elim (λ (e : i ≡ count). subst P (sym e) last) (λ (m : i < count). old i m) (eq-or-lt_of_le (omega arith))

  old≢ : (i : ℕ) → i < count → item queue i ≢ y
  old≢ i l e = omega (arith, r.marked i l, ap (λ (x : ℕ). at x seen) e)

  pub pushed : Reached own a b q f v (count + 1)
  unfolding ◌∪◌
  pushed = record {
    lent = record { places = length-set queue count y ∙ r.lent.places; places' = length-set from count p ∙ r.lent.places' };
    low = omega (arith, r.low);
    start = q-old 0 (omega (arith, r.low)) ∙ r.start;
    start' = q-old 1 (omega (arith, r.low)) ∙ r.start';
    inside = split (λ i. item q i < 64) (omega (arith, q-new, ly)) (λ i l. omega (arith, q-old i l, r.inside i l));
    back = λ i h l. split (λ i. 2 ≤ i → item f i < i) (λ h. omega (arith, f-new, lp)) (λ i l h. omega (arith, f-old i l, r.back i h l)) i l h;
    link =
        λ i h l. split Link
        (λ h. (s, ls, ap (λ (j : ℕ). entry own (item q j) s) f-new ∙ ap (λ (x : ℕ). entry own x s) (q-old p lp) ∙ sym ey ∙ sym q-new))
        (λ i l h.
        let o = r.link i h l in (
          o.0,
          o.1,
          ap (λ (j : ℕ). entry own (item q j) o.0) (f-old i l)
              ∙ ap (λ (x : ℕ). entry own x o.0) (q-old (item from i) (omega (arith, r.back i h l))) ∙ o.2 ∙ sym (q-old i l),
        )) i l h;
    apart = λ i j l h. split (λ j. i < j → item q i ≢ item q j) (λ l e. old≢ i l (sym (q-old i l) ∙ e ∙ q-new))
        (λ j m l e. r.apart i j l m (sym (q-old i (lt_trans l m)) ∙ e ∙ q-old j m)) j h l;
    marked = split (λ i. item q i ∈ v) (ap (λ (x : ℕ). at x v) q-new ∙ v-new)
        (λ i l. ap (λ (x : ℕ). at x v) (q-old i l) ∙ v-old (item queue i) (r.marked i l));
    queued = λ x e. queued x e (ℕ_discrete x y);
    size = more;
    small = or_lt 64 seen (2 ^ y) r.small (pow-lt ly);
  }
    where
      Link : ℕ → Type 0
      Link i = 2 ≤ i → (s : ℕ) × (s < 2) × (entry own (item q (item f i)) s ≡ item q i)

      queued : (x : ℕ) → x ∈ v → Dec (x ≡ y) → (i : ℕ) × (i < count + 1) × (item q i ≡ x)
      queued x e (yes m) = (count, omega arith, q-new ∙ sym m)
      queued x e (no n) = let o = r.queued x (sym (v-other x n) ∙ e) in (o.0, omega (arith, o.1), q-old o.0 o.1 ∙ o.2)

  -- its place has a way back where it has a free entry
  pub pushed-way : 0 < free own y → Way own q f count
  pushed-way o = way_of t pushed count (omega arith) r.low (subst (λ (z : ℕ). 0 < free own z) (sym q-new) o)

  pub pushed-shut : Shut own queue count → free own y ≡ 0 → Shut own q (count + 1)
  pushed-shut w o = record {
    none = λ i h l. split (λ i. 2 ≤ i → free own (item q i) ≡ 0) (λ h. ap (free own) q-new ∙ o) (λ i l h. ap (free own) (q-old i l) ∙ w.none i h l) i l h;
  }

  pub pushed-scanned : Scanned own queue seen p → Scanned own q v p
  pushed-scanned w = record {
    stays = λ i k l h. ap (λ (x : ℕ). at (entry own x k) v) (q-old i (lt_trans l lp)) ∙ v-old (entry own (item queue i) k) (w.stays i k l h);
  }
