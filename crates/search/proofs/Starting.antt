-- The links, the holders and the waiting clusters before the first merge. Assumes nothing.
use Rattle.std.specs.Prelude.{◌≡◌, ◌≢◌, ◌+◌, ◌-◌, ◌*◌, ◌/◌, ◌%◌, ◌^◌, ◌≤◌, ◌<◌}
use Rattle.theory.specs.Prelude.{refl, sym, ap, ◌∙◌, subst, ⊎_elim, List, ℕ}
use Rattle.theory.specs.Prelude.{arith, ℕ_discrete, bit_or, get_or, min, replicate}
use Rattle.theory.specs.Block.Laws.{get_or-blank}
use Rattle.theory.specs.Set.{◌∈◌, ◌∪◌, at, full}
use Rattle.theory.specs.Set.Laws.{at_zero, at_same, at_other, at-∪, ∈-∪⁻, ∈-∪ˡ, ∈-∪ʳ, out}
use Rattle.theory.specs.Merge.{slot}
use Rattle.search.specs.State.{linked, holder, waits, Begun}
use Rattle.search.specs.Words.{Entered}
use Rattle.search.specs.State.Sheet.{in-full}
use Rattle.search.proofs.Storing.{Placed}

-- ---- the three words

-- word w of the first e clusters
abbrev pub first_word : ℕ → ℕ → ℕ
first_word e w = full (min (e - 64 * w) 64)

pub todo-words : {todo todo' : List ℕ} {e n : ℕ} → e ≤ 192 → Placed (λ v. v) (first_word e) todo todo' n → 3 ≤ n → (c : ℕ) → c < e → waits todo' c ≡ 1
todo-words {e = e} low p every c l =
    ap (at (c % 64)) (p.done (c / 64) (omega arith)) ∙ in-full (min (e - 64 * (c / 64)) 64) (c % 64) (omega arith)

-- ---- links and holders

pub begun-none : {s : List ℕ} → Begun s 0 (replicate 64 0) (replicate 192 0)
begun-none = record {
  links_long = refl;
  hold_long = refl;
  only = λ p r e. absurd (omega (arith, ap (at r) (get_or-blank 0 0 64 p), at_zero r));
  every = λ c p r l. absurd (omega arith);
  holding = λ p c l k. absurd (omega arith);
  free = λ p c l k h. ap (at (c % 64)) (get_or-blank 0 0 192 (64 * (c / 64) + p)) ∙ at_zero (c % 64);
}

-- cluster i more
module _ {s links hold links' hold' : List ℕ} {i : ℕ} (low : i < 192) (h : Begun s i links hold) (j : Entered links hold (slot s i) i links' hold')
  where
    mine : (p : ℕ) → p < 64 → Dec (p ∈ slot s i) → holder hold' p i ≡ at p (slot s i)
    unfolding ◌∪◌
    mine p l (yes e) =
        ap (at (i % 64)) (j.noted.inside p e) ∙ ∈-∪ʳ (i % 64) (get_or hold (64 * (i / 64) + p) 0) (2 ^ (i % 64)) (at_same (i % 64)) ∙ sym e
    mine p l (no n) =
        let z = out p (slot s i) n in
        ap (at (i % 64)) (j.noted.outside p l z) ∙ h.free p i l low (omega arith) ∙ sym z

    -- what is said of the word of i is said of the word of n
    placed : (P : ℕ → ℕ → Type 0) (p n : ℕ) → n / 64 ≡ i / 64 → P (get_or hold (64 * (i / 64) + p) 0) (get_or hold' (64 * (i / 64) + p) 0)
        → P (get_or hold (64 * (n / 64) + p) 0) (get_or hold' (64 * (n / 64) + p) 0)
    placed P p n w = subst (λ (k : ℕ). P (get_or hold (64 * k + p) 0) (get_or hold' (64 * k + p) 0)) (sym w)

    other : (p n : ℕ) → p < 64 → n ≢ i → Dec (n / 64 ≡ i / 64) → Dec (p ∈ slot s i) → holder hold' p n ≡ holder hold p n
    unfolding ◌∪◌
    other p n l d (no w) m = ap (at (n % 64)) (j.others (64 * (n / 64) + p) (λ q k e. w (omega arith)))
    other p n l d (yes w) (yes e) =
        let x = get_or hold (64 * (n / 64) + p) 0 in
        ap (at (n % 64)) (placed (λ x y. y ≡ bit_or x (2 ^ (i % 64))) p n w (j.noted.inside p e))
        ∙ omega (arith, at-∪ (n % 64) x (2 ^ (i % 64)), at_other (n % 64) (i % 64) (λ q. d (omega (arith, w, q))))
    other p n l d (yes w) (no e) =
        ap (at (n % 64)) (placed (λ x y. y ≡ x) p n w (j.noted.outside p l (out p (slot s i) e)))

    pub begun-next : Begun s (i + 1) links' hold'
    unfolding ◌∪◌
    begun-next = record {
      links_long = j.links_long;
      hold_long = j.hold_long;
      only = λ p r e. only p r e (ℕ_discrete (at p (slot s i)) 1);
      every = λ n p r l pn rn. every n p r l pn rn (ℕ_discrete n i) (ℕ_discrete (at p (slot s i)) 1);
      holding = λ p n l k. holding p n l k (ℕ_discrete n i);
      free = λ p n l k f. stays p n l (λ e. omega arith) ∙ h.free p n l k (omega arith);
    }
      where
        stays : (p n : ℕ) → p < 64 → n ≢ i → holder hold' p n ≡ holder hold p n
        stays p n l d = other p n l d (ℕ_discrete (n / 64) (i / 64)) (ℕ_discrete (at p (slot s i)) 1)

        only : (p r : ℕ) → r ∈ linked links' p → Dec (p ∈ slot s i) → (c : ℕ) × (p ∈ slot s c) × (r ∈ slot s c)
        only p r e (yes m) =
            ⊎_elim (λ f. h.only p r f) (λ f. (i, m, f)) (∈-∪⁻ r (linked links p) (slot s i) (sym (ap (at r) (j.linking.inside p m)) ∙ e))
        only p r e (no n) = h.only p r (sym (ap (at r) (j.linking.outside p (out p (slot s i) n))) ∙ e)

        every : (n p r : ℕ) → n < i + 1 → p ∈ slot s n → r ∈ slot s n → Dec (n ≡ i) → Dec (p ∈ slot s i)
            → r ∈ linked links' p
        every n p r l pn rn (yes e) d =
            let f : (x : ℕ) → at x (slot s i) ≡ at x (slot s n) = λ x. ap (λ (y : ℕ). at x (slot s y)) (sym e) in
            ap (at r) (j.linking.inside p (f p ∙ pn)) ∙ ∈-∪ʳ r (linked links p) (slot s i) (f r ∙ rn)
        every n p r l pn rn (no m) (yes e) =
            ap (at r) (j.linking.inside p e) ∙ ∈-∪ˡ r (linked links p) (slot s i) (h.every n p r (omega (arith, m)) pn rn)
        every n p r l pn rn (no m) (no e) =
            ap (at r) (j.linking.outside p (out p (slot s i) e)) ∙ h.every n p r (omega (arith, m)) pn rn

        holding : (p n : ℕ) → p < 64 → n < i + 1 → Dec (n ≡ i) → holder hold' p n ≡ at p (slot s n)
        holding p n l k (yes e) = ap (holder hold' p) e ∙ mine p l (ℕ_discrete (at p (slot s i)) 1) ∙ ap (λ (y : ℕ). at p (slot s y)) (sym e)
        holding p n l k (no m) =
            stays p n l m ∙ h.holding p n l (omega (arith, m))
