-- One turn of each loop. Assumes nothing.
use Rattle.std.specs.Prelude.{◌≡◌, ◌≢◌, ◌∷◌, ◌-◌, ◌≤◌, ◌<◌}
use Rattle.theory.specs.Prelude.{refl, sym, ap, ap₂, ◌∙◌, subst, Bool, true, false, not, cond, List, ℕ, zero, suc}
use Rattle.theory.specs.Prelude.{arith, dec_le, bit_and, bit_or, ones, T, eqb, leb, leb→le, le→leb, length, drop, get_or, drop-cons, drop-length}
use Rattle.theory.specs.Prelude.{ne_eqb}
use Rattle.theory.specs.Set.{◌∩◌, ◌∪◌}
use Rattle.theory.specs.Set.Laws.{⊑-size-≡, ⊑⇒size≤, size_none, size-zero}
use Rattle.theory.specs.Ring.{linked, once, strip, stripped, ringed}
use Rattle.theory.specs.Ring.Strip.{strip-sub, stripped-same, stripped-ends}
use Rattle.engine.specs.Turns.{Swept}

-- ---- a cluster that holds two lines or more, and one that does not

pub many : (l c : ℕ) → 2 ≤ ones (bit_and c l) → bit_and c l ≡ linked l c
unfolding linked ◌∩◌
many l c h = by (leb 2 (ones (c ∩ l))) (le→leb 2 (ones (c ∩ l)) h)
  where
    by : (b : Bool) → T b → c ∩ l ≡ cond b (c ∩ l) 0
    by true t = refl
    by false t = absurd t

pub few : (l c : ℕ) → ones (bit_and c l) < 2 → 0 ≡ linked l c
unfolding linked ◌∩◌
few l c h = by (leb 2 (ones (c ∩ l))) refl
  where
    by : (b : Bool) → leb 2 (ones (c ∩ l)) ≡ b → 0 ≡ cond b (c ∩ l) 0
    by true e = absurd (omega (arith, leb→le 2 (ones (c ∩ l)) (subst T (sym e) tt)))
    by false e = refl

-- r, the set m without one of its elements, tells which
module _ (m r : ℕ) (less : ones r ≡ ones m - 1) where
  pub one_in : r ≡ 0 → ones m < 2
  one_in e = omega (arith, less, ap ones e, size-zero)

  pub two_in : r ≢ 0 → 2 ≤ ones m
  two_in more = by (dec_le 2 (ones m))
    where
      by : Dec (2 ≤ ones m) → 2 ≤ ones m
      by (yes h) = h
      by (no n) = absurd (more (size_none r (omega (arith, less, n))))

pub sweep-start : (l : ℕ) (s : List ℕ) → Swept l s (length s) 0 0
unfolding once strip
sweep-start l s = record {
  within = omega arith;
  some_is = sym (ap (once l) (drop-length s));
  two_is = sym (ap (strip l) (drop-length s));
}

module _ (l : ℕ) (s : List ℕ) (i some two : ℕ) (w : Swept l s i some two) (pos : 0 < i) where
  abbrev c : ℕ
  c = get_or s (i - 1) 0

  here : drop (i - 1) s ≡ c ∷ drop i s
  here =
      let low : i - 1 < length s = omega (arith, w.within) in
      let e : suc (i - 1) ≡ i = omega arith in
      drop-cons s (i - 1) 0 low ∙ ap (λ (n : ℕ). c ∷ drop n s) e

  pub sweep : {m : ℕ} → m ≡ linked l c → Swept l s (i - 1) (bit_or m some) (bit_or (bit_and m some) two)
  unfolding ◌∩◌ ◌∪◌ once strip
  sweep e = record {
    within = omega (arith, w.within);
    some_is = sym (ap (once l) here ∙ ap₂ ◌∪◌ (sym e) (sym w.some_is));
    two_is = sym (ap (strip l) here ∙ ap₂ ◌∪◌ (ap₂ ◌∩◌ (sym e) (sym w.some_is)) (sym w.two_is));
  }

pub sweep-end : (l : ℕ) (s : List ℕ) (i some two : ℕ) → Swept l s i some two → i ≤ 0 → two ≡ strip l s
sweep-end l s zero some two w h = w.two_is
sweep-end l s (suc i) some two w h = absurd (omega arith)

-- ---- stripping

-- fewer lines are left after a turn that takes one off
pub strip-fewer : (s : List ℕ) (l : ℕ) → strip l s ≢ l → ones (strip l s) < ones l
strip-fewer s l ne = by (dec_le (ones l) (ones (strip l s)))
  where
    by : Dec (ones l ≤ ones (strip l s)) → ones (strip l s) < ones l
    by (yes h) = absurd (ne (⊑-size-≡ l (strip l s) (strip-sub l s) h))
    by (no n) = omega arith

-- stripped once more at the end, or at the start
strip-last : (k : ℕ) (s : List ℕ) (l : ℕ) → strip (stripped k s l) s ≡ stripped k s (strip l s)
unfolding stripped
strip-last zero s l = refl
strip-last (suc k) s l = strip-last k s (strip l s)

-- as often as there are lines is enough
enough : (k : ℕ) (s : List ℕ) (l : ℕ) → ones l ≤ k → stripped k s l ≡ stripped (ones l) s l
unfolding stripped
enough zero s l h = ap (λ (n : ℕ). stripped n s l) {x = 0} {y = ones l} (omega arith)
enough (suc k) s l h = elim (dec_le (ones l) k) [
  | yes m ↦ sym (strip-last k s l) ∙ stripped-ends k s l m ∙ enough k s l m
  | no n ↦ ap (λ (m : ℕ). stripped m s l) {x = suc k} {y = ones l} (omega arith)
]

-- ---- the answer

-- a turn does not change it
pub ringed-strip : (l : ℕ) (s : List ℕ) → ringed (strip l s) s ≡ ringed l s
unfolding ringed
ringed-strip l s =
    ap (λ (z : ℕ). not (eqb z 0))
    (sym (enough (ones l) s (strip l s) (⊑⇒size≤ l (strip l s) (strip-sub l s))) ∙ sym (strip-last (ones l) s l)
    ∙ stripped-ends (ones l) s l (omega arith))

-- lines that a turn leaves as they are
pub ringed-same : (l : ℕ) (s : List ℕ) → l ≢ 0 → strip l s ≡ l → true ≡ ringed l s
unfolding ringed
ringed-same l s some e = sym (ap not (ap (λ (z : ℕ). eqb z 0) (stripped-same (ones l) s l e) ∙ ne_eqb l 0 some))

-- no line
pub ringed-none : (l : ℕ) (s : List ℕ) → l ≡ 0 → false ≡ ringed l s
unfolding ringed stripped
ringed-none l s none = sym (ap (λ (z : ℕ). not (eqb z 0)) (sym (enough 0 s l (omega (arith, ap ones none, size-zero))) ∙ none))
