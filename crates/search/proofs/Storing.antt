-- Stores at places one after another: of a list, and at base + p for the elements p of a set; and the elements linked within a set alone.
-- Assumes nothing.
use Rattle.std.specs.Prelude.{◌≡◌, ◌≢◌, ◌⊎◌, ◌+◌, ◌-◌, ◌*◌, ◌/◌, ◌%◌, ◌^◌, ◌≤◌, ◌<◌}
use Rattle.theory.specs.Prelude.{refl, sym, ap, ◌∙◌, subst, inl, inr, one-mul, lt-suc_self, shl_exact, List, ℕ}
use Rattle.theory.specs.Prelude.{arith, ℕ_discrete, dec_lt, bit_and, bit_or, bit_xor, and_le_l, count_trailing_zeros, length, get_or, set, length-set}
use Rattle.theory.specs.Prelude.{List·getD-eq-default, get_or-set_same, get_or-set_other}
use Rattle.theory.specs.Set.{◌∈◌, ◌∩◌, ◌∪◌, at}
use Rattle.theory.specs.Set.Laws.{at_zero, at-∩, ∈-∩⁻, ∈-∪⁻, ∈-∪ˡ}
use Rattle.theory.specs.Set.Lowest.{at-below, lowest-in, lowest-below, rest-lowest, rest-other, at-beyond}
use Rattle.search.specs.State.{linked, Linking}
use Rattle.search.specs.Words.{replaced_at, Stored, Rejoined, Entered, Inner}

-- a shifted one
pub one-shifted : (k : ℕ) → k < 64 → 1 * 2 ^ k % 18446744073709551616 ≡ 2 ^ k
one-shifted k l = shl_exact 1 k 64 (lt-suc_self 1) (omega arith) ∙ one-mul (2 ^ k)

-- ---- a list of places

-- the values of the numbers below w stand at their places, and what stands elsewhere is as it was
pub record Placed (place value : ℕ → ℕ) (was now : List ℕ) (w : ℕ) : Type 0 where
  pub long : length now ≡ length was
  pub done : (v : ℕ) → v < w → get_or now (place v) 0 ≡ value v
  pub same : (i : ℕ) → ((v : ℕ) → v < w → i ≢ place v) → get_or now i 0 ≡ get_or was i 0

pub placed-none : {place value : ℕ → ℕ} {was : List ℕ} → Placed place value was was 0
placed-none = record { long = refl; done = λ v l. absurd (omega arith); same = λ i far. refl }

pub placed-next : {place value : ℕ → ℕ} {was now : List ℕ} {w : ℕ} → Placed place value was now w → ((v : ℕ) → v < w → place w ≢ place v)
    → place w < length was → {x : ℕ} → (get_or now (place w) 0 ≡ get_or was (place w) 0 → x ≡ value w)
    → Placed place value was (set now (place w) x) (w + 1)
placed-next {place} {value} {was} {now} {w} p apart room {x} is = record {
  long = length-set now (place w) x ∙ p.long;
  done = λ v l. done v l (ℕ_discrete v w);
  same = λ i far. get_or-set_other now (place w) i x 0 (far w (omega arith)) ∙ p.same i (λ v l. far v (omega arith));
}
  where
    done : (v : ℕ) → v < w + 1 → Dec (v ≡ w) → get_or (set now (place w) x) (place v) 0 ≡ value v
    done v l (yes e) =
        subst (λ (u : ℕ). get_or (set now (place w) x) (place u) 0 ≡ value u) (sym e)
        (get_or-set_same now (place w) x 0 (omega (arith, p.long)) ∙ is (p.same (place w) apart))
    done v l (no n) = get_or-set_other now (place w) (place v) x 0 (λ e. apart v (omega arith) (sym e)) ∙ p.done v (omega arith)

-- ---- the elements of a set

-- f is stored for the elements of edge that lie not in rest
pub record Storing (f : ℕ → ℕ) (base edge : ℕ) (list now : List ℕ) (rest : ℕ) : Type 0 where
  pub done : (p : ℕ) → p ∈ edge → at p rest ≡ 0 → get_or now (base + p) 0 ≡ f (get_or list (base + p) 0)
  pub waiting : (p : ℕ) → p ∈ rest → get_or now (base + p) 0 ≡ get_or list (base + p) 0
  pub other : (p : ℕ) → p < 64 → at p edge ≡ 0 → get_or now (base + p) 0 ≡ get_or list (base + p) 0

-- rest is what is left of the set edge
pub record Left (edge rest : ℕ) : Type 0 where
  pub fits : rest < 2 ^ 64
  pub small : (p : ℕ) → p ∈ edge → p < 64
  pub within : (p : ℕ) → p ∈ rest → p ∈ edge

pub left-none : {edge : ℕ} → edge < 2 ^ 64 → Left edge edge
left-none {edge} l = record { fits = l; small = λ p e. at-below 64 edge p l e; within = λ p e. e }

pub left-next : {edge rest : ℕ} → Left edge rest → Left edge (bit_and rest (rest - 1))
unfolding ◌∩◌
left-next {edge} {rest} w = record {
  fits = omega (arith, w.fits, and_le_l rest (rest - 1));
  small = w.small;
  within = λ p e. w.within p (∈-∩⁻ p rest (rest - 1) e).0;
}

module _ {f : ℕ → ℕ} {base edge : ℕ} {list : List ℕ} where
  pub storing-none : Storing f base edge list list edge
  storing-none = record { done = λ p i o. absurd (omega arith); waiting = λ p e. refl; other = λ p l o. refl }

  module _ {now : List ℕ} {rest : ℕ} (w : Storing f base edge list now rest) where
    -- what stands at the lowest element of rest becomes its f
    pub storing-next : Left edge rest → rest ≢ 0 → {now' : List ℕ} (p₀ : ℕ) → p₀ ≡ count_trailing_zeros 64 rest
        → get_or now' (base + p₀) 0 ≡ f (get_or now (base + p₀) 0)
        → ((p : ℕ) → p < 64 → p ≢ p₀ → get_or now' (base + p) 0 ≡ get_or now (base + p) 0)
        → Storing f base edge list now' (bit_and rest (rest - 1))
    unfolding ◌∩◌
    storing-next l some {now'} p₀ is here there = record {
      done = λ p i o. done p i o (ℕ_discrete p p₀);
      waiting = λ p e. there p (l.small p (l.within p (up p e))) (gone p e) ∙ w.waiting p (up p e);
      other = λ p s o. there p s (off p o) ∙ w.other p s o;
    }
      where
        in_rest : p₀ ∈ rest
        in_rest = ap (λ (p : ℕ). at p rest) is ∙ lowest-in 64 rest l.fits some

        up : (p : ℕ) → p ∈ bit_and rest (rest - 1) → p ∈ rest
        up p e = (∈-∩⁻ p rest (rest - 1) e).0

        gone : (p : ℕ) → p ∈ bit_and rest (rest - 1) → p ≢ p₀
        gone p e z = omega (arith, rest-lowest rest l.fits some, ap (λ (y : ℕ). at y (bit_and rest (rest - 1))) (z ∙ is))

        off : (p : ℕ) → at p edge ≡ 0 → p ≢ p₀
        off p o z = omega (arith, l.within p₀ in_rest, ap (λ (y : ℕ). at y edge) z)

        done : (p : ℕ) → p ∈ edge → at p (bit_and rest (rest - 1)) ≡ 0 → Dec (p ≡ p₀) → get_or now' (base + p) 0 ≡ f (get_or list (base + p) 0)
        done p i o (yes e) =
            subst (λ (y : ℕ). get_or now' (base + y) 0 ≡ f (get_or list (base + y) 0)) (sym e) (here ∙ ap f (w.waiting p₀ in_rest))
        done p i o (no n) =
            there p (l.small p i) n ∙ w.done p i (sym (rest-other rest l.fits some p (λ e. n (e ∙ sym is))) ∙ o)

    -- it is stored there alone
    pub storing-set : Left edge rest → rest ≢ 0 → base + 64 ≤ length now → (p₀ i x : ℕ) → p₀ ≡ count_trailing_zeros 64 rest → i ≡ base + p₀
        → x ≡ f (get_or now i 0) → Storing f base edge list (set now i x) (bit_and rest (rest - 1))
    storing-set l some room p₀ i x is place value =
        storing-next l some p₀ is
        (ap (λ (j : ℕ). get_or (set now i x) j 0) (sym place)
        ∙ get_or-set_same now i x 0 (omega (arith, lowest-below 64 rest l.fits some)) ∙ value ∙ ap (λ (j : ℕ). f (get_or now j 0)) place)
        (λ p s n. get_or-set_other now i (base + p) x 0 (λ e. n (omega arith)))

    pub storing-all : rest ≡ 0 → Stored f base edge list now
    storing-all z = record { inside = λ p i. w.done p i (ap (at p) z ∙ at_zero p); outside = w.other }

-- links from the first place on
pub linking-all : {links now : List ℕ} {edge u rest : ℕ} → Storing (λ x. bit_or x u) 0 edge links now rest → rest ≡ 0 → length links ≡ 64
    → length now ≡ 64 → Linking links edge u now
unfolding ◌∪◌
linking-all {links} {now} {edge} {u} w z long long' = record {
  inside = λ p i. ap (linked now) (plain p) ∙ (storing-all w z).inside p i ∙ ap (λ (j : ℕ). bit_or (linked links j) u) (sym (plain p));
  outside = λ p o. outside p o (dec_lt p 64);
}
  where
    plain : (p : ℕ) → p ≡ 0 + p
    plain p = omega arith

    outside : (p : ℕ) → at p edge ≡ 0 → Dec (p < 64) → linked now p ≡ linked links p
    outside p o (yes l) = ap (linked now) (plain p) ∙ w.other p l o ∙ ap (linked links) (sym (plain p))
    outside p o (no n) = List·getD-eq-default now 0 (omega (arith, long')) ∙ sym (List·getD-eq-default links 0 (omega (arith, long)))

-- ---- links and holders at once

pub record Joining (links hold : List ℕ) (edge u : ℕ) (dead made now held : List ℕ) (rest : ℕ) : Type 0 where
  pub left : Left edge rest
  pub links_long : length now ≡ 64
  pub hold_long : length held ≡ 192
  pub linking : Storing (λ x. bit_or x u) 0 edge links now rest
  pub words : (w : ℕ) → w < 3 → Storing (replaced_at dead made w) (64 * w) edge hold held rest

module _ {links hold : List ℕ} {edge u : ℕ} {dead made : List ℕ} where
  pub joining-none : edge < 2 ^ 64 → length links ≡ 64 → length hold ≡ 192 → Joining links hold edge u dead made links hold edge
  joining-none l a b = record {
    left = left-none l;
    links_long = a;
    hold_long = b;
    linking = storing-none;
    words = λ w l. storing-none;
  }

  module _ {now held : List ℕ} {rest : ℕ} (w : Joining links hold edge u dead made now held rest) where
    -- the lowest element of rest, whose three words become those of held'
    pub joining-next : (p : ℕ) → p ≡ count_trailing_zeros 64 rest → rest ≢ 0 → {held' : List ℕ} {n : ℕ}
        → Placed (λ v. 64 * v + p) (λ v. replaced_at dead made v (get_or held (64 * v + p) 0)) held held' n → 3 ≤ n
        → Joining links hold edge u dead made (set now p (bit_or (get_or now p 0) u)) held' (bit_and rest (rest - 1))
    joining-next p is some h every = record {
      left = left-next w.left;
      links_long = length-set now p _ ∙ w.links_long;
      hold_long = h.long ∙ w.hold_long;
      linking = storing-set w.linking w.left some (omega (arith, w.links_long)) p p _ is (omega arith) refl;
      words = λ v l. storing-next (w.words v l) w.left some p is (h.done v (omega arith))
          (λ q s n. h.same (64 * v + q) (λ x k e. n (omega (arith, is, lowest-below 64 rest w.left.fits some))));
    }

    pub joining-all : rest ≡ 0 → edge < 2 ^ 64 → length links ≡ 64 → Rejoined links hold edge u dead made now held
    unfolding ◌∪◌
    joining-all z fits long = record {
      fits = fits;
      links_long = w.links_long;
      hold_long = w.hold_long;
      linking = linking-all w.linking z long w.links_long;
      words = λ v l. storing-all (w.words v l) z;
    }

-- ---- one cluster more

pub record Entering (links hold : List ℕ) (x c : ℕ) (now held : List ℕ) (rest : ℕ) : Type 0 where
  pub left : Left x rest
  pub links_long : length now ≡ 64
  pub hold_long : length held ≡ 192
  pub linking : Storing (λ y. bit_or y x) 0 x links now rest
  pub noting : Storing (λ y. bit_or y (2 ^ (c % 64))) (64 * (c / 64)) x hold held rest
  pub others : (i : ℕ) → ((p : ℕ) → p < 64 → 64 * (c / 64) + p ≢ i) → get_or held i 0 ≡ get_or hold i 0

module _ {links hold : List ℕ} {x c : ℕ} (low : c < 192) where
  pub entering-none : x < 2 ^ 64 → length links ≡ 64 → length hold ≡ 192 → Entering links hold x c links hold x
  entering-none l a b = record {
    left = left-none l;
    links_long = a;
    hold_long = b;
    linking = storing-none;
    noting = storing-none;
    others = λ i far. refl;
  }

  module _ {now held : List ℕ} {rest : ℕ} (w : Entering links hold x c now held rest) where
    pub entering-next : (p i bit : ℕ) → p ≡ count_trailing_zeros 64 rest → i ≡ 64 * (c / 64) + p → bit ≡ 2 ^ (c % 64) → rest ≢ 0
        → Entering links hold x c (set now p (bit_or (get_or now p 0) x)) (set held i (bit_or (get_or held i 0) bit)) (bit_and rest (rest - 1))
    entering-next p i bit is place bit_is some = record {
      left = left-next w.left;
      links_long = length-set now p _ ∙ w.links_long;
      hold_long = length-set held i _ ∙ w.hold_long;
      linking = storing-set w.linking w.left some (omega (arith, w.links_long)) p p _ is (omega arith) refl;
      noting = storing-set w.noting w.left some (omega (arith, w.hold_long, low)) p i _ is place (ap (bit_or (get_or held i 0)) bit_is);
      others = λ j far.
          get_or-set_other held i j _ 0
          (λ e. far p (omega (arith, is, lowest-below 64 rest w.left.fits some)) (omega (arith, place, e))) ∙ w.others j far;
    }

    pub entering-all : rest ≡ 0 → length links ≡ 64 → Entered links hold x c now held
    entering-all z long = record {
      links_long = w.links_long;
      hold_long = w.hold_long;
      linking = linking-all w.linking z long w.links_long;
      noted = storing-all w.noting z;
      others = w.others;
    }

-- ---- the elements linked within u alone

pub record Innerly (links : List ℕ) (edge u rest all : ℕ) : Type 0 where
  pub fits : rest < 2 ^ 64
  pub within : (p : ℕ) → p ∈ rest → p ∈ edge
  pub inner : Inner links edge u all

module _ (links : List ℕ) (edge u : ℕ) where
  pub innerly-none : edge < 2 ^ 64 → Innerly links edge u edge 0
  innerly-none l = record {
    fits = l;
    within = λ p e. e;
    inner = record { inside = λ p e. absurd (omega (arith, at_zero p)); alone = λ p q e f. absurd (omega (arith, at_zero p)) };
  }

  module _ (rest all : ℕ) (w : Innerly links edge u rest all) (some : rest ≢ 0) where
    pub innerly-left : Innerly links edge u (bit_and rest (rest - 1)) all
    unfolding ◌∩◌
    innerly-left = record {
      fits = omega (arith, w.fits, and_le_l rest (rest - 1));
      within = λ p e. w.within p (∈-∩⁻ p rest (rest - 1) e).0;
      inner = w.inner;
    }

    -- the lowest element more, which is linked within u alone
    pub innerly-more : (p₀ : ℕ) → p₀ ≡ count_trailing_zeros 64 rest → bit_or (linked links p₀) u ≡ u
        → Innerly links edge u (bit_and rest (rest - 1)) (bit_or all (bit_xor rest (bit_and rest (rest - 1))))
    unfolding ◌∩◌ ◌∪◌
    innerly-more p₀ is h = record {
      fits = innerly-left.fits;
      within = innerly-left.within;
      inner = record { inside = λ p e. inside p (∈-∪⁻ p all own e); alone = λ p q e f. alone p q f (∈-∪⁻ p all own e) };
    }
      where
        own : ℕ
        own = bit_xor rest (bit_and rest (rest - 1))

        one : (p : ℕ) → p ∈ own → p ≡ p₀
        one p e = by (ℕ_discrete p p₀)
          where
            by : Dec (p ≡ p₀) → p ≡ p₀
            by (yes h) = h
            by (no n) =
                let other = rest-other rest w.fits some p (λ f. n (f ∙ sym is)) in
                absurd (omega (arith, at-beyond p rest (rest - 1), at-∩ p rest (rest - 1), other))

        inside : (p : ℕ) → (p ∈ all) ⊎ (p ∈ own) → p ∈ edge
        inside p (inl e) = w.inner.inside p e
        inside p (inr e) = w.within p (ap (λ (y : ℕ). at y rest) (one p e ∙ is) ∙ lowest-in 64 rest w.fits some)

        alone : (p q : ℕ) → q ∈ linked links p → (p ∈ all) ⊎ (p ∈ own) → q ∈ u
        alone p q f (inl e) = w.inner.alone p q e f
        alone p q f (inr e) =
            sym (ap (at q) h) ∙ ∈-∪ˡ q (linked links p₀) u (sym (ap (λ (y : ℕ). at q (linked links y)) (one p e)) ∙ f)
