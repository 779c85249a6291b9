-- Laws of who is constrained with whom: lists that grow at their end, both ends noted, and what an element carries. Assumes nothing.
use Rattle.std.specs.Prelude.{◌≡◌, ◌≢◌, ◌↔◌, ◌⊎◌, ◌∷◌, ◌++◌, ◌+◌, ◌-◌, ◌^◌, ◌≤◌, ◌<◌}
use Rattle.theory.specs.Prelude.{refl, sym, ap, ◌∙◌, subst, inl, inr, ⊎_elim, Ne-symm, List, [], ℕ, zero, suc}
use Rattle.theory.specs.Prelude.{ℕ_discrete, arith, bit_or, ones, length, take, get_or, set, length-set, replicate}
use Rattle.theory.specs.Prelude.{length-replicate, get_or-set_same, get_or-set_other, get_or-take, length-take-le}
use Rattle.theory.specs.Set.{◌∈◌, ◌∩◌, ◌∪◌, ◌⊑◌, at}
use Rattle.theory.specs.Set.Laws.{at-∪, at-le, at_zero, at_same, at_other, bit, ⊑-size-≡, size-pow, size-add, ∈-∪ˡ}
use Rattle.theory.specs.Set.Laws.{∈-∪ʳ, other, both}
use Rattle.theory.specs.Set.Less.{less_other, less-and, size_less, sub-less}
use Rattle.theory.specs.Constraints.{pair, has, carried, Among, Pairs}
use Rattle.theory.specs.Constraints.Laws.{Has, inside, outside, has-dec, has_in, at_pair, at-end, pair-in, pair_ends, pair_comm}
use Rattle.theory.specs.Over.Laws.{among-take, among-at, pairs-take, below-take}
use Rattle.theory.specs.Near.{Once, Simple, Standing, Near}

-- ---- one more at the end of a list

pub among-append : (x : ℕ) (cs ds : List ℕ) → Among x (cs ++ ds) → Among x cs ⊎ Among x ds
among-append x [] ds h = inr h
among-append x (m ∷ cs) ds (inl e) = inl (inl e)
among-append x (m ∷ cs) ds (inr h) = ⊎_elim (λ k. inl (inr k)) inr (among-append x cs ds h)

pub among-front : (x : ℕ) (cs ds : List ℕ) → Among x cs → Among x (cs ++ ds)
among-front x [] ds h = elim h [ ]
among-front x (m ∷ cs) ds (inl e) = inl e
among-front x (m ∷ cs) ds (inr h) = inr (among-front x cs ds h)

pub among-back : (x : ℕ) (cs ds : List ℕ) → Among x ds → Among x (cs ++ ds)
among-back x [] ds h = h
among-back x (m ∷ cs) ds h = inr (among-back x cs ds h)

-- it was there, or it is the new one
pub among-more : (x m : ℕ) (cs : List ℕ) → Among x (cs ++ m ∷ []) → Among x cs ⊎ (x ≡ m)
among-more x m cs h = ⊎_elim inl (⊎_elim inr (λ z. absurd z)) (among-append x cs (m ∷ []) h)

once-take : (k : ℕ) (cs : List ℕ) → Once cs → Once (take k cs)
once-take zero cs o = tt
once-take (suc k) [] o = tt
once-take (suc k) (m ∷ cs) o = (λ h. o.0 (among-take m k cs h), once-take k cs o.1)

pub simple-take : (k : ℕ) (cs : List ℕ) → Simple cs → Simple (take k cs)
simple-take k cs s = record { pairs = pairs-take k cs s.pairs; below = below-take 64 k cs s.below; once = once-take k cs s.once }

-- ---- constraints that stand in an array

module _ {start : List ℕ} {e : ℕ} (s : Standing start e) where
  pub standing-count : length (take e start) ≡ e
  standing-count = length-take-le e start (omega (arith, s.places, s.few))

  pub standing-item : (c : ℕ) → c < e → get_or start c 0 ≡ get_or (take e start) c 0
  standing-item c h = sym (get_or-take e start c 0 h)

  pub standing-two : (c : ℕ) → c < e → ones (get_or start c 0) ≡ 2
  unfolding Pairs
  standing-two c h =
      ap ones (standing-item c h) ∙ s.simple.pairs (get_or (take e start) c 0) (among-at c (take e start) (omega (arith, standing-count)))

-- ---- a set of two elements

-- it is the pair of any two of its elements
pub pair_is : (m x y : ℕ) → ones m ≡ 2 → x ∈ m → y ∈ m → x ≢ y → m ≡ pair x y
unfolding pair
pair_is m x y two e f n = sym (⊑-size-≡ m (pair x y) (pair-in x y m e f) (omega (arith, two, size-add (2 ^ y) x (at_other x y n), size-pow y)))

-- one of them is x, and the other
pub pair-with : (m x : ℕ) → ones m ≡ 2 → x ∈ m → (y : ℕ) × (y ≢ x) × (m ≡ pair x y)
pair-with m x two e = let o = other m x (omega arith) in (o.0, o.2, pair_is m x o.0 two e o.1 (Ne-symm o.2))

pub pair-other : (x y z : ℕ) → x ≢ z → pair x y ≡ pair x z → y ≡ z
pair-other x y z n e = ⊎_elim (λ (p : z ≡ x). absurd (n (sym p))) (λ (p : z ≡ y). sym p) (at_pair z x y (ap (at z) e ∙ (at-end x z).1))

-- ---- both ends noted

pub near_none : Near [] (replicate 64 0)
near_none = record {
  places = length-replicate {A = ℕ} 64 0;
  says = λ x y l. (λ e. absurd (omega (arith, e, ap (at y) (blank 64 x), at_zero y)), λ z. absurd z);
}
  where
    blank : (n x : ℕ) → ◌≡◌ {A = ℕ} (get_or (replicate n 0) x 0) 0
    blank zero x = refl
    blank (suc n) zero = refl
    blank (suc n) (suc x) = blank n x

module _ (cs near : List ℕ) (n : Near cs near) (a b : ℕ) (la : a < 64) (lb : b < 64) (a≢b : a ≢ b) where
  abbrev mid : List ℕ
  mid = set near a (get_or near a 0 ∪ 2 ^ b)

  abbrev new : List ℕ
  new = set mid b (get_or near b 0 ∪ 2 ^ a)

  at_a : get_or new a 0 ≡ get_or near a 0 ∪ 2 ^ b
  at_a = get_or-set_other mid b a (get_or near b 0 ∪ 2 ^ a) 0 a≢b ∙ get_or-set_same near a (get_or near a 0 ∪ 2 ^ b) 0 (omega (arith, n.places, la))

  at_b : get_or new b 0 ≡ get_or near b 0 ∪ 2 ^ a
  at_b = get_or-set_same mid b (get_or near b 0 ∪ 2 ^ a) 0 (omega (arith, length-set near a (get_or near a 0 ∪ 2 ^ b), n.places, lb))

  at-neither : (x : ℕ) → x ≢ a → x ≢ b → get_or new x 0 ≡ get_or near x 0
  at-neither x p q = get_or-set_other mid b x (get_or near b 0 ∪ 2 ^ a) 0 q ∙ get_or-set_other near a x (get_or near a 0 ∪ 2 ^ b) 0 p

  -- an end of the new constraint: its other end belongs to the set now
  says-end : (x z y : ℕ) → x < 64 → x ≢ z → pair a b ≡ pair x z → get_or new x 0 ≡ get_or near x 0 ∪ 2 ^ z
      → (y ∈ get_or new x 0) ↔ Among (pair x y) (cs ++ pair a b ∷ [])
  says-end x z y l ne e g = (to, back)
    where
      to : y ∈ get_or new x 0 → Among (pair x y) (cs ++ pair a b ∷ [])
      to i = elim (ℕ_discrete y z) [
        | yes p ↦ among-back (pair x y) cs (pair a b ∷ []) (inl (ap (pair x) p ∙ sym e))
        | no p ↦ among-front (pair x y) cs (pair a b ∷ [])
            ((n.says x y l).0 (omega (arith, i, ap (at y) g, at-∪ y (get_or near x 0) (2 ^ z), at_other y z p)))
      ]

      back : Among (pair x y) (cs ++ pair a b ∷ []) → y ∈ get_or new x 0
      back h = ap (at y) g ∙ ⊎_elim
          (λ i. ∈-∪ˡ y (get_or near x 0) (2 ^ z) ((n.says x y l).1 i))
          (λ q. ∈-∪ʳ y (get_or near x 0) (2 ^ z) (ap (λ (w : ℕ). at w (2 ^ z)) (pair-other x y z ne (q ∙ e)) ∙ at_same z))
          (among-more (pair x y) (pair a b) cs h)

  -- another element
  says-neither : (x y : ℕ) → x < 64 → x ≢ a → x ≢ b → (y ∈ get_or new x 0) ↔ Among (pair x y) (cs ++ pair a b ∷ [])
  says-neither x y l p q = (
    λ i. among-front (pair x y) cs (pair a b ∷ []) ((n.says x y l).0 (ap (at y) (sym (at-neither x p q)) ∙ i)),
    λ h. ap (at y) (at-neither x p q) ∙ ⊎_elim
        (n.says x y l).1
        (λ e. absurd (⊎_elim p q (at_pair x a b (ap (at x) (sym e) ∙ (at-end x y).0))))
        (among-more (pair x y) (pair a b) cs h),
  )

  pub near-more : Near (cs ++ pair a b ∷ []) new
  near-more = record {
    places = length-set mid b (get_or near b 0 ∪ 2 ^ a) ∙ length-set near a (get_or near a 0 ∪ 2 ^ b) ∙ n.places;
    says = λ x y l. elim (ℕ_discrete x a) [
      | yes p ↦ subst (λ (z : ℕ). (y ∈ get_or new z 0) ↔ Among (pair z y) (cs ++ pair a b ∷ [])) (sym p) (says-end a b y la a≢b refl at_a)
      | no p ↦ elim (ℕ_discrete x b) [
        | yes q ↦ subst (λ (z : ℕ). (y ∈ get_or new z 0) ↔ Among (pair z y) (cs ++ pair a b ∷ [])) (sym q)
            (says-end b a y lb (Ne-symm a≢b) (pair_comm a b) at_b)
        | no q ↦ says-neither x y l p q
      ]
    ];
  }

  -- the adjacency of the list with one constraint more, as the code computes it: both words are read, then both stored
  pub near-stored : {i j sa sb : ℕ} → i ≡ a → j ≡ b → sa ≡ 2 ^ a → sb ≡ 2 ^ b
      → Near (cs ++ pair a b ∷ []) (set (set near i (bit_or (get_or near i 0) sb)) j (bit_or (get_or near j 0) sa))
  unfolding ◌∪◌
  near-stored ei ej ea eb = rw (ei, ej, ea, eb) near-more

-- ---- what an element has in a set

module _ (x a : ℕ) (e : x ∈ a) where
  -- a constraint between x and an element of ys
  counts-in : (cs : List ℕ) → Pairs cs → Once cs → (ys : ℕ) → ((y : ℕ) → Among (pair x y) cs → y ∈ ys)
      → carried cs a ≤ carried cs (a - 2 ^ x) + ones (ys ∩ a)
  unfolding carried Pairs
  counts-in [] pairs once ys h = omega arith
  counts-in (m ∷ cs) pairs once ys h = go (has-dec m a) (bit (at x m) (at-le x m)) (counts-in cs (λ y i. pairs y (inr i)) once.1)
    where
      go : Has m a → (at x m ≡ 0) ⊎ (x ∈ m)
          → ((zs : ℕ) → ((y : ℕ) → Among (pair x y) cs → y ∈ zs) → carried cs a ≤ carried cs (a - 2 ^ x) + ones (zs ∩ a))
          → has m a + carried cs a ≤ has m (a - 2 ^ x) + carried cs (a - 2 ^ x) + ones (ys ∩ a)
      go (outside k q) d ih = omega (arith, ih ys (λ y i. h y (inr i)))
      go (inside i q) (inl z) ih = omega (arith, has_in m (a - 2 ^ x) (sub-less x a m e i z), ih ys (λ y k. h y (inr k)))
      go (inside i q) (inr z) ih =
          let o = pair-with m x (pairs m (inl refl)) z in
          let y = o.0 in
          let in_ys : y ∈ ys = h y (inl (sym o.2)) in
          let in_a : y ∈ a = (pair_ends x y a (subst (λ (w : ℕ). w ⊑ a) o.2 i)).1 in
          let rest = ih (ys - 2 ^ y)
          (λ w k. less_other y w ys in_ys (λ r. once.0 (subst (λ (v : ℕ). Among v cs) (ap (pair x) r ∙ sym o.2) k)) ∙ h w (inr k)) in
          omega (arith, rest, size_less y (ys ∩ a) (both y ys a in_ys in_a), ap ones (less-and y ys a in_ys in_a))

  -- as many at most as elements that are constrained with x, by the first c constraints or by all
  module _ (cs near : List ℕ) (s : Simple cs) (n : Near cs near) (l : x < 64) where
    pub near-counts-take : (c : ℕ) → carried (take c cs) a ≤ carried (take c cs) (a - 2 ^ x) + ones (get_or near x 0 ∩ a)
    near-counts-take c =
        counts-in (take c cs) (pairs-take c cs s.pairs) (once-take c cs s.once) (get_or near x 0)
        (λ y i. (n.says x y l).1 (among-take (pair x y) c cs i))

    pub near-counts : carried cs a ≤ carried cs (a - 2 ^ x) + ones (get_or near x 0 ∩ a)
    near-counts = counts-in cs s.pairs s.once (get_or near x 0) (λ y i. (n.says x y l).1 i)

-- ---- what a set of two elements carries

carried_none : (cs : List ℕ) → Pairs cs → (x : ℕ) → ones x ≡ 2 → (Among x cs → ⊥) → carried cs x ≡ 0
unfolding carried Pairs
carried_none [] pairs x two n = refl
carried_none (m ∷ cs) pairs x two n = go (has-dec m x) (carried_none cs (λ y h. pairs y (inr h)) x two (λ h. n (inr h)))
  where
    go : Has m x → carried cs x ≡ 0 → has m x + carried cs x ≡ 0
    go (inside i q) r = absurd (n (inl (sym (⊑-size-≡ x m i (omega (arith, two, pairs m (inl refl)))))))
    go (outside k q) r = omega arith

one-most : (cs : List ℕ) → Pairs cs → Once cs → (x : ℕ) → ones x ≡ 2 → carried cs x ≤ 1
unfolding carried Pairs
one-most [] pairs once x two = omega arith
one-most (m ∷ cs) pairs once x two = let r = one-most cs (λ y h. pairs y (inr h)) once.1 x two in elim (has-dec m x) [
  | inside i q ↦ let e : m ≡ x = ⊑-size-≡ x m i (omega (arith, two, pairs m (inl refl))) in
      omega (arith, carried_none cs (λ y h. pairs y (inr h)) x two (λ h. once.0 (subst (λ (z : ℕ). Among z cs) (sym e) h)))
  | outside k q ↦ omega arith
]

-- no more than one
pub carried-one : (cs : List ℕ) → Simple cs → (x : ℕ) → ones x ≡ 2 → carried cs x ≤ 1
carried-one cs s x two = one-most cs s.pairs s.once x two
