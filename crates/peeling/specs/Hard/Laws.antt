-- From the last constraint to the first: what is left without it, and that a constraint which does not lie in what is left closes no over set.
-- Assumes nothing.
use Rattle.std.specs.Prelude.{◌≡◌, ◌≢◌, ◌∷◌, ◌++◌, ◌-◌, ◌^◌, ◌≤◌, ◌<◌}
use Rattle.theory.specs.Prelude.{refl, sym, ap, ap₂, ◌∙◌, subst, inl, inr, List, [], ℕ, zero, suc, sub-zero}
use Rattle.theory.specs.Prelude.{ℕ_discrete, dec_lt, le_refl, arith, bit_and, ones, count_trailing_zeros, length, take, get_or, set, length-set, replicate}
use Rattle.theory.specs.Prelude.{take-suc, take-take, take_all, get_or-set_same, get_or-set_other}
use Rattle.theory.specs.Set.{◌∈◌, ◌∩◌, ◌⊑◌, at}
use Rattle.theory.specs.Set.Laws.{at-∩, at-le, bit, ⊑⇒size≤, ⊑_trans, ∩≡⇒⊑, ⊑⇒∩≡, size-zero, size_none, some}
use Rattle.theory.specs.Set.Less.{at-below, at_room, less_other, less-sub, size_less, trailing_at}
use Rattle.theory.specs.Constraints.{pair, has, Among, Below, Pairs, NotOver}
use Rattle.theory.specs.Constraints.Laws.{inside, outside, has-dec, pair_comm, at-end}
use Rattle.theory.specs.Over.Laws.{among-at, carried-next}
use Rattle.theory.specs.Near.{Once, Simple, Standing, Near}
use Rattle.theory.specs.Near.Laws.{simple-take, among-front, among-back, pair_is, pair-with, near_none, near-more, standing-count}
use Rattle.peeling.specs.Core.{Light, Peeled, whole, less}
use Rattle.peeling.specs.Core.Neighbours.{light-rest}
use Rattle.peeling.specs.Core.Peeling.{peeled-small, core-peeled}
use Rattle.peeling.specs.Hard.{Harmless, Noted, hard, easy, Shown, Linked, Left, Marks}

pub two_pos : (m : ℕ) → ones m ≡ 2 → 0 < m
two_pos zero two = absurd (omega (arith, size-zero))
two_pos (suc m) two = omega arith

-- ---- fewer neighbours

fewer : (m k u : ℕ) → ((y : ℕ) → y ∈ u → y ∈ m → y ∈ k) → ones (m ∩ u) ≤ ones (k ∩ u)
fewer m k u h = ⊑⇒size≤ (k ∩ u) (m ∩ u) (record {
  le = λ y. elim (bit (at y (m ∩ u)) (at-le y (m ∩ u))) [
    | inl z ↦ omega arith
    | inr i ↦
        let in-m : y ∈ m = omega (arith, at-∩ y m u, at-le y m) in
        let in-u : y ∈ u = omega (arith, at-∩ y m u, at-le y u) in
        omega (arith, at-∩ y k u, h y in-u in-m)
  ];
})

-- what was taken away can be taken away still
peeled-fewer : (near new : List ℕ) → ((x y : ℕ) → x < 64 → y ∈ get_or new x 0 → y ∈ get_or near x 0) → {u : ℕ} → Peeled near u → Peeled new u
peeled-fewer near new h whole = whole
peeled-fewer near new h (less {u = v} x p q two) =
    less x (peeled-fewer near new h p) q
    (omega (arith, two, fewer (get_or new x 0) (get_or near x 0) v (λ y i. h x y (at-below 64 x v (peeled-small v p) q))))

shown-part : {real near : List ℕ} {u v : ℕ} → v ⊑ u → Shown real near u → Shown real near v
shown-part {u = u} s h = record {
  shows = λ x y i j. h.shows x y (omega (arith, s.le x, at-le x u)) (omega (arith, s.le y, at-le y u));
}

-- one more element is taken away
shown-next : {real near : List ℕ} {u : ℕ} (x : ℕ) → Shown real near u → Peeled real u → x ∈ u → ones (get_or near x 0 ∩ u) ≤ 2
    → Peeled real (u - 2 ^ x) × Shown real near (u - 2 ^ x)
shown-next {real} {near} {u} x h p i two = (
  less x p i (omega (arith, two, fewer (get_or real x 0) (get_or near x 0) u (λ y j. h.shows x y i j))),
  shown-part (less-sub x u i) h,
)

-- light elements are taken away all at once
pub shown-less : {real near : List ℕ} (k u todo : ℕ) → ones todo ≡ k → Light near u todo → Peeled real u × Shown real near u
    → Peeled real (u - todo) × Shown real near (u - todo)
shown-less zero u todo count t p = rw (size_none todo count, sub-zero u) p
shown-less {real} {near} (suc k) u todo count t p =
    let e = some todo (omega arith) in
    let x = e.0 in
    let i = e.1 in
    let g = t.light x i in
    let same : u - 2 ^ x - (todo - 2 ^ x) ≡ u - todo = omega (arith, at_room x todo i) in
    subst (λ (v : ℕ). Peeled real v × Shown real near v) same
    (shown-less k (u - 2 ^ x) (todo - 2 ^ x) (omega (arith, size_less x todo i)) (light-rest near u todo x t g.0 i) (shown-next x p.1 p.0 g.0 g.1))

-- ---- one constraint less

module _ (cs : List ℕ) (simple : Simple cs) where
  -- who is constrained with whom by the first c
  nears : (c : ℕ) → c ≤ length cs → (near : List ℕ) × Near (take c cs) near
  unfolding Pairs Below
  nears zero h = (replicate 64 0, near_none)
  nears (suc c) h =
      let m = get_or cs c 0 in
      let among = among-at c cs (omega arith) in
      let small = simple.below m among in
      let a = count_trailing_zeros 64 m in
      let two = simple.pairs m among in
      let i : a ∈ m = trailing_at 64 m (two_pos m two) small in
      let o = pair-with m a two i in
      let n = nears c (omega arith) in
      let j : o.0 ∈ m = ap (at o.0) o.2 ∙ (at-end a o.0).1 in
      grown c (omega arith) o.2
      (near-more (take c cs) n.0 n.1 a o.0 (at-below 64 a m small i) (at-below 64 o.0 m small j) (λ e. o.1 (sym e)))
    where
      grown : (c : ℕ) → c < length cs → {p : ℕ} {near : List ℕ} → get_or cs c 0 ≡ p → Near (take c cs ++ p ∷ []) near
          → (near : List ℕ) × Near (take (suc c) cs) near
      grown c l {p} {near} e w = (near, rw (take-suc cs c 0 l, e) w)

  among_next : (x c : ℕ) → c < length cs → Among x (take c cs) → Among x (take (suc c) cs)
  among_next x c l h = subst (Among x) (sym (take-suc cs c 0 l)) (among-front x (take c cs) (get_or cs c 0 ∷ []) h)

  among-last : (c : ℕ) → c < length cs → Among (get_or cs c 0) (take (suc c) cs)
  among-last c l = subst (Among (get_or cs c 0)) (sym (take-suc cs c 0 l)) (among-back (get_or cs c 0) (take c cs) (get_or cs c 0 ∷ []) (inl refl))

  module _ (c : ℕ) (lc : c < length cs) {near : List ℕ} {u : ℕ} (w : Left cs (suc c) near u) where
    back : {new : List ℕ} → length new ≡ 64
        → ((x y : ℕ) → x ∈ u → y ∈ u → Among (pair x y) (take c cs) → y ∈ get_or near x 0 → y ∈ get_or new x 0) → Left cs c new u
    back {new} places keeps =
        let n = nears c (omega arith) in
        let more : (x y : ℕ) → x < 64 → y ∈ get_or n.0 x 0 → y ∈ get_or w.real x 0 =
        λ x y l i. (w.is_near.says x y l).1 (among_next (pair x y) c lc ((n.1.says x y l).0 i)) in
        let low : (x : ℕ) → x ∈ u → x < 64 = λ x i. at-below 64 x u (peeled-small u w.peeled) i in
        record {
          real = n.0;
          is_near = n.1;
          peeled = peeled-fewer w.real n.0 more w.peeled;
          shown = record {
            shows = λ x y i j k.
                keeps x y i j ((n.1.says x y (low x i)).0 k) (w.shown.shows x y i j (more x y (low x i) k));
          };
          places = places;
        }

    -- a constraint that does not lie in what is left
    pub left-skip : Left cs c near u
    left-skip = back w.places (λ x y i j k h. h)

    -- the ends of one that does are neighbours
    pub left-linked : get_or cs c 0 ⊑ u → Linked near (get_or cs c 0)
    unfolding Pairs
    left-linked s = record {
      linked = λ x y i j n.
          let m = get_or cs c 0 in
          let ix : x ∈ u = omega (arith, s.le x, at-le x u) in
          w.shown.shows x y ix (omega (arith, s.le y, at-le y u))
          ((w.is_near.says x y (at-below 64 x u (peeled-small u w.peeled) ix)).1
          (subst (λ (z : ℕ). Among z (take (suc c) cs)) (pair_is m x y (simple.pairs m (among-at c cs lc)) i j n) (among-last c lc)));
    }

  -- a constraint that does not lie in what is left closes no over set
  pub left-harmless : {c : ℕ} {near : List ℕ} {u : ℕ} → Left cs c near u → (k : ℕ) → k < c → k < length cs → (get_or cs k 0 ⊑ u → ⊥) → Harmless cs k
  unfolding NotOver
  left-harmless {c} {near} {u} w k h l out = record {
    fine = λ before.
        let same : take (suc k) (take c cs) ≡ take (suc k) cs = take-take (suc k) c cs h in
        subst NotOver same
        ((core-peeled (take c cs) w.real (simple-take c cs simple) w.is_near u w.peeled).fine (suc k)
        (λ a i two. rw same (omega (arith, carried-next cs k a l, none a i, before a two))));
  }
    where
      none : (a : ℕ) → a ⊑ u → has (get_or cs k 0) a ≡ 0
      none a i = elim (has-dec (get_or cs k 0) a) [ inside j q ↦ absurd (out (⊑_trans j i)) | outside n q ↦ q ]

-- ---- the constraint of a pair is taken out

not-again : (c : ℕ) (cs : List ℕ) → Once cs → c < length cs → Among (get_or cs c 0) (take c cs) → ⊥
not-again zero cs o l h = h
not-again (suc c) [] o l h = absurd (omega arith)
not-again (suc c) (m ∷ cs) o l (inl e) = o.0 (subst (λ (z : ℕ). Among z cs) e (among-at c cs (omega arith)))
not-again (suc c) (m ∷ cs) o l (inr h) = not-again c cs o.1 (omega arith) h

module _ (near : List ℕ) (places : length near ≡ 64) (a b : ℕ) (la : a < 64) (lb : b < 64) (n : a ≢ b) where
  abbrev mid : List ℕ
  mid = set near a (get_or near a 0 - 2 ^ b)

  abbrev new : List ℕ
  new = set mid b (get_or mid b 0 - 2 ^ a)

  pub mid-b : get_or mid b 0 ≡ get_or near b 0
  mid-b = get_or-set_other near a b (get_or near a 0 - 2 ^ b) 0 (λ e. n (sym e))

  at_a : get_or new a 0 ≡ get_or near a 0 - 2 ^ b
  at_a = get_or-set_other mid b a (get_or mid b 0 - 2 ^ a) 0 n ∙ get_or-set_same near a (get_or near a 0 - 2 ^ b) 0 (omega (arith, places, la))

  at_b : get_or new b 0 ≡ get_or near b 0 - 2 ^ a
  at_b =
      get_or-set_same mid b (get_or mid b 0 - 2 ^ a) 0 (omega (arith, length-set near a (get_or near a 0 - 2 ^ b), places, lb))
      ∙ ap (λ (z : ℕ). z - 2 ^ a) mid-b

  at-neither : (x : ℕ) → x ≢ a → x ≢ b → get_or new x 0 ≡ get_or near x 0
  at-neither x p q = get_or-set_other mid b x (get_or mid b 0 - 2 ^ a) 0 q ∙ get_or-set_other near a x (get_or near a 0 - 2 ^ b) 0 p

  -- y stays a neighbour of x, unless they are a and b
  kept : Linked near (pair a b) → (x y : ℕ) → pair x y ≢ pair a b → y ∈ get_or near x 0 → y ∈ get_or new x 0
  kept link x y other i = elim (ℕ_discrete x a) [
    | yes p ↦
        ap (λ (z : ℕ). at y (get_or new z 0)) p ∙ ap (at y) at_a
        ∙ less_other b y (get_or near a 0) (link.linked a b (at-end a b).0 (at-end a b).1 n) (λ q. other (ap₂ pair p q))
        ∙ ap (λ (z : ℕ). at y (get_or near z 0)) (sym p) ∙ i
    | no p ↦ elim (ℕ_discrete x b) [
      | yes q ↦
          ap (λ (z : ℕ). at y (get_or new z 0)) q ∙ ap (at y) at_b
          ∙ less_other a y (get_or near b 0) (link.linked b a (at-end a b).1 (at-end a b).0 (λ e. n (sym e)))
          (λ r. other (ap₂ pair q r ∙ pair_comm b a))
          ∙ ap (λ (z : ℕ). at y (get_or near z 0)) (sym q) ∙ i
      | no q ↦ ap (at y) (at-neither x p q) ∙ i
    ]
  ]

  pub left-drop : (cs : List ℕ) → Simple cs → (c : ℕ) → c < length cs → get_or cs c 0 ≡ pair a b → {u : ℕ} → Linked near (pair a b)
      → Left cs (suc c) near u → Left cs c new u
  left-drop cs simple c lc is link w =
      back cs simple c lc w (length-set mid b (get_or mid b 0 - 2 ^ a) ∙ length-set near a (get_or near a 0 - 2 ^ b) ∙ places)
      (λ x y i j k h. kept link x y (λ e. not-again c cs simple.once lc (subst (λ (z : ℕ). Among z (take c cs)) (e ∙ sym is) k)) h)

-- the constraint of m removed as the code removes it, a and b being the elements of m
module _ {near : List ℕ} {m a b i sb : ℕ} (two : ones m ≡ 2) (link : Linked near m) (fa : (a < 64) × (a ∈ m))
    (fb : (b < 64) × (b ∈ m) × (a ≢ b)) (ei : i ≡ a) (eb : sb ≡ 2 ^ b) where
  is-pair : m ≡ pair a b
  is-pair = pair_is m a b two fa.1 fb.1 fb.2

  pub drop-first : sb ≤ get_or near i 0
  drop-first = rw (eb, ei) (at_room b (get_or near a 0) (link.linked a b fa.1 fb.1 fb.2))

  module _ {j sa : ℕ} (ej : j ≡ b) (ea : sa ≡ 2 ^ a) where
    pub drop-second : sa ≤ get_or (set near i (get_or near i 0 - sb)) j 0
    drop-second =
        rw (ea, eb, ei, ej, get_or-set_other near a b (get_or near a 0 - 2 ^ b) 0 (λ e. fb.2 (sym e)))
        (at_room a (get_or near b 0) (link.linked b a fb.1 fa.1 (λ e. fb.2 (sym e))))

    pub left-dropped : (cs : List ℕ) → Simple cs → (c : ℕ) → c < length cs → get_or cs c 0 ≡ m → {u : ℕ} → Left cs (suc c) near u
        → Left cs c (set (set near i (get_or near i 0 - sb)) j (get_or (set near i (get_or near i 0 - sb)) j 0 - sa)) u
    left-dropped cs simple c lc is w =
        rw (ea, eb, ei, ej)
        (left-drop near w.places a b fa.0 fb.0 fb.2 cs simple c lc (is ∙ is-pair) (subst (Linked near) is-pair link) w)

pub left-shrunk : {cs : List ℕ} {c : ℕ} {near : List ℕ} {u v : ℕ} (w : Left cs c near u)
    → ((real : List ℕ) → Shown real near u → Peeled real u → Peeled real v × Shown real near v) → Left cs c near v
left-shrunk w f = let o = f w.real w.shown w.peeled in
    record { real = w.real; is_near = w.is_near; peeled = o.0; shown = o.1; places = w.places }

pub left-start : {cs near : List ℕ} {e u : ℕ} → length cs ≡ e → Near cs near → Peeled near u → Left cs e near u
left-start {cs} {near} {e} {u} count is_near p = record {
  real = near;
  is_near = rw (take_all e cs (omega arith)) is_near;
  peeled = p;
  shown = record { shows = λ x y i j k. k };
  places = is_near.places;
}

-- ---- the constraint as the code has it, r, and a set w

pub told_in : {m r w : ℕ} → r ≡ m → bit_and r w ≡ r → m ⊑ w
unfolding ◌∩◌
told_in {m} {r} {w} q t = subst (λ (z : ℕ). z ⊑ w) q (∩≡⇒⊑ r w t)

pub told-out : {m r w : ℕ} → r ≡ m → (bit_and r w ≡ r → ⊥) → m ⊑ w → ⊥
unfolding ◌∩◌
told-out {m} {r} {w} q t h = t (subst (λ (z : ℕ). bit_and z w ≡ z) (sym q) (⊑⇒∩≡ m w h))

-- a constraint does not lie in an empty set
pub two_out : {cs : List ℕ} {u : ℕ} → Simple cs → (k : ℕ) → k < length cs → u ≡ 0 → get_or cs k 0 ⊑ u → ⊥
unfolding Pairs
two_out {cs} {u} simple k l z s = omega (arith, simple.pairs (get_or cs k 0) (among-at k cs l), ⊑⇒size≤ u (get_or cs k 0) s, ap ones z, size-zero)

pub in_list : {start : List ℕ} {e c : ℕ} → Standing start e → c < e → c < length (take e start)
in_list s h = omega (arith, standing-count s)

-- ---- what is noted

pub marks-start : {cs old : List ℕ} {e : ℕ} → length old ≡ 200 → length cs ≡ e → Marks cs e old old
marks-start places count = record { places = places; before = λ k l. refl; noted = λ k h l. absurd (omega arith) }

module _ {cs : List ℕ} {c : ℕ} {old new : List ℕ} where
  pub marks-easy : Marks cs (suc c) old new → Harmless cs c → Marks cs c old new
  marks-easy w h = record {
    places = w.places;
    before = λ k l. w.before k (omega arith);
    noted = λ k l m. elim (ℕ_discrete k c) [
      | yes e ↦ subst (λ (i : ℕ). Noted cs i (get_or old i 0) (get_or new i 0)) (sym e)
          (subst (Noted cs c (get_or old c 0)) (sym (w.before c (le_refl (suc c)))) (easy h))
      | no n ↦ w.noted k (omega arith) m
    ];
  }

  pub marks-hard : Marks cs (suc c) old new → c < 200 → Marks cs c old (set new c 4)
  marks-hard w l = record {
    places = length-set new c 4 ∙ w.places;
    before = λ k i. get_or-set_other new c k 4 0 (λ e. omega arith) ∙ w.before k (omega arith);
    noted = λ k i m. elim (ℕ_discrete k c) [
      | yes e ↦ subst (λ (i : ℕ). Noted cs i (get_or old i 0) (get_or (set new c 4) i 0)) (sym e)
          (subst (Noted cs c (get_or old c 0)) (sym (get_or-set_same new c 4 0 (omega (arith, w.places)))) hard)
      | no n ↦ subst (Noted cs k (get_or old k 0)) (sym (get_or-set_other new c k 4 0 n)) (w.noted k (omega arith) m)
    ];
  }

  -- the others close none
  pub marks-rest : Marks cs c old new → ((k : ℕ) → k < c → Harmless cs k) → Marks cs 0 old new
  marks-rest w h = record {
    places = w.places;
    before = λ k l. absurd (omega arith);
    noted = λ k l m. elim (dec_lt k c) [
      | yes i ↦ subst (Noted cs k (get_or old k 0)) (sym (w.before k i)) (easy (h k i))
      | no n ↦ w.noted k (omega arith) m
    ];
  }
