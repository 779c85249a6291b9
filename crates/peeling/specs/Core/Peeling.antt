-- Elements with at most two constraints are taken away one by one: what is left is a core. A least over set has three constraints at each element, so
-- none loses any. Assumes nothing.
use Rattle.std.specs.Prelude.{◌≡◌, ◌⊎◌, ◌+◌, ◌*◌, ◌-◌, ◌^◌, ◌≤◌, ◌<◌}
use Rattle.theory.specs.Prelude.{ap, subst, inl, inr, List, ℕ, dec_le, arith, bit_and, ones, length}
use Rattle.theory.specs.Prelude.{refl, ◌∙◌, zero, suc, sub-zero, and_le_r, take, get_or, take-length, pow_pos}
use Rattle.theory.specs.Set.{◌∈◌, ◌∩◌, ◌∪◌, ◌⊑◌, at, full}
use Rattle.theory.specs.Set.Laws.{at-∩, at-le, bit, size-zero, ⊑⇒size≤, ⊑_trans, a∩b⊑a, a∩b⊑b, ∩-comm, out, below-full}
use Rattle.theory.specs.Set.Laws.{at_zero, size_none, some, ⊑⇒∩≡}
use Rattle.theory.specs.Set.Less.{at-below, at_room, less-same, less-in, less-sub, less-and, less-out, size_less, sub-less}
use Rattle.theory.specs.Constraints.{pair, Below, carried, NotOver, NotOverIn}
use Rattle.theory.specs.Constraints.Laws.{carried-cut, not-over-in, at-end, pair_comm}
use Rattle.theory.specs.Over.Laws.{pairs-take, below-take}
use Rattle.theory.specs.Near.{Simple, Near}
use Rattle.theory.specs.Near.Laws.{simple-take, near-counts-take, near-counts, carried-one}
use Rattle.peeling.specs.Core.{Few, Loose, Core, Dense, Largest, Beyond, Light, Heavy, Mutual, Peeled, whole, less}
use Rattle.peeling.specs.Core.Neighbours.{full_at, near_sub, light-rest, heavy-but, heavy-with, heavy-less}

-- ---- those without a neighbour are gone at the start

full-less : (k : ℕ) → full (suc k) - 2 ^ k ≡ full k
unfolding full
full-less k = omega (arith, pow_pos k)

peeled-from : (near : List ℕ) (d n : ℕ) → d + n ≡ 64 → Beyond near n → Peeled near (full n)
peeled-from near zero n e b = let same : 64 ≡ n = omega arith in subst (λ (k : ℕ). Peeled near (full k)) same whole
peeled-from near (suc d) n e b =
    let around = get_or near n 0 ∩ full (suc n) in
    let none : ones around ≤ 2 =
    omega (arith, ⊑⇒size≤ (get_or near n 0) around (a∩b⊑a (get_or near n 0) (full (suc n))), ap ones (b.none n (omega arith) (omega arith)), size-zero) in
    subst (Peeled near) (full-less n)
    (less n (peeled-from near d (suc n) (omega arith) (record { none = λ x l m. b.none x (omega arith) m })) (full_at (suc n) n (omega arith)) none)

pub peeled-start : (near : List ℕ) (n : ℕ) → n ≤ 64 → Beyond near n → Peeled near (full n)
peeled-start near n most b = peeled-from near (64 - n) n (omega arith) b

-- ---- one element taken away

pub peeled-small : {near : List ℕ} (u : ℕ) → Peeled near u → u < 2 ^ 64
unfolding full
peeled-small u whole = omega (arith, pow_pos 64)
peeled-small u (less {u = v} x p q h) = omega (arith, peeled-small v p)

-- none is left to be taken away
pub heavy-none : {near : List ℕ} {u todo : ℕ} → todo ≡ 0 → Heavy near u u todo → Dense near u
heavy-none z h = record { three = λ x e. h.heavy x e (ap (at x) z ∙ at_zero x) }

-- ---- light elements taken away all at once

pub light-room : {near : List ℕ} {u todo : ℕ} → Light near u todo → todo ≤ u
unfolding ◌∩◌
light-room {near} {u} {todo} t = omega (
  arith,
  and_le_r todo u,
  ⊑⇒∩≡ todo u (record { le = λ x. elim (bit (at x todo) (at-le x todo)) [ inl z ↦ omega arith | inr e ↦ omega (arith, (t.light x e).0) ] }),
)

-- around has their neighbours
module _ (near : List ℕ) (both_ways : Mutual near) (around : ℕ) where
  -- one after another
  one_by_one : (k u todo : ℕ) → ones todo ≡ k → u < 2 ^ 64 → Light near u todo → ((x : ℕ) → x ∈ todo → get_or near x 0 ⊑ around)
      → Heavy near u u (todo ∪ around) → Heavy near (u - todo) (u - todo) (0 ∪ around)
  one_by_one zero u todo count l t f h = let z = size_none todo count in rw (z, sub-zero u) (rw z at h)
  one_by_one (suc k) u todo count l t f h =
      let e = some todo (omega arith) in
      let x = e.0 in
      let i = e.1 in
      let g = (t.light x i).0 in
      let same : u - 2 ^ x - (todo - 2 ^ x) ≡ u - todo = omega (arith, at_room x todo i) in
      subst (λ (v : ℕ). Heavy near v v (0 ∪ around)) same
      (one_by_one k (u - 2 ^ x) (todo - 2 ^ x) (omega (arith, size_less x todo i)) (omega arith) (light-rest near u todo x t g i)
      (λ y j. f y (less-in x y todo i j).0) (heavy-less near u todo around x l both_ways g i (f x i) h))

  -- and then those of around are tried
  pub round : {u todo r : ℕ} → u < 2 ^ 64 → Light near u todo → ((x : ℕ) → x ∈ todo → get_or near x 0 ⊑ around) → Heavy near u u todo
      → Heavy near (u - todo) (bit_and around (u - todo)) r → Heavy near (u - todo) (u - todo) r
  unfolding ◌∩◌ ◌∪◌
  round {u} {todo} {r} l t f h g =
      heavy-with near (u - todo) 0 around r (one_by_one (ones todo) u todo refl l t f (heavy-but near u todo around h)) g

-- ---- the core

module _ (cs near : List ℕ) (simple : Simple cs) (is_near : Near cs near) where
  -- an element with two neighbours at most in v has two constraints at most in each set within v
  few-part : (c v x : ℕ) → Peeled near v → x ∈ v → ones (get_or near x 0 ∩ v) ≤ 2 → Few (take c cs) v x 2
  few-part c v x p q two = record {
    few = λ a i e.
        omega (arith, near-counts-take x a e cs near simple is_near (at-below 64 x v (peeled-small v p) q) c, near_sub (get_or near x 0) a v i);
  }

  -- what a set loses
  peeled-cut : (u : ℕ) → Peeled near u → (c a : ℕ) → carried (take c cs) a + 2 * ones (a ∩ u) ≤ carried (take c cs) (a ∩ u) + 2 * ones a
  peeled-cut u whole c a =
      omega (arith, carried-cut 64 (take c cs) (below-take 64 c cs simple.below) a, ⊑⇒size≤ a (a ∩ full 64) (a∩b⊑a a (full 64)))
  peeled-cut u (less {u = v} x p q two) c a =
      let ih = peeled-cut v p c a in
      elim (bit (at x a) (at-le x a)) [
        | inl z ↦ rw (∩-comm a (v - 2 ^ x), less-out x v a q z, ∩-comm v a) ih
        | inr z ↦
            let there : x ∈ a ∩ v = omega (arith, at-∩ x a v) in
            rw (∩-comm a (v - 2 ^ x), less-and x v a q z, ∩-comm v a)
            (omega (arith, ih, size_less x (a ∩ v) there, (few-part c v x p q two).few (a ∩ v) (a∩b⊑b a v) there))
      ]

  -- the sets within what is left tell whether the list is over
  peeled-fine : (u : ℕ) → Peeled near u → (c : ℕ) → ((a : ℕ) → a ⊑ u → 2 ≤ ones a → carried (take c cs) a + 3 ≤ 2 * ones a) → NotOver (take c cs)
  unfolding NotOverIn
  peeled-fine u whole c f =
      not-over-in 64 (take c cs) (pairs-take c cs simple.pairs) (below-take 64 c cs simple.below) (λ a la b. f a (below-full 64 a la) b)
  peeled-fine u (less {u = v} x p q two) c f = peeled-fine v p c (λ a i b. go a i b (bit (at x a) (at-le x a)))
    where
      go : (a : ℕ) → a ⊑ v → 2 ≤ ones a → (at x a ≡ 0) ⊎ (x ∈ a) → carried (take c cs) a + 3 ≤ 2 * ones a
      go a i b (inl z) = f a (sub-less x v a q i z) b
      go a i b (inr z) =
          let within : a - 2 ^ x ⊑ v - 2 ^ x = sub-less x v (a - 2 ^ x) q (⊑_trans (less-sub x a z) i) (less-same x a z) in
          elim (dec_le 3 (ones a)) [
            | yes k ↦ let s = size_less x a z in omega (arith, f (a - 2 ^ x) within (omega arith), (few-part c v x p q two).few a i z)
            | no k ↦ omega (arith, carried-one (take c cs) (simple-take c cs simple) a (omega arith))
          ]

  -- a set that does not lie in what is left has an element with at most two constraints in it
  peeled-loose : (u : ℕ) → Peeled near u → (a : ℕ) → a < 2 ^ 64 → (a ⊑ u) ⊎ ((x : ℕ) × (x ∈ a) × (carried cs a ≤ carried cs (a - 2 ^ x) + 2))
  peeled-loose u whole a h = inl (below-full 64 a h)
  peeled-loose u (less {u = v} x p q two) a h = go (peeled-loose v p a h) (bit (at x a) (at-le x a))
    where
      go : (a ⊑ v) ⊎ ((y : ℕ) × (y ∈ a) × (carried cs a ≤ carried cs (a - 2 ^ y) + 2)) → (at x a ≡ 0) ⊎ (x ∈ a)
          → (a ⊑ v - 2 ^ x) ⊎ ((y : ℕ) × (y ∈ a) × (carried cs a ≤ carried cs (a - 2 ^ y) + 2))
      go (inr r) i = inr r
      go (inl s) (inl z) = inl (sub-less x v a q s z)
      go (inl s) (inr z) = inr (
        x,
        z,
        omega (arith, near-counts x a z cs near simple is_near (at-below 64 x v (peeled-small v p) q), near_sub (get_or near x 0) a v s, two),
      )

  all-loose : (u : ℕ) → Peeled near u → u ≡ 0 → Loose cs
  all-loose u p z =
      record { least = λ a h some. elim (peeled-loose u p a h) [ inl s ↦ absurd (omega (arith, ⊑⇒size≤ u a s, ap ones z, size-zero)) | inr r ↦ r ] }

  pub core-peeled : (u : ℕ) → Peeled near u → Core cs u
  core-peeled u p = record { small = peeled-small u p; fine = peeled-fine u p; cut = peeled-cut u p; loose = all-loose u p }

  -- the largest set with three neighbours at each element
  peeled-all : (u : ℕ) → Peeled near u → (a : ℕ) → a < 2 ^ 64 → Dense near a → a ⊑ u
  peeled-all u whole a l d = below-full 64 a l
  peeled-all u (less {u = v} x p q two) a l d =
      let s = peeled-all v p a l d in
      sub-less x v a q s (out x a (λ e. omega (arith, d.three x e, near_sub (get_or near x 0) a v s, two)))

  pub peeled-largest : (u : ℕ) → Peeled near u → (Mutual near → Dense near u) → Largest near u
  unfolding Below
  peeled-largest u p d = record {
    dense = d (record {
      below = λ x y l e. let i = (is_near.says x y l).0 e in at-below 64 y (pair x y) (simple.below (pair x y) i) (at-end x y).1;
      back = λ x y lx ly e. (is_near.says y x ly).1 (rw (pair_comm y x) ((is_near.says x y lx).0 e));
    });
    largest = peeled-all u p;
  }

-- an empty core: the list is not over
pub core-none : (cs : List ℕ) → Core cs 0 → NotOver cs
core-none cs k = subst NotOver (take-length cs) (k.fine (length cs) (λ a h b. absurd (omega (arith, ⊑⇒size≤ 0 a h, size-zero))))
