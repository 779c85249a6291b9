-- The words of what clusters rest on, merge after merge. Assumes nothing.
use Rattle.std.specs.Prelude.{◌≡◌, ◌≢◌, ◌∷◌, ◌+◌, ◌-◌, ◌*◌, ◌/◌, ◌%◌, ◌^◌, ◌≤◌, ◌<◌}
use Rattle.theory.specs.Prelude.{refl, sym, ap, ap₂, ◌∙◌, subst, List, [], map, ℕ, zero, suc}
use Rattle.theory.specs.Prelude.{arith, add-one, dec_lt, pow-lt, pow-add, length, get_or, set, take, length-set, length-take}
use Rattle.theory.specs.Prelude.{length-map, List·getD-map, get_or-set_same, get_or-set_other, take-suc, take_all}
use Rattle.std.proofs.lemmas.Nat.{or_shr, or_mod, shl-shr}
use Rattle.std.proofs.Math.Pow.{recompose}
use Rattle.theory.specs.Block.{block}
use Rattle.theory.specs.Block.Laws.{get_or-block}
use Rattle.theory.specs.Set.{◌∪◌}
use Rattle.theory.specs.Merge.{Merge, merge, slot, union, OpenAt, put, Valid, final}
use Rattle.theory.specs.Merge.Numbered.{alive-lt}
use Rattle.theory.specs.Plan.{ascending}
use Rattle.theory.specs.Plan.Order.{open-ascending, put-ascending}
use Rattle.merges.specs.Run.{places, flat}
use Rattle.merges.specs.Run.Laws.{final-snoc, length-final}
use Rattle.theory.specs.Rests.{alone_from, rests_on}
use Rattle.theory.specs.Rests.Laws.{length-alone, slot-alone, Stands, new, gone, kept, stands}
use Rattle.rests.specs.Words.{word, Listed, Alone, Told}

-- ---- words of a union

pub word-∪ : (w x y : ℕ) → word w (x ∪ y) ≡ word w x ∪ word w y
unfolding word ◌∪◌
word-∪ w x y = ap (λ (z : ℕ). z % 2 ^ 64) (or_shr x y (64 * w)) ∙ or_mod (x / 2 ^ (64 * w)) (y / 2 ^ (64 * w)) 64

-- two words are the set
pub words_are : (r : ℕ) → r < 2 ^ 128 → word 1 r * 2 ^ 64 + word 0 r ≡ r
unfolding word
words_are r h =
    ap (λ (x : ℕ). r / 2 ^ 64 % 2 ^ 64 * 2 ^ 64 + x % 2 ^ 64) {x = r / 1} {y = r} (omega arith) ∙ recompose 64 64 h

-- ---- the words of one number

low-low : (n : ℕ) → n < 64 → 2 ^ n ≡ word 0 (2 ^ n)
unfolding word
low-low n h = omega (arith, pow-lt {i = n} {j = 64} h)

-- 2^n from 64 on
split-pow : (n : ℕ) → 64 ≤ n → 2 ^ n ≡ 2 ^ (n - 64) * 2 ^ 64
split-pow n h = ap (λ (x : ℕ). 2 ^ x) {x = n} {y = (n - 64) + 64} (omega arith) ∙ pow-add 2 (n - 64) 64

low-high : (n : ℕ) → 64 ≤ n → 0 ≡ word 0 (2 ^ n)
unfolding word
low-high n h = omega (arith, split-pow n h)

high-low : (n : ℕ) → n < 64 → 0 ≡ word 1 (2 ^ n)
unfolding word
high-low n h = omega (arith, pow-lt {i = n} {j = 64} h)

high-high : (n : ℕ) → 64 ≤ n → n < 128 → 2 ^ (n - 64) ≡ word 1 (2 ^ n)
unfolding word
high-high n h l =
    let k = n - 64 in
    let small : 2 ^ k % 2 ^ 64 ≡ 2 ^ k = omega (arith, pow-lt {i = k} {j = 64} (omega arith)) in
    sym (ap (λ (x : ℕ). x / 2 ^ 64 % 2 ^ 64) (split-pow n h) ∙ ap (λ (x : ℕ). x % 2 ^ 64) (shl-shr (2 ^ k) 64) ∙ small)

pub alone-low : (words : List ℕ) → Alone 0 64 64 words → (n : ℕ) → get_or words n 0 ≡ word 0 (2 ^ n)
alone-low words a n = elim (dec_lt n 64) [
  | yes h ↦ a.each n (omega arith) h h ∙ ap (λ (x : ℕ). 2 ^ x) {x = n - 0} {y = n} (omega arith) ∙ low-low n h
  | no h ↦ a.more n (omega arith) ∙ low-high n (omega arith)
]

pub alone-high : (words : List ℕ) (e : ℕ) → e ≤ 128 → Alone 64 e e words → (n : ℕ) → n < e → get_or words n 0 ≡ word 1 (2 ^ n)
alone-high words e few a n l = elim (dec_lt n 64) [
  | yes h ↦ a.less n h ∙ high-low n h
  | no h ↦ a.each n (omega arith) l l ∙ high-high n (omega arith) (omega arith)
]

-- ---- the merges of an array

abbrev blank : Merge
blank = merge 0 0 0

-- the numbers of step t
abbrev pub parts_at : List ℕ → ℕ → Merge
parts_at parts t = merge (get_or parts (3 * t) 0) (get_or parts (3 * t + 1) 0) (get_or parts (3 * t + 2) 0)

flat-at : (q : List Merge) (t : ℕ) (d : Merge) → t < length q → parts_at (flat q) t ≡ get_or q t d
unfolding flat
flat-at [] t d h = absurd (omega arith)
flat-at (m ∷ q) zero d h = refl
flat-at (m ∷ q) (suc t) d h =
    let p0 : 3 * suc t ≡ suc (suc (suc (3 * t))) = omega arith in
    let p1 : 3 * suc t + 1 ≡ suc (suc (suc (3 * t + 1))) = omega arith in
    let p2 : 3 * suc t + 2 ≡ suc (suc (suc (3 * t + 2))) = omega arith in
    let l = flat (m ∷ q) in
    let here : parts_at l (suc t) ≡ parts_at (flat q) t = λ z. merge (get_or l (p0 z) 0) (get_or l (p1 z) 0) (get_or l (p2 z) 0) in
    here ∙ flat-at q t d (omega arith)

-- those of an array that holds them in ascending order
parts-at : (p : List Merge) (parts : List ℕ) → parts ≡ block places 0 (flat (map ascending p)) → (t : ℕ) → t < length p
    → parts_at parts t ≡ ascending (get_or p t blank)
parts-at p parts are t h =
    let f = flat (map ascending p) in
    let i = get_or-block places 0 f (3 * t) in
    let j = get_or-block places 0 f (3 * t + 1) in
    let k = get_or-block places 0 f (3 * t + 2) in
    let read : parts_at (block places 0 f) t ≡ parts_at f t = λ z. merge (i z) (j z) (k z) in
    ap (λ (l : List ℕ). parts_at l t) are ∙ read ∙ flat-at (map ascending p) t (ascending blank) (omega (arith, length-map p ascending))
    ∙ List·getD-map ascending p t blank

-- each merge is open in its turn
valid-at : (p : List Merge) (s : List ℕ) → Valid s p → (t : ℕ) → t < length p → OpenAt (final s (take t p)) (get_or p t blank)
valid-at [] s v t h = absurd (omega arith)
valid-at (m ∷ p) s v zero h = v.0
valid-at (m ∷ p) s v (suc t) h = valid-at p (put s m) v.1 t (omega arith)

module _ {e : ℕ} {parts : List ℕ} {steps : ℕ} (l : Listed e parts steps) where
  -- the words before any merge
  pub told-start : (w : ℕ) (words : List ℕ) → length words ≡ places → ((n : ℕ) → n < e → get_or words n 0 ≡ word w (2 ^ n))
      → Told w l.cs (take 0 l.p) words
  unfolding rests_on
  told-start w words long is = record {
    long = long;
    is = λ n h.
        let b = alive-lt l.cs n h in
        is n (omega (arith, l.size)) ∙ ap (word w) (sym (slot-alone (length l.cs) n b));
  }

  module _ (t : ℕ) (h : t < steps) where
    -- the clusters after t merges, what they rest on, and the next merge
    abbrev s : List ℕ
    s = final l.cs (take t l.p)

    abbrev r : List ℕ
    r = rests_on (length l.cs) (take t l.p)

    abbrev m : Merge
    m = parts_at parts t

    inside : t < length l.p
    inside = omega (arith, l.steps_are)

    numbers : parts_at parts t ≡ ascending (get_or l.p t blank)
    numbers = parts-at l.p parts l.parts_are t inside

    opened : OpenAt s m
    opened = subst (OpenAt s) (sym numbers) (open-ascending s (get_or l.p t blank) (valid-at l.p l.cs l.valid t inside))

    next : (x : List ℕ) → final x (take (t + 1) l.p) ≡ put (final x (take t l.p)) m
    next x =
        ap (final x) (ap (λ (n : ℕ). take n l.p) (add-one t) ∙ take-suc l.p t blank inside)
        ∙ final-snoc (take t l.p) x (get_or l.p t blank)
        ∙ sym (put-ascending (final x (take t l.p)) (get_or l.p t blank))
        ∙ ap (put (final x (take t l.p))) (sym numbers)

    used : length s ≡ e + t
    used = omega (arith, length-final (take t l.p) l.cs, length-take t l.p, inside, l.size)

    same-places : length r ≡ length s
    unfolding rests_on
    same-places = omega (
      arith,
      length-final (take t l.p) l.cs,
      length-final (take t l.p) (alone_from 0 (length l.cs)),
      length-alone (length l.cs) 0,
    )

    pub below : (get_or parts (3 * t) 0 < e + t) × (get_or parts (3 * t + 1) 0 < e + t) × (get_or parts (3 * t + 2) 0 < e + t)
    below = (
      omega (arith, alive-lt s m.i opened.livei, used),
      omega (arith, alive-lt s m.j opened.livej, used),
      omega (arith, alive-lt s m.k opened.livek, used),
    )

    -- the union's word is stored at its number
    pub told-next : (w : ℕ) (words : List ℕ) → e + t < places → Told w l.cs (take t l.p) words
        → Told w l.cs (take (t + 1) l.p) (set words (e + t) (get_or words m.i 0 ∪ get_or words m.j 0 ∪ get_or words m.k 0))
    unfolding rests_on union
    told-next w words room told = record {
      long = length-set words (e + t) v ∙ told.long;
      is = λ n h. at n (λ z. h (ap (λ (x : List ℕ). slot x n) (next l.cs) ∙ z)) (stands r s same-places m n)
          ∙ ap (λ (x : List ℕ). word w (slot x n)) (sym (next (alone_from 0 (length l.cs))));
    }
      where
        v : ℕ
        v = get_or words m.i 0 ∪ get_or words m.j 0 ∪ get_or words m.k 0

        joined : v ≡ word w (slot r m.i ∪ slot r m.j ∪ slot r m.k)
        joined =
            ap₂ (λ (x y : ℕ). x ∪ y)
            (ap₂ (λ (x y : ℕ). x ∪ y) (told.is m.i opened.livei) (told.is m.j opened.livej) ∙ sym (word-∪ w (slot r m.i) (slot r m.j)))
            (told.is m.k opened.livek)
            ∙ sym (word-∪ w (slot r m.i ∪ slot r m.j) (slot r m.k))

        at : (n : ℕ) → slot (put s m) n ≢ 0 → Stands r s m n → get_or (set words (e + t) v) n 0 ≡ word w (slot (put r m) n)
        at n h (new q f g) =
            ap (λ (x : ℕ). get_or (set words (e + t) v) x 0) (q ∙ used)
            ∙ get_or-set_same words (e + t) v 0 (omega (arith, told.long)) ∙ joined ∙ ap (word w) (sym g)
        at n h (gone f g) = absurd (h f)
        at n h (kept q f g) =
            let k : slot s n ≢ 0 = λ z. h (f ∙ z) in
            get_or-set_other words (e + t) n v 0 (λ z. omega (arith, alive-lt s n k, used)) ∙ told.is n k ∙ ap (word w) (sym g)

  -- all steps
  pub told-end : (w t : ℕ) (words : List ℕ) → t ≡ steps → Told w l.cs (take t l.p) words → Told w l.cs l.p words
  told-end w t words h = subst (λ (q : List Merge). Told w l.cs q words) (take_all t l.p (omega (arith, l.steps_are)))
