-- Lists of merges: one merge more at the end, how many numbers, and one merge in an array. Assumes nothing.
use Rattle.std.specs.Prelude.{◌≡◌, ◌∷◌, ◌++◌, ◌+◌, ◌*◌, ◌<◌, ◌≢◌}
use Rattle.theory.specs.Prelude.{refl, sym, ap, ◌∙◌, List, [], map, append_assoc, map-append, ℕ, suc, arith, length}
use Rattle.theory.specs.Prelude.{take, set, length-append, length-map, length-set, Bool, true, false, eqb, eqb-true, eqb-false, eq-eqb, ne_eqb}
use Rattle.theory.specs.Block.{block}
use Rattle.theory.specs.Block.Laws.{get_or-block, set-block, store-block, take-block}
use Rattle.theory.specs.Merge.{Merge, three, OpenAt, union, joint, cleared, put, Valid, final, joints, left}
use Rattle.theory.specs.Merge.Numbered.{length-cleared, length-put}
use Rattle.theory.specs.Plan.{ascending}
use Rattle.merges.specs.Run.{places, flat, one_is_left, Start}

-- ---- before any merge

-- the array begins with the constraints
pub begin-same : {start slots : List ℕ} {e : ℕ} → Start start e → slots ≡ block places 0 (take e start) → take e slots ≡ take e start
begin-same {start} {slots} {e} b h = ap (take e) h ∙ take-block places 0 (take e start) e (sym b.count)

-- ---- one merge more

pub final-snoc : (p : List Merge) (s : List ℕ) (m : Merge) → final s (p ++ (m ∷ [])) ≡ put (final s p) m
final-snoc [] s m = refl
final-snoc (r ∷ p) s m = final-snoc p (put s r) m

pub valid-snoc : (p : List Merge) (s : List ℕ) (m : Merge) → Valid s p → OpenAt (final s p) m → Valid s (p ++ (m ∷ []))
valid-snoc [] s m v o = (o, tt)
valid-snoc (r ∷ p) s m v o = (v.0, valid-snoc p (put s r) m v.1 o)

pub joints-snoc : (p : List Merge) (s : List ℕ) (m : Merge) → joints s (p ++ (m ∷ [])) ≡ joints s p ++ (joint (three (final s p) m) ∷ [])
unfolding joints
joints-snoc [] s m = refl
joints-snoc (r ∷ p) s m = ap (λ (l : List ℕ). joint (three s r) ∷ l) (joints-snoc p (put s r) m)

flat_append : (p : List Merge) (m : Merge) → flat (p ++ (m ∷ [])) ≡ flat p ++ (m.i ∷ m.j ∷ m.k ∷ [])
unfolding flat
flat_append [] m = refl
flat_append (r ∷ p) m = ap (λ (l : List ℕ). r.i ∷ r.j ∷ r.k ∷ l) (flat_append p m)

-- its numbers r ascending
pub flat-snoc : (p : List Merge) (m r : Merge) → ascending m ≡ r
    → flat (map ascending (p ++ (m ∷ []))) ≡ flat (map ascending p) ++ (r.i ∷ r.j ∷ r.k ∷ [])
flat-snoc p m r e = ap flat (map-append ascending p (m ∷ []) ∙ ap (λ (x : Merge). map ascending p ++ (x ∷ [])) e) ∙ flat_append (map ascending p) r

-- ---- how many

pub length-final : (p : List Merge) (s : List ℕ) → length (final s p) ≡ length s + length p
length-final [] s = omega arith
length-final (r ∷ p) s = omega (arith, length-final p (put s r), length-put s r)

pub length-flat : (p : List Merge) → length (flat p) ≡ 3 * length p
unfolding flat
length-flat [] = refl
length-flat (r ∷ p) = omega (arith, length-flat p)

pub length-numbers : (p : List Merge) → length (flat (map ascending p)) ≡ 3 * length p
length-numbers p = omega (arith, length-flat (map ascending p), length-map p ascending)

pub length-joints : (p : List Merge) (s : List ℕ) → length (joints s p) ≡ length p
unfolding joints
length-joints [] s = refl
length-joints (r ∷ p) s = ap suc (length-joints p (put s r))

-- ---- one cluster left

module _ (e steps : ℕ) where
  pub one-left-true : one_is_left e steps ≡ true → 2 * steps + 1 ≡ e
  one-left-true = eqb-true (2 * steps + 1) e

  pub one-left-false : one_is_left e steps ≡ false → 2 * steps + 1 ≢ e
  one-left-false = eqb-false (2 * steps + 1) e

  -- of clusters that merges of e left
  pub one_left : (s : List ℕ) → left s + 2 * steps ≡ e → one_is_left e steps ≡ eqb (left s) 1
  one_left s h = by (eqb (left s) 1) refl
    where
      by : (b : Bool) → eqb (left s) 1 ≡ b → eqb (2 * steps + 1) e ≡ b
      by true q = eq-eqb (2 * steps + 1) e (omega (arith, h, eqb-true (left s) 1 q))
      by false q = ne_eqb (2 * steps + 1) e (λ z. eqb-false (left s) 1 q (omega (arith, h, z)))

-- ---- in an array of k places

-- three numbers stored at the end of the list
pub store-three : (k : ℕ) (l : List ℕ) (n x y z : ℕ) → n ≡ length l → n + 2 < k
    → set (set (set (block k 0 l) n x) (n + 1) y) (n + 2) z ≡ block k 0 (l ++ (x ∷ y ∷ z ∷ []))
store-three k l n x y z e h =
    let l1 = l ++ (x ∷ []) in
    let l2 = l1 ++ (y ∷ []) in
    ap (λ (a : List ℕ). set (set a (n + 1) y) (n + 2) z) (store-block k 0 l n x e (omega arith))
    ∙ ap (λ (a : List ℕ). set a (n + 2) z) (store-block k 0 l1 (n + 1) y (omega (arith, length-append l (x ∷ []))) (omega arith))
    ∙ store-block k 0 l2 (n + 2) z (omega (arith, length-append l (x ∷ []), length-append l1 (y ∷ []))) h
    ∙ ap (block k 0) (append_assoc l1 (y ∷ []) (z ∷ []) ∙ append_assoc l (x ∷ []) (y ∷ z ∷ []))

-- a merge reads the clusters of the list, and leaves those of the list after it
module _ (k : ℕ) (s : List ℕ) (m : Merge) where
  pub three-block : three (block k 0 s) m ≡ three s m
  three-block z = record { a = get_or-block k 0 s m.i z; b = get_or-block k 0 s m.j z; c = get_or-block k 0 s m.k z }

  module _ (hi : m.i < length s) (hj : m.j < length s) (hk : m.k < length s) where
    cleared-block : cleared (block k 0 s) m ≡ block k 0 (cleared s m)
    unfolding cleared
    cleared-block =
        let s1 = set s m.i 0 in
        let s2 = set s1 m.j 0 in
        ap (λ (l : List ℕ). set (set l m.j 0) m.k 0) (set-block k 0 s m.i 0 hi)
        ∙ ap (λ (l : List ℕ). set l m.k 0) (set-block k 0 s1 m.j 0 (omega (arith, length-set s m.i 0)))
        ∙ set-block k 0 s2 m.k 0 (omega (arith, length-set s m.i 0, length-set s1 m.j 0))

    pub put-block : (n : ℕ) → n ≡ length s → n < k → set (cleared (block k 0 s) m) n (union (three s m)) ≡ block k 0 (put s m)
    unfolding put
    put-block n e h =
        ap (λ (l : List ℕ). set l n (union (three s m))) cleared-block
        ∙ store-block k 0 (cleared s m) n (union (three s m)) (e ∙ sym (length-cleared s m)) h
