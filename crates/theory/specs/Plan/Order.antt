-- The order of the three numbers of a merge does not matter: the merge with its numbers ascending is open where it is, has the same joint, and
-- leaves the same clusters. Assumes nothing.
use Rattle.std.specs.Prelude.{◌≡◌, ◌≢◌, ◌∷◌, ◌++◌, ◌≤◌, ◌<◌}
use Rattle.theory.specs.Prelude.{refl, sym, ap, ap₂, ◌∙◌, subst, Ne-symm, List, [], ℕ, zero, suc, min, max}
use Rattle.theory.specs.Prelude.{arith, dec_le, ones, set}
use Rattle.theory.specs.Set.{◌∩◌, ◌∪◌}
use Rattle.theory.specs.Set.Laws.{at-∪, ext, ∩-comm, ∪-comm}
use Rattle.theory.specs.Merge.{Merge, merge, three, slot, OpenAt, union, joint, cleared, put}
use Rattle.theory.specs.Plan.{ascending}

pub merge-by : {i j k x y z : ℕ} → i ≡ x → j ≡ y → k ≡ z → merge i j k ≡ merge x y z
merge-by p q r w = record { i = p w; j = q w; k = r w }

-- what two exchanges of neighbours keep, ascending keeps
pub by-exchange : (P : Merge → Type 0) → ((i j k : ℕ) → P (merge i j k) → P (merge j i k)) → ((i j k : ℕ) → P (merge i j k) → P (merge i k j))
    → (m : Merge) → P m → P (ascending m)
unfolding ascending
by-exchange P ab bc m h = go m.i m.j m.k h (dec_le m.i m.j) (dec_le m.j m.k) (dec_le m.i m.k)
  where
    go : (i j k : ℕ) → P (merge i j k) → Dec (i ≤ j) → Dec (j ≤ k) → Dec (i ≤ k)
        → P (merge (min (min i j) k) (max (min i j) (min (max i j) k)) (max (max i j) k))
    go i j k h (yes a) (yes b) c = subst P (merge-by (omega arith) (omega arith) (omega arith)) h
    go i j k h (yes a) (no b) (yes c) = subst P (merge-by (omega arith) (omega arith) (omega arith)) (bc i j k h)
    go i j k h (yes a) (no b) (no c) = subst P (merge-by (omega arith) (omega arith) (omega arith)) (ab i k j (bc i j k h))
    go i j k h (no a) b (yes c) = subst P (merge-by (omega arith) (omega arith) (omega arith)) (ab i j k h)
    go i j k h (no a) (yes b) (no c) = subst P (merge-by (omega arith) (omega arith) (omega arith)) (bc j i k (ab i j k h))
    go i j k h (no a) (no b) (no c) = subst P (merge-by (omega arith) (omega arith) (omega arith)) (ab j k i (bc j i k (ab i j k h)))

-- ---- open

pub open-ab : (s : List ℕ) (i j k : ℕ) → OpenAt s (merge i j k) → OpenAt s (merge j i k)
open-ab s i j k o =
    let e = ∩-comm (slot s j) (slot s i) in
    record {
      i≢j = Ne-symm o.i≢j;
      j≢k = o.i≢k;
      i≢k = o.j≢k;
      livei = o.livej;
      livej = o.livei;
      livek = o.livek;
      open3 = record {
        ab = ap ones e ∙ o.open3.ab;
        bc = o.open3.ac;
        ac = o.open3.bc;
        ab≢bc = λ p. o.open3.ab≢ac (sym e ∙ p);
        bc≢ac = λ p. o.open3.bc≢ac (sym p);
        ab≢ac = λ p. o.open3.ab≢bc (sym e ∙ p);
      };
    }

pub open-bc : (s : List ℕ) (i j k : ℕ) → OpenAt s (merge i j k) → OpenAt s (merge i k j)
open-bc s i j k o =
    let e = ∩-comm (slot s k) (slot s j) in
    record {
      i≢j = o.i≢k;
      j≢k = Ne-symm o.j≢k;
      i≢k = o.i≢j;
      livei = o.livei;
      livej = o.livek;
      livek = o.livej;
      open3 = record {
        ab = o.open3.ac;
        bc = ap ones e ∙ o.open3.bc;
        ac = o.open3.ab;
        ab≢bc = λ p. o.open3.bc≢ac (sym (p ∙ e));
        bc≢ac = λ p. o.open3.ab≢bc (sym (sym e ∙ p));
        ab≢ac = λ p. o.open3.ab≢ac (sym p);
      };
    }

pub open-ascending : (s : List ℕ) (m : Merge) → OpenAt s m → OpenAt s (ascending m)
open-ascending s = by-exchange (OpenAt s) (open-ab s) (open-bc s)

-- three different numbers ascend
climbs : (m : Merge) → ((ascending m).i ≤ (ascending m).j) × ((ascending m).j ≤ (ascending m).k)
unfolding ascending
climbs m = (omega arith, omega arith)

Apart : Merge → Type 0
Apart m = (m.i ≢ m.j) × (m.j ≢ m.k) × (m.i ≢ m.k)

pub ascends : (m : Merge) → m.i ≢ m.j → m.j ≢ m.k → m.i ≢ m.k → ((ascending m).i < (ascending m).j) × ((ascending m).j < (ascending m).k)
unfolding Apart
ascends m p q r =
    let d = by-exchange Apart (λ i j k h. (Ne-symm h.0, h.2, h.1)) (λ i j k h. (h.2, Ne-symm h.1, h.0)) m (p, q, r) in
    (omega (arith, (climbs m).0, d.0), omega (arith, (climbs m).1, d.1))

-- ---- the same joint and the same clusters afterwards

set-swap : (s : List ℕ) (i j : ℕ) → set (set s i 0) j 0 ≡ set (set s j 0) i 0
set-swap [] i j = refl
set-swap (x ∷ s) zero zero = refl
set-swap (x ∷ s) zero (suc j) = refl
set-swap (x ∷ s) (suc i) zero = refl
set-swap (x ∷ s) (suc i) (suc j) = ap (λ (l : List ℕ). x ∷ l) (set-swap s i j)

or_swap : (a b c : ℕ) → a ∪ b ∪ c ≡ a ∪ c ∪ b
or_swap a b c = ext (a ∪ b ∪ c) (a ∪ c ∪ b) (λ x. simp at-∪ (omega arith))

pub put-ab : (s : List ℕ) (i j k : ℕ) → put s (merge i j k) ≡ put s (merge j i k)
unfolding put cleared union
put-ab s i j k = ap₂ (λ (l : List ℕ) (u : ℕ). set l k 0 ++ (u ∷ [])) (set-swap s i j) (ap (λ (u : ℕ). u ∪ slot s k) (∪-comm (slot s i) (slot s j)))

pub put-bc : (s : List ℕ) (i j k : ℕ) → put s (merge i j k) ≡ put s (merge i k j)
unfolding put cleared union
put-bc s i j k = ap₂ (λ (l : List ℕ) (u : ℕ). l ++ (u ∷ [])) (set-swap (set s i 0) j k) (or_swap (slot s i) (slot s j) (slot s k))

pub put-ascending : (s : List ℕ) (m : Merge) → put s (ascending m) ≡ put s m
put-ascending s m = by-exchange (λ (r : Merge). put s r ≡ put s m) (λ i j k e. put-ab s j i k ∙ e) (λ i j k e. put-bc s i k j ∙ e) m refl

pub joint-ab : (s : List ℕ) (i j k : ℕ) → joint (three s (merge i j k)) ≡ joint (three s (merge j i k))
unfolding joint
joint-ab s i j k =
    or_swap (slot s i ∩ slot s j) (slot s j ∩ slot s k) (slot s i ∩ slot s k)
    ∙ ap (λ (u : ℕ). u ∪ (slot s i ∩ slot s k) ∪ (slot s j ∩ slot s k)) (∩-comm (slot s i) (slot s j))

pub joint-bc : (s : List ℕ) (i j k : ℕ) → joint (three s (merge i j k)) ≡ joint (three s (merge i k j))
unfolding joint
joint-bc s i j k =
    let a = slot s i in
    let b = slot s j in
    let c = slot s k in
    ext ((a ∩ b) ∪ (b ∩ c) ∪ (a ∩ c)) ((a ∩ c) ∪ (c ∩ b) ∪ (a ∩ b)) (λ x. simp (at-∪, ∩-comm c b) (omega arith))

pub joint-ascending : (s : List ℕ) (m : Merge) → joint (three s (ascending m)) ≡ joint (three s m)
joint-ascending s m =
    by-exchange (λ (r : Merge). joint (three s r) ≡ joint (three s m)) (λ i j k e. joint-ab s j i k ∙ e) (λ i j k e. joint-bc s i k j ∙ e) m refl
