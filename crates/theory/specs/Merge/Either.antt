-- Either way round, by number: once one of two open merges is made, the other is open, the union standing in for a
-- cluster in common. Theorem 3.6 of Fudos and Hoffmann (document 001), of numbered clusters. Assumes nothing.
use Rattle.std.specs.Prelude.{◌≡◌, ◌≢◌, ◌↔◌, ◌||◌}
use Rattle.theory.specs.Prelude.{refl, sym, ap, ◌∙◌, subst, inl, inr, Iff-trans, Iff-symm, Bool, true, false, List, eqb}
use Rattle.theory.specs.Prelude.{eqb→eq, T, ℕ, length}
use Rattle.theory.specs.Tests.{eq_test}
use Rattle.theory.specs.Constraints.{NotOver, Pairs}
use Rattle.theory.specs.Merge.{Three, union, joint, Merge, slot, three, OpenAt, put, live, Part, Valid, final, is_part, stand, moved, Differ}
use Rattle.theory.specs.Merge.{EitherWay}
use Rattle.theory.specs.Merge.Family.{absorb, moved_in, coincide, commute, In, Same, OpenIn, after, Good, Distinct}
use Rattle.theory.specs.Merge.Family.Diamond.{absorb-part, absorb-other, three-by, meeting}
use Rattle.theory.specs.Merge.Family.Outcome.{open-same, after_same}
use Rattle.theory.specs.Merge.Numbered.{in-part, part_in, alive-lt, put-new, put-old, cleared-other, merge-at, put-live, put-good, put-distinct}
use Rattle.theory.specs.Merge.Numbered.{at-numbers, good-final, start-good, start-distinct}

-- ---- what stands for a cluster

is-part : (n : ℕ) (m : Merge) → T (is_part n m) → Part n m
is-part n m t = go (eqb n m.i) (eqb n m.j) refl refl t
  where
    go : (p q : Bool) → eqb n m.i ≡ p → eqb n m.j ≡ q → T (p || (q || eqb n m.k)) → Part n m
    go true q e f t = inl (eqb→eq n m.i (subst T (sym e) tt))
    go false true e f t = inr (inl (eqb→eq n m.j (subst T (sym f) tt)))
    go false false e f t = inr (inr (eqb→eq n m.k t))

part-is : (n : ℕ) (m : Merge) → Part n m → T (is_part n m)
part-is n m h = go (eqb n m.i) (eqb n m.j) refl refl h
  where
    go : (p q : Bool) → eqb n m.i ≡ p → eqb n m.j ≡ q → Part n m → T (p || (q || eqb n m.k))
    go true q e f h = tt
    go false true e f h = tt
    go false false e f (inl h) = absurd (subst T e (eq_test n m.i h))
    go false false e f (inr (inl h)) = absurd (subst T f (eq_test n m.j h))
    go false false e f (inr (inr h)) = eq_test n m.k h

data Stands (s : List ℕ) (m : Merge) (n : ℕ) : Type 0 where
  new : Part n m → stand s m n ≡ length s → Stands s m n
  old : (Part n m → ⊥) → stand s m n ≡ n → Stands s m n

stands : (s : List ℕ) (m : Merge) (n : ℕ) → Stands s m n
unfolding stand
stands s m n = go (is_part n m) refl
  where
    go : (b : Bool) → is_part n m ≡ b → Stands s m n
    go true e = new (is-part n m (subst T (sym e) tt)) (ap (λ (b : Bool). elim b [ true ↦ length s | false ↦ n ]) e)
    go false e = old (λ h. subst T e (part-is n m h)) (ap (λ (b : Bool). elim b [ true ↦ length s | false ↦ n ]) e)

module _ (cs : List ℕ) (fine : NotOver cs) (s : List ℕ) (g : Good cs (live s)) (d : Distinct s) where
  stand-slot : (m : Merge) → OpenAt s m → (n : ℕ) → slot s n ≢ 0 → slot (put s m) (stand s m n) ≡ absorb (union (three s m)) (slot s n)
  stand-slot m o n h = elim (stands s m n) [
    | new i e ↦ ap (slot (put s m)) e ∙ put-new s m
        ∙ sym (absorb-part cs fine g (three s m) (merge-at s m o) (slot s n) (n, refl, h) (part_in s m n i))
    | old k e ↦ ap (slot (put s m)) e ∙ put-old s m n (alive-lt s n h) ∙ cleared-other s m n k
        ∙ sym (absorb-other cs fine g (three s m) (merge-at s m o) (slot s n) (n, refl, h) (λ i. k (in-part s d m n h i)))
  ]

  moved-three : (m r : Merge) → OpenAt s m → OpenAt s r → three (put s m) (moved s m r) ≡ moved_in (three s m) (three s r)
  unfolding moved moved_in
  moved-three m r o u =
      three-by (three (put s m) (moved s m r)) (moved_in (three s m) (three s r)) (stand-slot m o r.i u.livei) (stand-slot m o r.j u.livej)
      (stand-slot m o r.k u.livek)

  still_open : (m r : Merge) → OpenAt s m → OpenAt s r → OpenIn (after (live s) (three s m)) (moved_in (three s m) (three s r))
      → OpenAt (put s m) (moved s m r)
  still_open m r o u h =
      at-numbers cs fine (put s m) (put-good cs fine s g d m o) (moved s m r) (moved_in (three s m) (three s r)) (moved-three m r o u)
      (open-same (λ x. Iff-symm (put-live cs fine s g d m o x)) (moved_in (three s m) (three s r)) h)

  two-on : (m r : Merge) (o : OpenAt s m) (u : OpenAt s r) → OpenAt (put s m) (moved s m r)
      → Same (live (put (put s m) (moved s m r))) (after (after (live s) (three s m)) (moved_in (three s m) (three s r)))
  two-on m r o u h x =
      Iff-trans (put-live cs fine (put s m) (put-good cs fine s g d m o) (put-distinct cs fine s g d m o) (moved s m r) h x)
      (subst (λ (t : Three). after (live (put s m)) (three (put s m) (moved s m r)) x ↔ after (after (live s) (three s m)) t x) (moved-three m r o u)
      (after_same (put-live cs fine s g d m o) (three (put s m) (moved s m r)) x))

  part_by : (m r : Merge) → OpenAt s m → ((x : ℕ) → In x (three s m) → In x (three s r)) → (n : ℕ) → Part n m → Part n r
  part_by m r o h n i = in-part s d r n (alive i) (h (slot s n) (part_in s m n i))
    where
      alive : Part n m → slot s n ≢ 0
      alive (inl e) z = o.livei (ap (slot s) (sym e) ∙ z)
      alive (inr (inl e)) z = o.livej (ap (slot s) (sym e) ∙ z)
      alive (inr (inr e)) z = o.livek (ap (slot s) (sym e) ∙ z)

  pub round : (m r : Merge) → OpenAt s m → OpenAt s r → Differ m r → EitherWay s m r
  round m r o u ne = elim (meeting cs fine g (three s m) (merge-at s m o) (three s r) (merge-at s r u)) [
    | coincide ins j same ↦ absurd (ne (λ n. (part_by m r o (λ x. (ins x).0) n, part_by r m u (λ x. (ins x).1) n)))
    | commute h k js jt same ↦ let p = still_open m r o u h in
        let q = still_open r m u o k in
        record {
          still = p;
          still' = q;
          same_joint = ap joint (moved-three m r o u) ∙ js;
          same_joint' = ap joint (moved-three r m u o) ∙ jt;
          ends = λ x. Iff-trans (two-on m r o u p x) (Iff-trans (same x) (Iff-symm (two-on r m u o q x)));
        }
  ]

-- after any number of a list's merges: Theorem 3.6 of Fudos and Hoffmann, for every cluster set that is derived
pub either_way : (cs : List ℕ) → Pairs cs → NotOver cs → (p : List Merge) → Valid cs p → (m r : Merge)
    → OpenAt (final cs p) m → OpenAt (final cs p) r → Differ m r → EitherWay (final cs p) m r
either_way cs pairs fine p v m r o u ne =
    let h = good-final cs fine p cs (start-good cs pairs fine) (start-distinct cs pairs fine) v in round cs fine (final cs p) h.0 h.1 m r o u ne
