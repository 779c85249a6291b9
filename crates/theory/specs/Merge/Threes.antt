-- Laws of three open sets: the sizes of union and joint, that each has two elements or more, and what they have in common. Assumes nothing.
use Rattle.std.specs.Prelude.{◌≡◌, ◌≢◌, ◌+◌, ◌≤◌}
use Rattle.theory.specs.Prelude.{sym, ap, ◌∙◌, subst, Ne-symm, List, ℕ, arith, ones}
use Rattle.theory.specs.Merge.{Open, Three, union, joint, Merge, slot, OpenAt}
use Rattle.theory.specs.Set.{◌∩◌, ◌∪◌, ◌⊑◌}
use Rattle.theory.specs.Set.Laws.{size-∪, ⊑⇒size≤, ⊑_trans, a⊑a∪b, b⊑a∪b, a∩b⊑b, ∩-distrib-∪, singles-apart, singles-or, ∪-least, a∩b⊑a}
use Rattle.theory.specs.Set.Laws.{size-zero}
use Rattle.theory.specs.Set.Laws.{∩-greatest, ⊑_refl, ∩-comm}

pub size-union : (t : Three) → Open t.a t.b t.c → ones (union t) + 3 ≡ ones t.a + ones t.b + ones t.c
unfolding union
size-union t o = omega (
  arith,
  size-∪ t.a t.b,
  size-∪ (t.a ∪ t.b) t.c,
  ap ones (∩-distrib-∪ t.a t.b t.c),
  size-∪ (t.a ∩ t.c) (t.b ∩ t.c),
  singles-apart (t.a ∩ t.c) (t.b ∩ t.c) o.ac o.bc (Ne-symm o.bc≢ac),
  o.ab,
  o.bc,
  o.ac,
)

pub size-joint : (t : Three) → Open t.a t.b t.c → ones (joint t) ≡ 3
unfolding joint
size-joint t o =
    let p = t.a ∩ t.b in
    let q = t.b ∩ t.c in
    let r = t.a ∩ t.c in
    omega (
      arith,
      singles-or p q o.ab o.bc o.ab≢bc,
      size-∪ (p ∪ q) r,
      ap ones (∩-distrib-∪ p q r),
      size-∪ (p ∩ r) (q ∩ r),
      singles-apart p r o.ab o.ac o.ab≢ac,
      singles-apart q r o.bc o.ac o.bc≢ac,
      o.ac,
    )

pub part-a : (t : Three) → t.a ⊑ union t
unfolding union
part-a t = ⊑_trans (a⊑a∪b t.a t.b) (a⊑a∪b (t.a ∪ t.b) t.c)

pub part-b : (t : Three) → t.b ⊑ union t
unfolding union
part-b t = ⊑_trans (b⊑a∪b t.a t.b) (a⊑a∪b (t.a ∪ t.b) t.c)

pub part_c : (t : Three) → t.c ⊑ union t
unfolding union
part_c t = b⊑a∪b (t.a ∪ t.b) t.c

-- a part of an open three has two elements or more
pub open-big : (a p q : ℕ) → p ⊑ a → q ⊑ a → ones p ≡ 1 → ones q ≡ 1 → p ≢ q → 2 ≤ ones a
open-big a p q pa qa ep eq ne = omega (arith, singles-or p q ep eq ne, ⊑⇒size≤ a (p ∪ q) (∪-least pa qa))

module _ (a b c : ℕ) (o : Open a b c) where
  pub big-a : 2 ≤ ones a
  big-a = open-big a (a ∩ b) (a ∩ c) (a∩b⊑a a b) (a∩b⊑a a c) o.ab o.ac o.ab≢ac

  pub big-b : 2 ≤ ones b
  big-b = open-big b (a ∩ b) (b ∩ c) (a∩b⊑b a b) (a∩b⊑a b c) o.ab o.bc o.ab≢bc

  pub big-c : 2 ≤ ones c
  big-c = open-big c (b ∩ c) (a ∩ c) (a∩b⊑b b c) (a∩b⊑b a c) o.bc o.ac o.bc≢ac

-- ---- open, by what the three have in common

pub meet-open : (a b c : ℕ) → ones (a ∩ b) ≡ 1 → ones (b ∩ c) ≡ 1 → ones (a ∩ c) ≡ 1 → a ∩ b ∩ c ≡ 0 → Open a b c
meet-open a b c p q r z = record {
  ab = p;
  bc = q;
  ac = r;
  ab≢bc = λ e. clash (a ∩ b) p (∩-greatest (⊑_refl (a ∩ b)) (subst (λ (x : ℕ). x ⊑ c) (sym e) (a∩b⊑b b c)));
  bc≢ac = λ e. clash (b ∩ c) q (∩-greatest (∩-greatest (subst (λ (x : ℕ). x ⊑ a) (sym e) (a∩b⊑a a c)) (a∩b⊑a b c)) (a∩b⊑b b c));
  ab≢ac = λ e. clash (a ∩ b) p (∩-greatest (⊑_refl (a ∩ b)) (subst (λ (x : ℕ). x ⊑ c) (sym e) (a∩b⊑b a c)));
}
  where
    clash : (x : ℕ) → ones x ≡ 1 → x ⊑ a ∩ b ∩ c → ⊥
    clash x e h = omega (arith, ⊑⇒size≤ (a ∩ b ∩ c) x h, ap ones z, size-zero)

-- three clusters that are open live, and are three different ones
pub open-living : (a b c : ℕ) → Open a b c → (a ≢ 0) × (b ≢ 0) × (c ≢ 0)
open-living a b c o = (
  λ e. omega (arith, big-a a b c o, ap ones e, size-zero),
  λ e. omega (arith, big-b a b c o, ap ones e, size-zero),
  λ e. omega (arith, big-c a b c o, ap ones e, size-zero),
)

pub open_at : (s : List ℕ) (m : Merge) → Open (slot s m.i) (slot s m.j) (slot s m.k) → OpenAt s m
open_at s m o =
    let l = open-living (slot s m.i) (slot s m.j) (slot s m.k) o in
    record {
      i≢j = λ e. o.bc≢ac (ap (λ (n : ℕ). slot s n ∩ slot s m.k) (sym e));
      j≢k = λ e. o.ab≢ac (ap (λ (n : ℕ). slot s m.i ∩ slot s n) e);
      i≢k = λ e. o.ab≢bc (∩-comm (slot s m.i) (slot s m.j) ∙ ap (λ (n : ℕ). slot s m.j ∩ slot s n) e);
      livei = l.0;
      livej = l.1;
      livek = l.2;
      open3 = o;
    }
