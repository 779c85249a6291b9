-- A good family: each set carries exactly 2m-3 constraints and no constraint lies in two. A merge leaves a good family,
-- and in one two sets share at most one element: Lemmas 3.4 and 3.5 of Fudos and Hoffmann (document 001).
-- Assumes nothing.
use Rattle.std.specs.Prelude.{◌≡◌, ◌≢◌, ◌+◌, ◌*◌, ◌≤◌}
use Rattle.theory.specs.Prelude.{refl, sym, ap, ◌∙◌, subst, inl, inr, List, ℕ, zero, arith, ℕ_discrete, ones}
use Rattle.theory.specs.Tests.{one_of}
use Rattle.theory.specs.Merge.{Three, union}
use Rattle.theory.specs.Set.{◌∩◌, ◌∪◌, ◌⊑◌}
use Rattle.theory.specs.Set.Laws.{size-∪, ⊑⇒size≤, a⊑a∪b, a∩b⊑b, ∩-comm, ⊑⇒∩≡}
use Rattle.theory.specs.Constraints.{carried, NotOver, Pairs}
use Rattle.theory.specs.Constraints.Laws.{carried-mono, carried-two, carried-four, carried-pos, carried-small, pairs-share}
use Rattle.theory.specs.Merge.Threes.{part-a, part-b, part_c, size-union}
use Rattle.theory.specs.Merge.Family.{In, after, start, Fam, Same, OpenIn, Good}

pub in-union : (t : Three) (x : ℕ) → In x t → x ⊑ union t
in-union t x (inl e) = subst (λ (y : ℕ). y ⊑ union t) (sym e) (part-a t)
in-union t x (inr (inl e)) = subst (λ (y : ℕ). y ⊑ union t) (sym e) (part-b t)
in-union t x (inr (inr e)) = subst (λ (y : ℕ). y ⊑ union t) (sym e) (part_c t)

pub in-dec : (x : ℕ) (t : Three) → Dec (In x t)
in-dec x t = one_of x t.a t.b t.c

pub good-same : (cs : List ℕ) {F G : Fam} → Same F G → Good cs G → Good cs F
good-same cs h g = record { tight = λ x p. g.tight x ((h x).0 p); apart = λ x y p q ne. g.apart x y ((h x).0 p) ((h y).0 q) ne }

module _ (cs : List ℕ) (fine : NotOver cs) where
  pub big : {F : Fam} → Good cs F → (x : ℕ) → F x → 2 ≤ ones x
  big g x fx = omega (arith, g.tight x fx)

  -- two living clusters never share two elements. Lemma 3.5 of Fudos and Hoffmann says it the other way: two clusters
  -- that share more than one make the graph overconstrained
  pub share : {F : Fam} → Good cs F → (x y : ℕ) → F x → F y → x ≢ y → ones (x ∩ y) ≤ 1
  unfolding NotOver
  share g x y fx fy ne =
      let l : ones x ≤ ones (x ∪ y) = ⊑⇒size≤ (x ∪ y) x (a⊑a∪b x y) in
      let b : 2 ≤ ones (x ∪ y) = omega (arith, big g x fx) in
      omega (arith, g.tight x fx, g.tight y fy, g.apart x y fx fy ne, carried-two cs x y, fine (x ∪ y) b, size-∪ x y)

  module _ {F : Fam} (g : Good cs F) (t : Three) (m : OpenIn F t) where
    pub a≢b : t.a ≢ t.b
    a≢b e = m.open3.bc≢ac (ap (λ (x : ℕ). x ∩ t.c) (sym e))

    pub b≢c : t.b ≢ t.c
    b≢c e = m.open3.ab≢ac (ap (λ (x : ℕ). t.a ∩ x) e)

    pub a≢c : t.a ≢ t.c
    a≢c e = m.open3.ab≢bc (ap (λ (x : ℕ). x ∩ t.b) e ∙ ∩-comm t.c t.b)

    -- the union and any set that shares no constraint with the three
    pub union-tight : (d : ℕ) → carried cs (t.a ∩ d) ≡ zero → carried cs (t.b ∩ d) ≡ zero → carried cs (t.c ∩ d) ≡ zero
        → (carried cs (union t) + 3 ≡ 2 * ones (union t)) × (carried cs (union t ∩ d) ≡ zero)
    unfolding union NotOver
    union-tight d ea eb ec =
        let b : 2 ≤ ones (union t) = omega (arith, big g t.a m.ina, ⊑⇒size≤ (union t) t.a (part-a t)) in
        let f = fine (union t) b in
        let ta = g.tight t.a m.ina in
        let tb = g.tight t.b m.inb in
        let tc = g.tight t.c m.inc in
        let s = size-union t m.open3 in
        let q = carried-four cs t.a t.b t.c d in
        let ab = g.apart t.a t.b m.ina m.inb a≢b in
        let bc = g.apart t.b t.c m.inb m.inc b≢c in
        let ac = g.apart t.a t.c m.ina m.inc a≢c in
        (omega arith, omega arith)

    pub union-new : F (union t) → ⊥
    union-new fu =
        elim (ℕ_discrete t.a (union t)) [
          | yes p ↦ elim (ℕ_discrete t.b (union t)) [ yes q ↦ a≢b (p ∙ sym q) | no n ↦ two t.b m.inb (part-b t) n ]
          | no n ↦ elim (ℕ_discrete t.b (union t)) [ yes q ↦ two t.a m.ina (part-a t) n | no k ↦ two t.a m.ina (part-a t) n ]
        ]
      where
        two : (x : ℕ) → F x → x ⊑ union t → x ≢ union t → ⊥
        two x fx h ne = omega (arith, share g x (union t) fx fu ne, ap ones (⊑⇒∩≡ x (union t) h), big g x fx)

    sub-none : (x y : ℕ) → x ⊑ y → carried cs y ≡ zero → carried cs x ≡ zero
    sub-none x y h e = omega (arith, carried-mono cs x y h)

    union-exact : carried cs (union t) + 3 ≡ 2 * ones (union t)
    union-exact =
        let d = t.b ∩ t.c in
        let e : carried cs d ≡ zero = g.apart t.b t.c m.inb m.inc b≢c in
        (union-tight d (sub-none (t.a ∩ d) d (a∩b⊑b t.a d) e) (sub-none (t.b ∩ d) d (a∩b⊑b t.b d) e)
        (sub-none (t.c ∩ d) d (a∩b⊑b t.c d) e)).0

    all_apart : (d : ℕ) → F d → (In d t → ⊥) → carried cs (union t ∩ d) ≡ zero
    all_apart d fd n =
        (union-tight d (g.apart t.a d m.ina fd (λ e. n (inl (sym e)))) (g.apart t.b d m.inb fd (λ e. n (inr (inl (sym e)))))
        (g.apart t.c d m.inc fd (λ e. n (inr (inr (sym e)))))).1

    -- a merge leaves a good family. Lemma 3.4 of Fudos and Hoffmann, one step of it: a cluster's subgraph is
    -- well-constrained. Theirs counts the constraints that were merged; these are all whose ends lie in the cluster
    pub good-after : Good cs (after F t)
    good-after = record { tight = tight1; apart = apart1 }
      where
        tight1 : (x : ℕ) → after F t x → carried cs x + 3 ≡ 2 * ones x
        tight1 x (inl e) = subst (λ (y : ℕ). carried cs y + 3 ≡ 2 * ones y) (sym e) union-exact
        tight1 x (inr p) = g.tight x p.0

        apart1 : (x y : ℕ) → after F t x → after F t y → x ≢ y → carried cs (x ∩ y) ≡ zero
        apart1 x y (inl e) (inl f) ne = absurd (ne (e ∙ sym f))
        apart1 x y (inl e) (inr q) ne = ap (λ (z : ℕ). carried cs (z ∩ y)) e ∙ all_apart y q.0 q.1
        apart1 x y (inr p) (inl f) ne = ap (carried cs) (∩-comm x y) ∙ ap (λ (z : ℕ). carried cs (z ∩ x)) f ∙ all_apart x p.0 p.1
        apart1 x y (inr p) (inr q) ne = g.apart x y p.0 q.0 ne

    pub outside-share : (x : ℕ) → F x → (In x t → ⊥) → ones (x ∩ union t) ≤ 1
    outside-share x fx n = share good-after x (union t) (inr (fx, n)) (inl refl) (λ e. union-new (subst F e fx))

pub among-good : (cs : List ℕ) → Pairs cs → NotOver cs → Good cs (start cs)
unfolding Pairs NotOver
among-good cs p fine = record {
  tight = λ x h. omega (arith, p x h, carried-pos cs x h, fine x (omega (arith, p x h)));
  apart = λ x y h k ne. carried-small cs p (x ∩ y) (pairs-share x y (p x h) (p y k) ne);
}
