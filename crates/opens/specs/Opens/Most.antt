-- At most n-2 merges are open among the clusters of n elements: they have different joints, and each stays open, with its joint, once another is
-- made, so that all of them can be made one after another. Assumes nothing.
use Rattle.std.specs.Prelude.{◌≡◌, ◌≢◌, ◌⊎◌, ◌∷◌, ◌++◌, ◌+◌, ◌≤◌, ◌<◌}
use Rattle.theory.specs.Prelude.{refl, sym, ap, ◌∙◌, subst, inl, inr, List, [], map, ℕ, arith, length}
use Rattle.theory.specs.Prelude.{length-append, length-map}
use Rattle.theory.specs.Set.{◌∈◌, ◌∩◌, ◌∪◌}
use Rattle.theory.specs.Set.Laws.{two_in, both, ∈-∪ˡ, ∈-∪ʳ, ∈-∪⁻, ∈-∩⁻}
use Rattle.theory.specs.Constraints.{Among, Pairs, Below, NotOver}
use Rattle.theory.specs.Merge.{slot, Merge, three, union, joint, put, Part, Valid, final, moved}
use Rattle.theory.specs.Merge.Count.{steps_most}
use Rattle.theory.specs.Merge.Either.{either_way}
use Rattle.theory.specs.Merge.Numbered.{part-dec, alive-lt}
use Rattle.theory.specs.Plan.{ascending}
use Rattle.theory.specs.Plan.Order.{merge-by, open-ascending, ascends, joint-ascending}
use Rattle.search.specs.State.{Fine}
use Rattle.search.specs.State.Triangle.{Corners, corners}
use Rattle.search.specs.State.Open.{other}
use Rattle.search.specs.State.Sheet.{fine_of}
use Rattle.merges.specs.Run.Laws.{final-snoc, valid-snoc}
use Rattle.opens.specs.Opens.Order.{Up, none, more, up_least}
use Rattle.opens.specs.Opens.Laws.{OpenUp, key_of, merge_of, of-key}

-- ---- merges whose numbers ascend are told by their clusters

part-high : {n : ℕ} {m : Merge} → m.i < m.j → m.j < m.k → Part n m → n ≤ m.k
part-high a b (inl e) = omega arith
part-high a b (inr (inl e)) = omega arith
part-high a b (inr (inr e)) = omega arith

part_low : {n : ℕ} {m : Merge} → m.i < m.j → m.j < m.k → Part n m → m.i ≤ n
part_low a b (inl e) = omega arith
part_low a b (inr (inl e)) = omega arith
part_low a b (inr (inr e)) = omega arith

same-merge : {s : List ℕ} {m r : Merge} → OpenUp s m → OpenUp s r → Part r.i m → Part r.j m → Part r.k m → m ≡ r
same-merge {s} {m} {r} o u i j k = merge-by (first i) (second j) (third k)
  where
    low : m.i ≤ r.i
    low = part_low o.i<j o.j<k i

    high : r.k ≤ m.k
    high = part-high o.i<j o.j<k k

    second : Part r.j m → m.j ≡ r.j
    second (inl e) = absurd (omega (arith, low, u.i<j))
    second (inr (inl e)) = sym e
    second (inr (inr e)) = absurd (omega (arith, high, u.j<k))

    first : Part r.i m → m.i ≡ r.i
    first (inl e) = sym e
    first (inr (inl e)) = absurd (omega (arith, second j, u.i<j))
    first (inr (inr e)) = absurd (omega (arith, high, u.i<j, u.j<k))

    third : Part r.k m → m.k ≡ r.k
    third (inl e) = absurd (omega (arith, low, u.i<j, u.j<k))
    third (inr (inl e)) = absurd (omega (arith, second j, u.j<k))
    third (inr (inr e)) = sym e

-- ---- different merges have different joints

module _ {s : List ℕ} (fine : Fine s) {m r : Merge} (o : OpenUp s m) (u : OpenUp s r) (same : joint (three s m) ≡ joint (three s r)) where
  C : Corners s r.i r.j r.k
  C = corners s r.i r.j r.k u.isopen

  -- an element of the joint lies in the union
  joint-union : (x : ℕ) → x ∈ joint (three s r) → x ∈ union (three s m)
  unfolding joint union
  joint-union x h = by (∈-∪⁻ x _ _ (subst (λ (j : ℕ). x ∈ j) (sym same) h))
    where
      a : ℕ
      a = slot s m.i

      b : ℕ
      b = slot s m.j

      c : ℕ
      c = slot s m.k

      by : (x ∈ (a ∩ b) ∪ (b ∩ c)) ⊎ (x ∈ a ∩ c) → x ∈ a ∪ b ∪ c
      by (inr q) = ∈-∪ʳ x (a ∪ b) c (∈-∩⁻ x a c q).1
      by (inl q) = two (∈-∪⁻ x (a ∩ b) (b ∩ c) q)
        where
          two : (x ∈ a ∩ b) ⊎ (x ∈ b ∩ c) → x ∈ a ∪ b ∪ c
          two (inl p) = ∈-∪ˡ x (a ∪ b) c (∈-∪ˡ x a b (∈-∩⁻ x a b p).0)
          two (inr p) = ∈-∪ʳ x (a ∪ b) c (∈-∩⁻ x b c p).1

  -- so a cluster that holds two of it takes part
  takes_part : (d x y : ℕ) → slot s d ≢ 0 → x ≢ y → x ∈ slot s d → y ∈ slot s d → x ∈ joint (three s r) → y ∈ joint (three s r) → Part d m
  takes_part d x y live n xd yd xj yj = by (part-dec d m)
    where
      by : Dec (Part d m) → Part d m
      by (yes p) = p
      by (no p) =
          absurd (omega (
            arith,
            fine.later m o.isopen d p live,
            two_in (slot s d ∩ union (three s m)) x y (both x (slot s d) (union (three s m)) xd (joint-union x xj))
                (both y (slot s d) (union (three s m)) yd (joint-union y yj)) n,
          ))

  p-joint : C.p ∈ joint (three s r)
  unfolding joint
  p-joint = ∈-∪ˡ C.p _ _ (∈-∪ˡ C.p _ _ (both C.p _ _ C.p_i C.p_j))

  q-joint : C.q ∈ joint (three s r)
  unfolding joint
  q-joint = ∈-∪ʳ C.q _ _ (both C.q _ _ C.q_i C.q_k)

  r-joint : C.r ∈ joint (three s r)
  unfolding joint
  r-joint = ∈-∪ˡ C.r _ _ (∈-∪ʳ C.r _ _ (both C.r _ _ C.r_j C.r_k))

  pub joint-one : m ≡ r
  joint-one =
      let w = u.isopen in
      same-merge o u
      (takes_part r.i C.p C.q w.livei (other (slot s r.j) C.p C.q C.p_j C.q_j) C.p_i C.q_i p-joint q-joint)
      (takes_part r.j C.p C.r w.livej (other (slot s r.i) C.p C.r C.p_i C.r_i) C.p_j C.r_j p-joint r-joint)
      (takes_part r.k C.q C.r w.livek (other (slot s r.i) C.q C.r C.q_i C.r_i) C.q_k C.r_k q-joint r-joint)

-- ---- all of them can be made one after another

-- the joint of an open merge
abbrev Joint : List ℕ → ℕ → Type 0
Joint s x = (m : Merge) × OpenUp s m × (joint (three s m) ≡ x)

-- no two the same
abbrev Apart : List ℕ → Type 0
Apart [] = Unit {0}
Apart (x ∷ l) = ((y : ℕ) → Among y l → y ≢ x) × Apart l

module _ (n : ℕ) (cs : List ℕ) (two : 2 ≤ n) (pairs : Pairs cs) (below : Below n cs) (fine : NotOver cs) where
  -- once m is made, another is still open, with the joint it had
  still : (p : List Merge) → Valid cs p → {m r : Merge} → OpenUp (final cs p) m → OpenUp (final cs p) r
      → joint (three (final cs p) r) ≢ joint (three (final cs p) m) → Joint (final cs (p ++ (m ∷ []))) (joint (three (final cs p) r))
  still p v {m} {r} o u ne =
      let s = final cs p in
      let t = moved s m r in
      let e = either_way cs pairs fine p v m r o.isopen u.isopen (λ parts.
      ne (ap (λ (x : Merge). joint (three s x)) (sym (same-merge o u ((parts r.i).1 (inl refl)) ((parts r.j).1 (inr (inl refl)))
      ((parts r.k).1 (inr (inr refl))))))) in
      let up = ascends t e.still.i≢j e.still.j≢k e.still.i≢k in
      subst (λ (l : List ℕ). Joint l (joint (three s r))) (sym (final-snoc p cs m)) (
        ascending t,
        record { isopen = open-ascending (put s m) t e.still; i<j = up.0; j<k = up.1 },
        joint-ascending (put s m) t ∙ e.same_joint,
      )

  many : (js : List ℕ) (p : List Merge) → Valid cs p → Apart js → ((x : ℕ) → Among x js → Joint (final cs p) x) → length js + length p + 2 ≤ n
  many [] p v a h = omega (arith, steps_most n cs two pairs below fine p v)
  many (x ∷ js) p v a h =
      let (m, o, e) = h x (inl refl) in
      omega (
        arith,
        many js (p ++ (m ∷ [])) (valid-snoc p cs m v o.isopen) a.1 (λ y i.
            let (r, u, f) = h y (inr i) in
            subst (Joint (final cs (p ++ (m ∷ [])))) f (still p v o u (λ z. a.0 y i (sym f ∙ z ∙ e)))),
        length-append p (m ∷ []),
      )

-- ---- by their numbers

-- x is the number of an open merge
abbrev pub KeyOf : List ℕ → ℕ → Type 0
KeyOf s x = (m : Merge) × OpenUp s m × (x ≡ key_of s m)

among-map : (f : ℕ → ℕ) (l : List ℕ) (y : ℕ) → Among y (map f l) → (z : ℕ) × Among z l × (y ≡ f z)
among-map f [] y h = elim h [ ]
among-map f (x ∷ l) y (inl e) = (x, inl refl, e)
among-map f (x ∷ l) y (inr h) = let w = among-map f l y h in (w.0, inr w.1, w.2)

apart-map : (f : ℕ → ℕ) {lo : ℕ} {l : List ℕ} → Up lo l → ((x y : ℕ) → Among x l → Among y l → f x ≡ f y → x ≡ y) → Apart (map f l)
apart-map f none h = tt
apart-map f (more {x = x} {l = l} g u) h = (
  (λ y a e. let (z, b, q) = among-map f l y a in omega (arith, up_least u z b, h z x (inr b) (inl refl) (sym q ∙ e))),
  apart-map f u (λ a b i j. h a b (inr i) (inr j)),
)

key-merge : {s : List ℕ} → length s ≤ 256 → {x : ℕ} (k : KeyOf s x) → merge_of x ≡ k.0
key-merge {s} short (m, o, e) =
    let w = o.isopen in
    ap merge_of e ∙ of-key s m (omega (arith, alive-lt s m.i w.livei)) (omega (arith, alive-lt s m.j w.livej))
    (omega (arith, alive-lt s m.k w.livek))

-- at most n-2 less the steps made
pub keys-few : (n : ℕ) (cs : List ℕ) → 2 ≤ n → Pairs cs → Below n cs → NotOver cs → (p : List Merge) → Valid cs p → length (final cs p) ≤ 256
    → {lo : ℕ} {l : List ℕ} → Up lo l → ((x : ℕ) → Among x l → KeyOf (final cs p) x) → length l + length p + 2 ≤ n
keys-few n cs two pairs below fine p v short {lo} {l} u h =
    omega (arith, many n cs two pairs below fine (map f l) p v (apart-map f u one) stands, length-map l f)
  where
    s : List ℕ
    s = final cs p

    f : ℕ → ℕ
    f x = joint (three s (merge_of x))

    its : (x : ℕ) (k : KeyOf s x) → joint (three s k.0) ≡ f x
    its x k = ap (λ (m : Merge). joint (three s m)) (sym (key-merge short k))

    one : (x y : ℕ) → Among x l → Among y l → f x ≡ f y → x ≡ y
    one x y i j e =
        let a = h x i in
        let b = h y j in
        let same = joint-one (fine_of cs pairs fine p v) a.1 b.1 (its x a ∙ e ∙ sym (its y b)) in
        a.2 ∙ ap (key_of s) same ∙ sym b.2

    stands : (y : ℕ) → Among y (map f l) → Joint s y
    stands y i =
        let (x, a, e) = among-map f l y i in
        let k = h x a in
        (k.0, k.1, its x k ∙ sym e)
