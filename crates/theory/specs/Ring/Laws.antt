-- On a sheet that is not over, stripping leaves lines if and only if there is a ring of four or more final clusters; every order of merging has the
-- same rings; and there is none where fewer than four lines, or one cluster, are. Assumes nothing.
use Rattle.std.specs.Prelude.{◌≡◌, ◌≢◌, ◌↔◌, ◌≤◌, ◌<◌}
use Rattle.theory.specs.Prelude.{refl, sym, ap, ◌∙◌, subst, Bool, true, false, List, ℕ, zero, suc, arith, dec_le}
use Rattle.theory.specs.Prelude.{ℕ_discrete, ones, T, set, get_or-set_other}
use Rattle.theory.specs.Tests.{iff-same, ne_test, test-ne}
use Rattle.theory.specs.Set.{◌∈◌, ◌∩◌, ◌⊑◌, at}
use Rattle.theory.specs.Set.Laws.{at_zero, at-le, size_none, two_in, both, counted}
use Rattle.theory.specs.Constraints.{Pairs, NotOver, Perm}
use Rattle.theory.specs.Constraints.Laws.{pairs-perm, fine-perm}
use Rattle.theory.specs.Merge.{slot, Three, Open, Merge, live, final, Maximal, living, left}
use Rattle.theory.specs.Merge.Count.{total-set, living-one}
use Rattle.theory.specs.Merge.Family.{Good, Distinct, EndedIn}
use Rattle.theory.specs.Merge.Family.Invariant.{share}
use Rattle.theory.specs.Merge.Numbered.{start-good, start-distinct, good-final, as-ended, every-order}
use Rattle.theory.specs.Ring.{Ring, AngleRing, stripped, ringed}
use Rattle.theory.specs.Ring.Strip.{stripped-sub, stripped-ends, rich, ring-stays}
use Rattle.theory.specs.Ring.Walk.{comes-round, seen_most}

-- fewer lines, or the same clusters in another list
ring-more : {s r : List ℕ} {l k count : ℕ} → ((x : ℕ) → live s x → live r x) → l ⊑ k → Ring s l count → Ring r k count
ring-more {k = k} h sub r = record {
  cluster = r.cluster;
  line = r.line;
  lives = λ i o. h (r.cluster i) (r.lives i o);
  is_a_line = λ i o. omega (arith, sub.le (r.line i), r.is_a_line i o, at-le (r.line i) k);
  leaves = r.leaves;
  enters = r.enters;
  closed = r.closed;
  clusters_differ = r.clusters_differ;
  lines_differ = r.lines_differ;
}

-- a ring has as many lines as clusters
pub ring-lines : {s : List ℕ} {lines count : ℕ} → Ring s lines count → count ≤ ones lines
ring-lines {lines = lines} {count = count} r = seen_most count r.line lines r.lines_differ r.is_a_line

-- two clusters that share two lines share too much, and three in a ring are open: what comes round is a ring of four or more
module _ (cs : List ℕ) (fine : NotOver cs) {s : List ℕ} (g : Good cs (live s)) (ended : EndedIn (live s)) {lines count : ℕ}
    (r : Ring s lines count) where
  abbrev c : ℕ → ℕ
  c = r.cluster

  abbrev l : ℕ → ℕ
  l = r.line

  shared : (i j : ℕ) → i < j → j < count → ones (c i ∩ c j) ≤ 1
  shared i j h k = share cs fine g (c i) (c j) (r.lives i (omega arith)) (r.lives j k) (r.clusters_differ i j h k)

  not-two : count ≡ 2 → ⊥
  not-two e =
      let end : c 2 ≡ c 0 = ap c (sym e) ∙ r.closed in
      omega (
        arith,
        two_in (c 0 ∩ c 1) (l 0) (l 1) (both (l 0) (c 0) (c 1) (r.leaves 0 (omega arith)) (r.enters 0 (omega arith)))
            (both (l 1) (c 0) (c 1) (subst (λ (z : ℕ). l 1 ∈ z) end (r.enters 1 (omega arith))) (r.leaves 1 (omega arith)))
            (r.lines_differ 0 1 (omega arith) (omega arith)),
        shared 0 1 (omega arith) (omega arith),
      )

  not_three : count ≡ 3 → ⊥
  unfolding EndedIn
  not_three e = ended t (record { ina = r.lives 0 h0; inb = r.lives 1 h1; inc = r.lives 2 h2; open3 = opened })
    where
      h0 : 0 < count
      h0 = omega arith

      h1 : 1 < count
      h1 = omega arith

      h2 : 2 < count
      h2 = omega arith

      t : Three
      t = record { a = c 0; b = c 1; c = c 2 }

      x : l 0 ∈ c 0 ∩ c 1
      x = both (l 0) (c 0) (c 1) (r.leaves 0 h0) (r.enters 0 h0)

      y : l 1 ∈ c 1 ∩ c 2
      y = both (l 1) (c 1) (c 2) (r.leaves 1 h1) (r.enters 1 h1)

      z : l 2 ∈ c 0 ∩ c 2
      z = both (l 2) (c 0) (c 2) (subst (λ (w : ℕ). l 2 ∈ w) (ap c (sym e) ∙ r.closed) (r.enters 2 h2)) (r.leaves 2 h2)

      clash : (a b p q : ℕ) → p ∈ a → q ∈ b → p ≢ q → ones a ≤ 1 → a ≡ b → ⊥
      clash a b p q k m n o w = omega (arith, two_in a p q k (subst (λ (v : ℕ). q ∈ v) (sym w) m) n)

      ab : ones (c 0 ∩ c 1) ≤ 1
      ab = shared 0 1 (omega arith) h1

      bc : ones (c 1 ∩ c 2) ≤ 1
      bc = shared 1 2 (omega arith) h2

      ac : ones (c 0 ∩ c 2) ≤ 1
      ac = shared 0 2 (omega arith) h2

      opened : Open (c 0) (c 1) (c 2)
      opened = record {
        ab = omega (arith, ab, counted (c 0 ∩ c 1) (l 0) x);
        bc = omega (arith, bc, counted (c 1 ∩ c 2) (l 1) y);
        ac = omega (arith, ac, counted (c 0 ∩ c 2) (l 2) z);
        ab≢bc = clash (c 0 ∩ c 1) (c 1 ∩ c 2) (l 0) (l 1) x y (r.lines_differ 0 1 (omega arith) h1) ab;
        bc≢ac = clash (c 1 ∩ c 2) (c 0 ∩ c 2) (l 1) (l 2) y z (r.lines_differ 1 2 (omega arith) h2) bc;
        ab≢ac = clash (c 0 ∩ c 1) (c 0 ∩ c 2) (l 0) (l 2) x z (r.lines_differ 0 2 (omega arith) h2) ab;
      }

  four : 2 ≤ count → 4 ≤ count
  four h = by (dec_le 4 count) (ℕ_discrete count 2) (ℕ_discrete count 3)
    where
      by : Dec (4 ≤ count) → Dec (count ≡ 2) → Dec (count ≡ 3) → 4 ≤ count
      by (yes k) p q = k
      by (no n) (yes p) q = absurd (not-two p)
      by (no n) (no m) (yes q) = absurd (not_three q)
      by (no n) (no m) (no k) = absurd (omega (arith, m, k))

-- ---- the test

-- a ring of two or more passes it, whatever the clusters
pub ring-ringed : {s : List ℕ} {lines count : ℕ} → 2 ≤ count → Ring s lines count → T (ringed lines s)
unfolding ringed
ring-ringed {s = s} {lines = lines} {count = count} many r =
    ne_test (stripped (ones lines) s lines) 0
    (λ z. omega (
      arith,
      ring-stays s lines count r many (ones lines) lines r.is_a_line 0 (omega arith),
      ap (at (r.line 0)) z,
      at_zero (r.line 0),
    ))

-- what passes it has a ring of two or more
pub ringed-round : (s : List ℕ) → Distinct s → (lines : ℕ) → T (ringed lines s) → (count : ℕ) × (2 ≤ count) × Ring s lines count
unfolding ringed
ringed-round s d lines t =
    let k = stripped (ones lines) s lines in
    let w = comes-round s k (rich s d k (stripped-ends (ones lines) s lines (omega arith))) (some_left (ones k) refl) in
    (w.0, w.1, ring-more (λ x p. p) (stripped-sub (ones lines) s lines) w.2)
  where
    some_left : (m : ℕ) → ones (stripped (ones lines) s lines) ≡ m → 1 ≤ ones (stripped (ones lines) s lines)
    some_left zero q = absurd (test-ne (stripped (ones lines) s lines) 0 t (size_none (stripped (ones lines) s lines) q))
    some_left (suc m) q = omega arith

-- for the final clusters of every maximal list of merges of a sheet that is not over, it is right
module _ (cs : List ℕ) (pairs : Pairs cs) (fine : NotOver cs) (p : List Merge) (v : Maximal cs p) where
  pub ringed-is : (lines : ℕ) → T (ringed lines (final cs p)) ↔ AngleRing (final cs p) lines
  ringed-is lines =
      let g = good-final cs fine p cs (start-good cs pairs fine) (start-distinct cs pairs fine) v.valid in (
        λ t.
            let w = ringed-round (final cs p) g.1 lines t in
            (w.0, four cs fine g.0 (as-ended cs fine (final cs p) g.0 v.ended) w.2 w.1, w.2),
        λ (n, m, r). ring-ringed (omega arith) r,
      )

-- the order of merging, and of the constraints, has no influence
pub same-ringed : (cs : List ℕ) → Pairs cs → NotOver cs → (ds : List ℕ) → Perm cs ds → (p q : List Merge) → Maximal cs p → Maximal ds q
    → (lines : ℕ) → ringed lines (final cs p) ≡ ringed lines (final ds q)
same-ringed cs pairs fine ds r p q v w lines =
    let a = ringed-is cs pairs fine p v lines in
    let b = ringed-is ds (pairs-perm r pairs) (fine-perm r fine) q w lines in
    let f = (every-order cs pairs fine ds r p q v w).finals in
    iff-same (ringed lines (final cs p)) (ringed lines (final ds q))
    (λ t. let (n, m, k) = a.0 t in b.1 (n, m, ring-more (λ x. (f x).0) (record { le = λ x. omega arith }) k))
    (λ t. let (n, m, k) = b.0 t in a.1 (n, m, ring-more (λ x. (f x).1) (record { le = λ x. omega arith }) k))

-- ---- where there is none

not-ringed : (lines : ℕ) (s : List ℕ) → (T (ringed lines s) → ⊥) → ringed lines s ≡ false
not-ringed lines s h = by (ringed lines s) h
  where
    by : (b : Bool) → (T b → ⊥) → b ≡ false
    by true n = absurd (n tt)
    by false n = refl

-- fewer than four lines
pub few-ringed : (cs : List ℕ) → Pairs cs → NotOver cs → (p : List Merge) → Maximal cs p → (lines : ℕ) → ones lines ≤ 3
    → ringed lines (final cs p) ≡ false
few-ringed cs pairs fine p v lines few =
    not-ringed lines (final cs p) (λ t. let (n, m, r) = (ringed-is cs pairs fine p v lines).0 t in omega (arith, ring-lines r))

-- one cluster left
two-left : (s : List ℕ) (i j : ℕ) → i ≢ j → slot s i ≢ 0 → slot s j ≢ 0 → 2 ≤ left s
unfolding left
two-left s i j ne a b =
    omega (
      arith,
      total-set living refl s i,
      total-set living refl (set s i 0) j,
      living-one (slot s i) a,
      ap living (get_or-set_other s i j 0 0 (λ e. ne (sym e))),
      living-one (slot s j) b,
    )

pub one-ringed : (cs : List ℕ) → Pairs cs → NotOver cs → (p : List Merge) → Maximal cs p → (lines : ℕ) → left (final cs p) ≡ 1
    → ringed lines (final cs p) ≡ false
one-ringed cs pairs fine p v lines one =
    not-ringed lines (final cs p)
    (λ t.
    let (n, m, r) = (ringed-is cs pairs fine p v lines).0 t in
    let a = r.lives 0 (omega arith) in
    let b = r.lives 1 (omega arith) in
    omega (
      arith,
      two-left (final cs p) a.0 b.0
          (λ e. r.clusters_differ 0 1 (omega arith) (omega arith) (sym a.1 ∙ ap (slot (final cs p)) e ∙ b.1))
          (λ z. a.2 (sym a.1 ∙ z)) (λ z. b.2 (sym b.1 ∙ z)),
    ))
