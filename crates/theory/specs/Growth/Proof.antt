-- A graph with more constraints that isn't over: every cluster of the old graph lies inside one final cluster of the new, and what it rests on stays
-- in that part. Assumes nothing.
use Rattle.std.specs.Prelude.{◌≡◌, ◌≢◌, ◌≤◌, ◌<◌}
use Rattle.theory.specs.Prelude.{refl, sym, ◌∙◌, subst, List, ℕ, ℕ_discrete, arith, ones, length}
use Rattle.theory.specs.Set.{◌∩◌, ◌⊑◌}
use Rattle.theory.specs.Set.Laws.{⊑_trans, ⊑⇒size≤, ∩-greatest}
use Rattle.theory.specs.Merge.{Merge, slot, Valid, final, Maximal}
use Rattle.theory.specs.Merge.Family.Invariant.{big}
use Rattle.theory.specs.Graph.{Graph}
use Rattle.theory.specs.Graph.Laws.{fine-finding, fine-not-over}
use Rattle.theory.specs.Demand.{Accepted}
use Rattle.theory.specs.Demand.Proof.{accepted-fine, accepted-good, demand3}
use Rattle.theory.specs.Demand.Laws.{grows}
use Rattle.theory.specs.Rests.Laws.{rests}
use Rattle.theory.specs.Growth.{More, GraphGrown, InsideOne, Numbered, RestsOn, Whole, GraphWhole}
use Rattle.theory.specs.Growth.Laws.{more-among, more-pairs, more-below, more-fine, more-numbered, numbered-lt, numbered-slot}

module _ {g h : Graph} (b : Accepted h) (w : GraphGrown g h) where
  -- the old graph is accepted, and isn't over
  pub grown-accepted : Accepted g
  grown-accepted =
      let pairs = more-pairs w.more b.pairs in
      let below = more-below w.more g.n (rw w.count at b.below) in
      record {
        two = rw w.count at b.two;
        pairs = pairs;
        below = below;
        not_over = fine-not-over g (fine-finding g pairs below (more-fine w.more (accepted-fine b)));
      }

  -- after any merges of the old graph, and at the end of every maximal list of the new
  module _ (p q : List Merge) (v : Valid g.clusters p) (m : Maximal h.clusters q) where
    abbrev olds : List ℕ
    olds = final g.clusters p

    abbrev news : List ℕ
    news = final h.clusters q

    two-or-more : (n : ℕ) → slot olds n ≢ 0 → 2 ≤ ones (slot olds n)
    two-or-more n l =
        big g.clusters (accepted-fine grown-accepted) (accepted-good grown-accepted p v).0 (slot olds n) (n, refl, l)

    -- two new clusters that hold it would share two elements
    one_at_most : (n i k : ℕ) → slot olds n ≢ 0 → slot news i ≢ 0 → slot news k ≢ 0 → slot olds n ⊑ slot news i → slot olds n ⊑ slot news k → k ≡ i
    one_at_most n i k l li lk a c = elim (ℕ_discrete k i) [
      | yes e ↦ e
      | no ne ↦ absurd (omega (
        arith,
        two-or-more n l,
        ⊑⇒size≤ (slot news k ∩ slot news i) (slot olds n) (∩-greatest c a),
        ((demand3 h b).counts q m.valid).share k i ne lk li,
      ))
    ]

    inside : (n : ℕ) → slot olds n ≢ 0 → InsideOne news (slot olds n)
    inside n l =
        let r = grows b grown-accepted (more-among w.more) p q v m (slot olds n) (n, refl, l) in
        let k = r.1.0 in
        let lives : slot news k ≢ 0 = λ e. r.1.2 (sym r.1.1 ∙ e) in
        let holds : slot olds n ⊑ slot news k = subst (λ (y : ℕ). slot olds n ⊑ y) (sym r.1.1) r.2 in
        record { number = k; lives = lives; holds = holds; only = λ i li c. one_at_most n k i l lives li holds c }

    -- constraints of any form, on both sides: those that are the same are the same set
    module _ {A : Type 0} {old new : List A} (more : More old new) (long : length old ≡ length g.clusters)
        (longer : length new ≡ length h.clusters)
        (sets : (i j : ℕ) (c : A) → Numbered old i c → Numbered new j c → slot h.clusters j ≡ slot g.clusters i) where
      kept : (n k : ℕ) → slot olds n ≢ 0 → slot news k ≢ 0 → slot olds n ⊑ slot news k → (c : A) → RestsOn old p n c → RestsOn new q k c
      kept n k ln lk a c r =
          let j = more-numbered more r.number c r.is in
          let o = ((rests g.clusters grown-accepted.pairs (accepted-fine grown-accepted) p v).exactly n ln r.number).0 in
          let within = ⊑_trans (o (rw long at r.carries)).1 a in
          let l : j.0 < length h.clusters = omega (arith, numbered-lt new j.0 c j.1) in
          let e = sets r.number j.0 c r.is j.1 in
          record {
            number = j.0;
            is = j.1;
            carries =
                rw longer (((rests h.clusters b.pairs (accepted-fine b) q m.valid).exactly k lk j.0).1
                (l, subst (λ (x : ℕ). x ⊑ slot news k) (sym e) within));
          }

      pub whole : Whole old new g.clusters h.clusters p q
      whole = record { inside = inside; rests = kept }

    pub grown-whole : GraphWhole g h p q
    grown-whole =
        whole w.more refl refl
        (λ i j c x y. numbered-slot h.clusters j c y ∙ sym (numbered-slot g.clusters i c x))
