-- The search is ready at the start of a sheet that is not over, and again after each merge. Assumes nothing.
use Rattle.std.specs.Prelude.{◌≡◌, ◌≢◌, ◌+◌, ◌^◌, ◌≤◌, ◌<◌}
use Rattle.theory.specs.Prelude.{refl, sym, ap, ◌∙◌, List, ℕ, arith, dec_lt, length, List·getD-eq-default, pow-lt}
use Rattle.theory.specs.Set.{◌∈◌, at, full}
use Rattle.theory.specs.Set.Laws.{at_zero, at-le, at_same, below-full, filled}
use Rattle.theory.specs.Set.Lowest.{at-below}
use Rattle.theory.specs.Constraints.{Pairs, NotOver}
use Rattle.theory.specs.Merge.{slot, Merge, merge, OpenAt, three, put, Valid, final}
use Rattle.theory.specs.Merge.Numbered.{length-put, merge-at, in-part, good-final, start-good, start-distinct}
use Rattle.theory.specs.Merge.Family.{Distinct}
use Rattle.theory.specs.Merge.Family.Invariant.{big, share, outside-share}
use Rattle.search.specs.State.{linked, holder, waits, Fine, Ready, Begun, Renewed}
use Rattle.search.specs.State.Step.{rim-put, links-put, holds-put, todo-put}

-- ---- the full rim

-- every element below k is in the full set
pub in-full : (k x : ℕ) → x < k → x ∈ full k
in-full k x l = omega (arith, (below-full k (2 ^ x) (pow-lt l)).le x, at_same x, at-le x (full k))

pub all_in_lem : (x : ℕ) → x < 64 → x ∈ 18446744073709551615
unfolding full
all_in_lem x l = in-full 64 x l

pub all-low : (x : ℕ) → x ∈ 18446744073709551615 → x < 64
all-low x e = at-below 64 18446744073709551615 x (omega arith) e

-- ---- a sheet that is not over

pub fine_of : (cs : List ℕ) → Pairs cs → NotOver cs → (p : List Merge) → Valid cs p → Fine (final cs p)
unfolding Distinct
fine_of cs pairs fine p v =
    let g = good-final cs fine p cs (start-good cs pairs fine) (start-distinct cs pairs fine) v in
    let s = final cs p in
    record {
      apart = record { share = λ i j n li lj. share cs fine g.0 (slot s i) (slot s j) (i, refl, li) (j, refl, lj) (λ e. n (g.1 i j li e)) };
      later = λ m o d none live.
          outside-share cs fine g.0 (three s m) (merge-at s m o) (slot s d) (d, refl, live) (λ i. none (in-part s g.1 m d live i));
      big = λ c live. big cs fine g.0 (slot s c) (c, refl, live);
    }

-- ---- at the start

-- the elements of the clusters lie below 64
pub begun-low : {s links hold : List ℕ} {e : ℕ} → Begun s e links hold → (c p : ℕ) → c < e → p ∈ slot s c → p < 64
begun-low {s} {links} b c p l e = below (dec_lt p 64)
  where
    below : Dec (p < 64) → p < 64
    below (yes h) = h
    below (no n) =
        let none : linked links p ≡ 0 = List·getD-eq-default links 0 (omega (arith, b.links_long)) in
        absurd (omega (arith, b.every c p p l e e, ap (at p) none, at_zero p))

pub ready-start : {s : List ℕ} → Fine s → {used : ℕ} {links hold todo : List ℕ} → used ≤ 192 → ((n : ℕ) → used ≤ n → slot s n ≡ 0)
    → Begun s used links hold → ((c : ℕ) → c < used → waits todo c ≡ 1) → Ready s used 18446744073709551615 links hold todo
ready-start {s} fine {used} {links} {hold} room beyond b waiting = record {
  fine = fine;
  beyond = beyond;
  rims = record { shared = λ c d p n pc pd. all_in_lem p (begun-low b c p (lives c p pc) pc) };
  linking = record { only = b.only; every = λ c p r i n pc rc. b.every c p r (lives c p pc) pc rc };
  holding = record { is = λ p c i l. holds p c (all-low p i) l (dec_lt c used) };
  queued = record { waiting = λ i j k o. waiting i (lives_at i o.livei) };
}
  where
    lives_at : (c : ℕ) → slot s c ≢ 0 → c < used
    lives_at c n = below (dec_lt c used)
      where
        below : Dec (c < used) → c < used
        below (yes h) = h
        below (no m) = absurd (n (beyond c (omega arith)))

    lives : (c p : ℕ) → p ∈ slot s c → c < used
    lives c p e = lives_at c (filled (slot s c) p e)

    holds : (p c : ℕ) → p < 64 → c < 192 → Dec (c < used) → holder hold p c ≡ at p (slot s c)
    holds p c l m (yes h) = b.holding p c l h
    holds p c l m (no n) = b.free p c l m (omega arith) ∙ sym (ap (at p) (beyond c (omega arith)) ∙ at_zero p)

-- ---- after a merge

pub ready-put : {s : List ℕ} {rim : ℕ} {links hold todo : List ℕ} → Ready s (length s) rim links hold todo → {m : Merge} → OpenAt s m → length s < 192
    → ((p : ℕ) → p ∈ rim → p < 64) → Fine (put s m) → {rim' : ℕ} {links' hold' todo' : List ℕ}
    → Renewed links hold todo (length s) rim m (three s m) links' hold' todo' rim' → Ready (put s m) (length s + 1) rim' links' hold' todo'
ready-put {s} r {m} o room low fine' g = record {
  fine = fine';
  beyond = λ n l. List·getD-eq-default (put s m) 0 (omega (arith, length-put s m));
  rims = rim-put r.fine o r.rims r.linking g.gone;
  linking = links-put r.fine o r.rims r.linking g.gone.less g.linking;
  holding = holds-put r.fine o r.rims r.linking low g.gone.less r.holding g.holding;
  queued = todo-put r.fine o r.rims r.linking low room r.holding g.holding r.queued g.reaches g.nears g.calling;
}

-- ---- it goes by what stands in the slots

pub open-same : (a b : List ℕ) → ((n : ℕ) → slot a n ≡ slot b n) → (m : Merge) → OpenAt a m → OpenAt b m
open-same a b same m o = record {
  i≢j = o.i≢j;
  j≢k = o.j≢k;
  i≢k = o.i≢k;
  livei = λ z. o.livei (same m.i ∙ z);
  livej = λ z. o.livej (same m.j ∙ z);
  livek = λ z. o.livek (same m.k ∙ z);
  open3 = rw (← same m.i, ← same m.j, ← same m.k) o.open3;
}

module _ {a b : List ℕ} (same : (n : ℕ) → slot a n ≡ slot b n) where
  pub fine-same : Fine a → Fine b
  fine-same r = record {
    apart = record {
      share = λ i j n hi hj. rw (← same i, ← same j)
          (r.apart.share i j n (λ z. hi (sym (same i) ∙ z)) (λ z. hj (sym (same j) ∙ z)));
    };
    later = λ m o d none live. rw (← same d, ← same m.i, ← same m.j, ← same m.k)
        (r.later m (open-same b a (λ n. sym (same n)) m o) d none (λ z. live (sym (same d) ∙ z)));
    big = λ c live. rw (← same c) (r.big c (λ z. live (sym (same c) ∙ z)));
  }

  pub ready-same : {used rim : ℕ} {links hold todo : List ℕ} → Ready a used rim links hold todo → Ready b used rim links hold todo
  ready-same r = record {
    fine = fine-same r.fine;
    beyond = λ n l. sym (same n) ∙ r.beyond n l;
    rims = record { shared = λ c d p n pc pd. r.rims.shared c d p n (ap (at p) (same c) ∙ pc) (ap (at p) (same d) ∙ pd) };
    linking = record {
      only = λ p q e. let c = r.linking.only p q e in (c.0, ap (at p) (sym (same c.0)) ∙ c.1, ap (at q) (sym (same c.0)) ∙ c.2);
      every = λ c p q i n pc qc. r.linking.every c p q i n (ap (at p) (same c) ∙ pc) (ap (at q) (same c) ∙ qc);
    };
    holding = record { is = λ p c i l. r.holding.is p c i l ∙ ap (at p) (same c) };
    queued = record { waiting = λ i j k o. r.queued.waiting i j k (open-same b a (λ n. sym (same n)) (merge i j k) o) };
  }
