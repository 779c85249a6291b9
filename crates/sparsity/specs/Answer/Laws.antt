-- Laws of the answer: the search from its start, one constraint more that uses a freedom or finds none, a constraint that does not lie in u.
-- Assumes nothing.
use Rattle.std.specs.Prelude.{◌≡◌, ◌≢◌, ◌+◌, ◌*◌, ◌^◌, ◌≤◌, ◌<◌, Ok, Err}
use Rattle.theory.specs.Prelude.{refl, sym, ap, ap₂, ◌∙◌, subst, inl, inr, List, [], ℕ, zero, suc, le_refl, arith, ones}
use Rattle.theory.specs.Prelude.{length, take, get_or}
use Rattle.theory.specs.Set.{◌∈◌, ◌∩◌, ◌⊑◌, at}
use Rattle.theory.specs.Set.Laws.{at_zero, at-∩, ⊑_trans, a∩b⊑a, a∩b⊑b, two_in}
use Rattle.theory.specs.Constraints.{pair, has, carried, NotOver, Below}
use Rattle.theory.specs.Constraints.Laws.{inside, outside, has-dec, pair-in, pair_ends, has-pair, pair_comm}
use Rattle.theory.specs.Over.{IsOver, Tight, Smallest, FirstOver, over_of}
use Rattle.theory.specs.Over.Laws.{carried-next, tight-over, within-smallest, finds-over_of}
use Rattle.theory.specs.Set.Less.{sub-below}
use Rattle.theory.specs.Near.{Simple, Standing}
use Rattle.theory.specs.Near.Laws.{standing-item, standing-two, pair_is}
use Rattle.theory.specs.Finding.{Fine, First}
use Rattle.sparsity.specs.Freedoms.{entry, same, free, frees, Table, Balanced, Closed, FreeBelow}
use Rattle.sparsity.specs.Freedoms.Sums.{free-count}
use Rattle.sparsity.specs.Freedoms.Laws.{free-table, free-closed, free-balanced, kept-le, closed-kept, kept-closed, frees-two}
use Rattle.sparsity.specs.Freedoms.Laws.{frees-only}
use Rattle.sparsity.specs.Freedoms.Stores.{balanced-outside, balanced-placed, stored-table, stored-closed}
use Rattle.sparsity.specs.Reach.{Rebalanced, told, Gathered, Placed}
use Rattle.peeling.specs.Core.{Core}
use Rattle.peeling.specs.Hard.{Noted, hard, easy}
use Rattle.sparsity.specs.Answer.{EndsAt, Using, Ready, More}

-- ---- the start

pub free-using : (u : ℕ) (own : List (List ℕ)) → u < 2 ^ 64 → FreeBelow 64 own → Using [] u own
unfolding NotOver carried
free-using u own l f = record {
  table = free-table own f;
  closed = free-closed own f u l;
  balanced = free-balanced own f u;
  fine = λ x b. omega arith;
}

-- what is needed is 1 or 4
noted-most : {cs : List ℕ} {c need : ℕ} → Noted cs c 1 need → need ≤ 4
noted-most hard = le_refl 4
noted-most (easy h) = omega arith

noted-some : {cs : List ℕ} {c need : ℕ} → Noted cs c 1 need → 0 < need
noted-some hard = omega arith
noted-some (easy h) = omega arith

pub ready-some : {cs old : List ℕ} {u c need a b : ℕ} {own : List (List ℕ)} → Noted cs c 1 need → Ready old u need a b own
    → 0 < free own a + free own b
ready-some w k = omega (arith, noted-some w, k.enough)

-- a and b, which are i and j, have as many as are needed, as the code counts them
pub ready-now : {old : List ℕ} {own : List (List ℕ)} {u need a b i j p q : ℕ} → Using old u own → i ≡ a → j ≡ b
    → p ≡ same (entry own i 0) a + same (entry own i 1) a → q ≡ same (entry own j 0) b + same (entry own j 1) b → need ≤ p + q
    → Ready old u need a b own
ready-now {own = own} uses ei ej ep eq l = record { uses = uses; enough = omega (arith, free-count own ei ep, free-count own ej eq) }

-- ---- what is told beside a table

pub told-none : {t : List (List ℕ)} {over : ℕ} → over ≡ 0 → told t over ≡ Ok t
told-none {t} e = ap (told t) e

pub told-set : {t : List (List ℕ)} {over : ℕ} → over ≢ 0 → told t over ≡ Err (t, over)
told-set {over = zero} n = absurd (n refl)
told-set {over = suc k} n = refl

-- a set with an element
pub some-set : (a : ℕ) {set : ℕ} → a ∈ set → set ≢ 0
some-set a h z = omega (arith, ap (at a) z, at_zero a, h)

-- ---- one constraint more, between a and b

module _ {old new : List ℕ} {u a b : ℕ} (ends : (a < 64) × (b < 64) × (a ≢ b)) (more : More old new (pair a b) u) where
  abbrev m : ℕ
  m = pair a b

  low : (x : ℕ) → x ⊑ u → x < 2 ^ 64
  low x h = sub-below 64 x u h more.small

  -- ---- a constraint that uses a freedom

  -- once it is known to leave the list not over and there is a free entry for it
  module _ {own fresh : List (List ℕ)} (table : Table own) (closed : Closed own u) (balanced : Balanced old u own) (p : Placed own a b fresh) where
    from-to : (m ≡ pair p.from p.to) × (p.from < 64) × (p.from ≢ p.to) × (p.to ∈ u) × (p.to < 64)
    from-to = let i : (a ∈ u) × (b ∈ u) = pair_ends a b u more.inside in elim p.ends [
      | inl q ↦ (
        ap₂ pair (sym q.0) (sym q.1),
        omega (arith, ends.0, q.0),
        λ z. ends.2 (sym q.0 ∙ z ∙ q.1),
        ap (λ (z : ℕ). at z u) q.1 ∙ i.1,
        omega (arith, ends.1, q.1),
      )
      | inr q ↦ (
        pair_comm a b ∙ ap₂ pair (sym q.0) (sym q.1),
        omega (arith, ends.1, q.0),
        λ z. ends.2 (sym q.1 ∙ sym z ∙ q.0),
        ap (λ (z : ℕ). at z u) q.1 ∙ i.0,
        omega (arith, ends.0, q.1),
      )
    ]

    pub using-placed : NotOver new → Using new u fresh
    using-placed right =
        let o : (m ≡ pair p.from p.to) × (p.from < 64) × (p.from ≢ p.to) × (p.to ∈ u) × (p.to < 64) = from-to in
        subst (Using new u) (sym p.stores) (record {
          table = stored-table own table p.from p.slot p.to o.1 p.two o.4;
          closed = stored-closed own table p.from p.slot p.to o.1 p.two u (λ q. o.3) closed;
          balanced =
              balanced-placed own table p.from p.to o.1 o.2 old new m u balanced more.carries
              (λ x. ap (λ (i : ℕ). has i x) o.0 ∙ has-pair p.from p.to x) p.slot p.two p.was_free;
          fine = right;
        })

  -- ---- whether it leaves the list not over

  module _ {own : List (List ℕ)} (uses : Using old u own) where
    bound : (x : ℕ) → x ⊑ u → carried old x + frees own x ≤ 2 * ones x
    bound x h = omega (arith, uses.balanced.all x h, kept-le own x (low x h))

    -- four free entries
    four-fine : 4 ≤ free own a + free own b → NotOver new
    unfolding NotOver
    four-fine four = more.fine (λ x h two. elim (has-dec m x) [
      | outside n q ↦ omega (arith, more.carries x, uses.fine x two)
      | inside i q ↦ let o = pair_ends a b x i in omega (arith, more.carries x, bound x h, frees-two own x (low x h) a b ends.2 o.0 o.1)
    ])

    -- fewer, and no more can be had: the list with it is over, and what is reached is the smallest set
    module _ (few : free own a + free own b ≤ 3) (r : ℕ) (ra : a ∈ r) (rb : b ∈ r) (rc : Closed own r)
        (none : (x : ℕ) → x ∈ r → x ≢ a → x ≢ b → free own x ≡ 0)
        (least : (w : ℕ) → a ∈ w → b ∈ w → Closed own w → r ⊑ w) where
      within : r ⊑ u
      within = let o = pair_ends a b u more.inside in least u o.0 o.1 uses.closed

      two-r : 2 ≤ ones r
      two-r = two_in r a b ra rb ends.2

      exact : (carried old r + 3 ≡ 2 * ones r) × (free own a + free own b ≡ 3)
      unfolding NotOver
      exact =
          let h = low r within in
          let k = closed-kept own r h rc in
          let f = frees-only own r h a b ends.2 ra rb none in
          let o = uses.balanced.all r within in
          let z = uses.fine r two-r in
          (omega arith, omega arith)

      reached-tight : Tight old m r
      reached-tight = record { holds = pair-in a b r ra rb; exact = exact.0 }

      reached-smallest : Smallest old m r
      reached-smallest =
          within-smallest old m r reached-tight (λ y t. ⊑_trans (least (y ∩ u) (first-in y t) (second-in y t) (let h = low (y ∩ u) (a∩b⊑b y u) in
          kept-closed own (y ∩ u) h
          (omega (
            arith,
            t.exact,
            more.cut y,
            uses.balanced.all (y ∩ u) (a∩b⊑b y u),
            frees-two own (y ∩ u) h a b ends.2 (first-in y t) (second-in y t),
            exact.1,
          )))) (a∩b⊑a y u))
        where
          first-in : (y : ℕ) → Tight old m y → a ∈ y ∩ u
          first-in y t = omega (arith, at-∩ a y u, (pair_ends a b y t.holds).0, (pair_ends a b u more.inside).0)

          second-in : (y : ℕ) → Tight old m y → b ∈ y ∩ u
          second-in y t = omega (arith, at-∩ b y u, (pair_ends a b y t.holds).1, (pair_ends a b u more.inside).1)

      pub reached-over : IsOver new × Smallest old m r
      reached-over = (tight-over old new m more.carries uses.fine r two-r reached-tight, reached-smallest)

  -- ---- one more constraint, by the entries that the code gathers

  module _ {own : List (List ℕ)} (uses : Using old u own) where
    pub using-again : {t : List (List ℕ)} → Rebalanced own a b t → Using old u t
    using-again g = let o = pair_ends a b u more.inside in record {
      table = g.table;
      closed = g.closed u o.0 o.1 uses.closed;
      balanced = g.balanced old u uses.balanced;
      fine = uses.fine;
    }

    pub took-four : {t fresh : List (List ℕ)} → Gathered own 4 a b (Ok t) → Placed t a b fresh → Using new u fresh
    took-four g p = let k = using-again g.0 in using-placed k.table k.closed k.balanced p (four-fine k g.1)

    -- as many as are needed are not to be had
    pub gathered-over : {need over : ℕ} {t : List (List ℕ)} → need ≤ 4 → Gathered own need a b (Err (t, over))
        → Using old u t × IsOver new × Smallest old m over
    gathered-over {over = over} l g =
        let s = g.2 in
        let k = using-again g.0 in
        let o = reached-over k (omega (arith, g.1)) over s.first s.second s.closed s.none s.least in (k, o.0, o.1)

-- ---- constraint c

-- one that does not lie in u
pub using-skip : {cs : List ℕ} {u : ℕ} (core : Core cs u) (c : ℕ) → c < length cs → (get_or cs c 0 ⊑ u → ⊥) → {own : List (List ℕ)} → Using (take c
    cs) u own
    → Using (take (suc c) cs) u own
unfolding NotOver
using-skip {cs} {u} core c lc out {own} k =
    let more : (x : ℕ) → carried (take (suc c) cs) x ≡ carried (take c cs) x + has (get_or cs c 0) x = λ x. carried-next cs c x lc in
    record {
      table = k.table;
      closed = k.closed;
      balanced = balanced-outside (take c cs) (take (suc c) cs) (get_or cs c 0) u own k.balanced more none;
      fine = core.fine (suc c) (λ x h two. omega (arith, more x, none x h, k.fine x two));
    }
  where
    none : (x : ℕ) → x ⊑ u → has (get_or cs c 0) x ≡ 0
    none x h = elim (has-dec (get_or cs c 0) x) [ inside i q ↦ absurd (out (⊑_trans i h)) | outside n q ↦ q ]

-- one between a and b that does
module _ {cs : List ℕ} {u : ℕ} (core : Core cs u) (c : ℕ) (lc : c < length cs) {a b : ℕ} (ends : EndsAt cs c a b) (here : get_or cs c 0 ⊑ u) where
  abbrev step : ℕ
  step = pair a b

  apart : (a < 64) × (b < 64) × (a ≢ b)
  apart = (ends.low, ends.high, ends.apart)

  more-at : More (take c cs) (take (suc c) cs) step u
  more-at = record {
    small = core.small;
    inside = subst (λ (z : ℕ). z ⊑ u) ends.is here;
    carries = λ x. rw (← ends.is) (carried-next cs c x lc);
    fine = core.fine (suc c);
    cut = core.cut c;
  }

  -- as many free entries as are needed could be had
  pub ready-gathered : {own t : List (List ℕ)} {need : ℕ} → Using (take c cs) u own → Gathered own need a b (Ok t) → Ready (take c cs) u need a b t
  ready-gathered uses g = record { uses = using-again apart more-at uses g.0; enough = g.1 }

  -- it uses one, and the list with it is not over
  pub using-next : {own fresh : List (List ℕ)} {need : ℕ} → Ready (take c cs) u need a b own → Noted cs c 1 need → Placed own a b fresh
      → Using (take (suc c) cs) u fresh
  using-next {own} {fresh} {need} k w p = using-placed apart more-at k.uses.table k.uses.closed k.uses.balanced p (fine need w k.enough)
    where
      fine : (need : ℕ) → Noted cs c 1 need → need ≤ free own a + free own b → NotOver (take (suc c) cs)
      fine need hard l = four-fine apart more-at k.uses l
      fine need (easy h) l = h.fine k.uses.fine

  -- fewer: c is the first that makes the list over
  pub first-at : {own t : List (List ℕ)} {need over : ℕ} → Using (take c cs) u own → Noted cs c 1 need → Gathered own need a b (Err (t, over))
      → FirstOver cs c over
  first-at k w g =
      let r = gathered-over apart more-at k (noted-most w) g in
      record { listed = lc; earlier = k.fine; over = r.1; smallest = rw ends.is r.2 }

-- ---- constraint c of those that stand in an array, as the code has it, with two elements that the code has found in it

module _ {start : List ℕ} {e c : ℕ} (s : Standing start e) (h : c < e) {m : ℕ} (q : m ≡ get_or start c 0) where
  pub two_ends : ones m ≡ 2
  two_ends = ap ones q ∙ standing-two s c h

  pub ends_at : {a b : ℕ} → (a < 64) × (a ∈ m) → (b < 64) × (b ∈ m) × (a ≢ b) → EndsAt (take e start) c a b
  ends_at {a} {b} fa fb = record {
    low = fa.0;
    high = fb.0;
    apart = fb.2;
    is = sym (standing-item s c h) ∙ sym q ∙ pair_is m a b two_ends fa.1 fb.1 fb.2;
  }

-- ---- the answer

module _ {cs : List ℕ} (simple : Simple cs) (n : ℕ) (below : Below n cs) where
  pub answer-not : NotOver cs → Fine ≡ over_of n cs
  answer-not f = finds-over_of n cs simple.pairs below Fine f

  pub answer-first : {c x : ℕ} → FirstOver cs c x → First c x ≡ over_of n cs
  answer-first {c} {x} f = finds-over_of n cs simple.pairs below (First c x) f
