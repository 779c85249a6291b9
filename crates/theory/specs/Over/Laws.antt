-- Laws of "over". Among the sets that hold both ends of a constraint and carry exactly 2m-3 there is exactly one smallest, which lies within every
-- other; what is found is determined; the tests find it; elements that no constraint names change nothing. Assumes nothing.
use Rattle.std.specs.Prelude.{◌≡◌, ◌∷◌, ◌++◌, ◌+◌, ◌*◌, ◌^◌, ◌≤◌, ◌<◌}
use Rattle.theory.specs.Prelude.{refl, sym, ap, ap₂, ◌∙◌, subst, inl, inr, Bool, true, false, List, [], ℕ, zero, suc}
use Rattle.theory.specs.Prelude.{le_antisymm, le_refl, le_step, lt-suc_self, arith, ℕ_discrete, dec_le, dec_lt, T, leb, ltb, eqb}
use Rattle.theory.specs.Prelude.{leb→le, le→leb, ltb→lt, lt→ltb, eqb→eq, ones, length, take, get_or, take-suc, take-length}
use Rattle.theory.specs.Tests.{and_intro, and_both, eq_test}
use Rattle.theory.specs.Set.{◌∩◌, ◌∪◌, ◌⊑◌, full}
use Rattle.theory.specs.Set.Laws.{size-zero, size-∪, ⊑⇒size≤, ⊑-size-≡, size-full, a∩b⊑a, a∩b⊑b, ∩-greatest, a⊑a∪b, cut_below, below-full}
use Rattle.theory.specs.Constraints.{has, carried, NotOver, NotOverIn, Among, Pairs, Below}
use Rattle.theory.specs.Constraints.Laws.{inside, Has, outside, has-dec, has_in, carried-two, carried-full, carried-cut, not-over-in}
use Rattle.theory.specs.Over.{IsOver, Tight, Smallest, FirstOver, Finds, heavy, any_below, is_over, is_tight, smaller, fewest_below, smallest_set}
use Rattle.theory.specs.Over.{next, over_up_to, over_of}
use Rattle.theory.specs.Finding.{Finding}
use Rattle.theory.specs.Finding.{Fine, First}

-- ---- a list and one constraint more

pub carried-append : (cs ds : List ℕ) (x : ℕ) → carried (cs ++ ds) x ≡ carried cs x + carried ds x
unfolding carried
carried-append [] ds x = omega arith
carried-append (m ∷ cs) ds x = omega (arith, carried-append cs ds x)

pub carried-next : (cs : List ℕ) (k x : ℕ) → k < length cs → carried (take (suc k) cs) x ≡ carried (take k cs) x + has (get_or cs k 0) x
unfolding carried
carried-next cs k x l = ap (λ (l : List ℕ). carried l x) (take-suc cs k 0 l) ∙ omega (arith, carried-append (take k cs) (get_or cs k 0 ∷ []) x)

pub carried-take-le : (cs : List ℕ) (j k x : ℕ) → j ≤ k → carried (take j cs) x ≤ carried (take k cs) x
unfolding carried
carried-take-le cs zero k x h = omega arith
carried-take-le [] (suc j) (suc k) x h = omega arith
carried-take-le (m ∷ cs) (suc j) (suc k) x h = omega (arith, carried-take-le cs j k x (omega arith))
carried-take-le cs (suc j) zero x h = absurd (omega arith)

pub among-take : (x k : ℕ) (cs : List ℕ) → Among x (take k cs) → Among x cs
among-take x zero cs h = absurd h
among-take x (suc k) [] h = h
among-take x (suc k) (m ∷ cs) (inl e) = inl e
among-take x (suc k) (m ∷ cs) (inr h) = inr (among-take x k cs h)

pub among-at : (k : ℕ) (cs : List ℕ) → k < length cs → Among (get_or cs k 0) cs
among-at k [] l = absurd (omega arith)
among-at zero (m ∷ cs) l = inl refl
among-at (suc k) (m ∷ cs) l = inr (among-at k cs (omega arith))

pub pairs-take : (k : ℕ) (cs : List ℕ) → Pairs cs → Pairs (take k cs)
unfolding Pairs
pairs-take k cs p x h = p x (among-take x k cs h)

pub below-take : (n k : ℕ) (cs : List ℕ) → Below n cs → Below n (take k cs)
unfolding Below
below-take n k cs p x h = p x (among-take x k cs h)

-- ---- over and not over

pub over-not-fine : {cs : List ℕ} → IsOver cs → NotOver cs → ⊥
unfolding NotOver
over-not-fine o f = omega (arith, o.more, f o.set o.two)

-- a longer list stays over
pub over-longer : (cs : List ℕ) (j k : ℕ) → j ≤ k → IsOver (take j cs) → IsOver (take k cs)
over-longer cs j k h o = record { set = o.set; two = o.two; more = omega (arith, o.more, carried-take-le cs j k o.set h) }

pub fine-shorter : (cs : List ℕ) (j k : ℕ) → j ≤ k → NotOver (take k cs) → NotOver (take j cs)
unfolding NotOver
fine-shorter cs j k h f x b = omega (arith, f x b, carried-take-le cs j k x h)

-- more than 2n-3 constraints are over, and fewer are listed where none is
pub more-over : (n : ℕ) (cs : List ℕ) → 2 ≤ n → Below n cs → 2 * n < length cs + 3 → IsOver cs
more-over n cs two below more = record { set = full n; two = omega (arith, size-full n); more = omega (arith, size-full n, carried-full n cs below) }

pub fine-most : (n : ℕ) (cs : List ℕ) → 2 ≤ n → Below n cs → NotOver cs → length cs + 3 ≤ 2 * n
unfolding NotOver
fine-most n cs two below f = omega (arith, size-full n, carried-full n cs below, f (full n) (omega (arith, size-full n)))

-- ---- tight sets

module _ (cs ds : List ℕ) (m : ℕ) (more : (x : ℕ) → carried ds x ≡ carried cs x + has m x) (f : NotOver cs) where
  -- a set that m makes over is tight for the earlier ones
  pub over-tight : (x : ℕ) → 2 ≤ ones x → 2 * ones x < carried ds x + 3 → Tight cs m x
  unfolding NotOver
  over-tight x b h = go (has-dec m x)
    where
      go : Has m x → Tight cs m x
      go (inside i e) = record { holds = i; exact = omega (arith, f x b, more x) }
      go (outside n e) = absurd (omega (arith, f x b, more x))

  -- and a tight set is one that m makes over
  pub tight-over : (x : ℕ) → 2 ≤ ones x → Tight cs m x → IsOver ds
  tight-over x b t = record { set = x; two = b; more = omega (arith, more x, has_in m x t.holds, t.exact) }

-- two tight sets share a tight set
pub tight-meet : (cs : List ℕ) → NotOver cs → (m : ℕ) → ones m ≡ 2 → (x y : ℕ) → Tight cs m x → Tight cs m y → Tight cs m (x ∩ y)
unfolding NotOver
tight-meet cs f m e x y s t =
    let h = ∩-greatest s.holds t.holds in
    let b : 2 ≤ ones (x ∩ y) = omega (arith, ⊑⇒size≤ (x ∩ y) m h) in
    let c : 2 ≤ ones (x ∪ y) = omega (arith, ⊑⇒size≤ x (x ∩ y) (a∩b⊑a x y), ⊑⇒size≤ (x ∪ y) x (a⊑a∪b x y)) in
    record {
      holds = h;
      exact = omega (arith, f (x ∩ y) b, f (x ∪ y) c, carried-two cs x y, size-∪ x y, s.exact, t.exact);
    }

-- the smallest lies within every other
pub smallest-within : (cs : List ℕ) → NotOver cs → (m : ℕ) → ones m ≡ 2 → (x y : ℕ) → Smallest cs m x → Tight cs m y → x ⊑ y
smallest-within cs f m e x y s t =
    let same = ⊑-size-≡ x (x ∩ y) (a∩b⊑a x y) (s.fewest (x ∩ y) (tight-meet cs f m e x y s.tight t)) in
    subst (λ (z : ℕ). z ⊑ y) same (a∩b⊑b x y)

-- so there is only one
pub smallest-one : (cs : List ℕ) → NotOver cs → (m : ℕ) → ones m ≡ 2 → (x y : ℕ) → Smallest cs m x → Smallest cs m y → x ≡ y
smallest-one cs f m e x y s t = ⊑-size-≡ y x (smallest-within cs f m e x y s t.tight) (t.fewest x s.tight)

-- a tight set within every other is the smallest
pub within-smallest : (cs : List ℕ) (m x : ℕ) → Tight cs m x → ((y : ℕ) → Tight cs m y → x ⊑ y) → Smallest cs m x
within-smallest cs m x t w = record { tight = t; fewest = λ y s. ⊑⇒size≤ y x (w y s) }

-- a tight set has a tight part among the sheet's own elements
pub tight-cut : (n : ℕ) (cs : List ℕ) → Below n cs → NotOver cs → (m : ℕ) → ones m ≡ 2 → m < 2 ^ n → (x : ℕ) → Tight cs m x → Tight cs m (x ∩ full n)
unfolding NotOver
tight-cut n cs below f m e l x t =
    let h : m ⊑ x ∩ full n = ∩-greatest t.holds (below-full n m l) in
    let b : 2 ≤ ones (x ∩ full n) = omega (arith, ⊑⇒size≤ (x ∩ full n) m h) in
    record {
      holds = h;
      exact = omega (arith, t.exact, f (x ∩ full n) b, carried-cut n cs below x, ⊑⇒size≤ x (x ∩ full n) (a∩b⊑a x (full n)));
    }

-- ---- the tests

pub heavy-over : (cs : List ℕ) (x : ℕ) → T (heavy cs x) → IsOver cs
unfolding heavy
heavy-over cs x t =
    let b = and_both (leb 2 (ones x)) (ltb (2 * ones x) (carried cs x + 3)) t in
    record { set = x; two = leb→le 2 (ones x) b.0; more = ltb→lt (2 * ones x) (carried cs x + 3) b.1 }

over-heavy : (cs : List ℕ) (x : ℕ) → 2 ≤ ones x → 2 * ones x < carried cs x + 3 → T (heavy cs x)
unfolding heavy
over-heavy cs x b h =
    and_intro (leb 2 (ones x)) (ltb (2 * ones x) (carried cs x + 3)) (le→leb 2 (ones x) b) (lt→ltb (2 * ones x) (carried cs x + 3) h)

tight-test : (cs : List ℕ) (m x : ℕ) → Tight cs m x → T (is_tight cs m x)
unfolding is_tight
tight-test cs m x t =
    and_intro (eqb (has m x) 1) (eqb (carried cs x + 3) (2 * ones x))
    (eq_test (has m x) 1 (has_in m x t.holds)) (eq_test (carried cs x + 3) (2 * ones x) t.exact)

test-tight : (cs : List ℕ) (m x : ℕ) → T (is_tight cs m x) → Tight cs m x
unfolding is_tight
test-tight cs m x t =
    let b : T (eqb (has m x) 1) × T (eqb (carried cs x + 3) (2 * ones x)) = and_both (eqb (has m x) 1) (eqb (carried cs x + 3) (2 * ones x)) t in
    record {
      holds = elim (has-dec m x) [ inside i e ↦ i | outside n e ↦ absurd (omega (arith, eqb→eq (has m x) 1 b.0)) ];
      exact = eqb→eq (carried cs x + 3) (2 * ones x) b.1;
    }

pub any_none : (k : ℕ) (t : ℕ → Bool) → any_below k t ≡ false → (x : ℕ) → x < k → T (t x) → ⊥
unfolding any_below
any_none zero t e x l h = omega arith
any_none (suc k) t e x l h = go (t k) refl e (any_none k t)
  where
    go : (b : Bool) → t k ≡ b → elim b [ true ↦ true | false ↦ any_below k t ] ≡ false → (any_below k t ≡ false → (x : ℕ) → x < k → T (t x) → ⊥) → ⊥
    go true q e ih = subst T e tt
    go false q e ih = elim (ℕ_discrete x k) [ yes p ↦ subst T (ap t p ∙ q) h | no n ↦ ih e x (omega arith) h ]

pub any_some : (k : ℕ) (t : ℕ → Bool) → T (any_below k t) → (x : ℕ) × (x < k) × T (t x)
unfolding any_below
any_some zero t h = absurd h
any_some (suc k) t h = elim (t k) as (λ (b : Bool). t k ≡ b → T (elim b [ true ↦ true | false ↦ any_below k t ]) → (x : ℕ) × (x < suc k) × T (t x)) [
  | true ↦ λ q h. (k, lt-suc_self k, subst T (sym q) tt)
  | false ↦ λ q h. let r = any_some k t h in (r.0, le_step r.1, r.2)
] refl h

-- the test of "over" is right
pub is_over-over : (n : ℕ) (cs : List ℕ) → is_over n cs ≡ true → IsOver cs
unfolding is_over
is_over-over n cs e = let r = any_some (2 ^ n) (heavy cs) (subst T (sym e) tt) in heavy-over cs r.0 r.2

pub is_over-fine : (n : ℕ) (cs : List ℕ) → Pairs cs → Below n cs → is_over n cs ≡ false → NotOver cs
unfolding is_over NotOverIn
is_over-fine n cs pairs below e = not-over-in n cs pairs below (λ x l b. go x l b (dec_le (carried cs x + 3) (2 * ones x)))
  where
    go : (x : ℕ) → x < 2 ^ n → 2 ≤ ones x → Dec (carried cs x + 3 ≤ 2 * ones x) → carried cs x + 3 ≤ 2 * ones x
    go x l b (yes h) = h
    go x l b (no h) = absurd (any_none (2 ^ n) (heavy cs) e x l (over-heavy cs x b (omega arith)))

pub fine-is_over : (n : ℕ) (cs : List ℕ) → NotOver cs → is_over n cs ≡ false
fine-is_over n cs f = go (is_over n cs) refl
  where
    go : (b : Bool) → is_over n cs ≡ b → b ≡ false
    go false e = refl
    go true e = absurd (over-not-fine (is_over-over n cs e) f)

pub over-is_over : (n : ℕ) (cs : List ℕ) → Pairs cs → Below n cs → IsOver cs → is_over n cs ≡ true
over-is_over n cs pairs below o = go (is_over n cs) refl
  where
    go : (b : Bool) → is_over n cs ≡ b → b ≡ true
    go true e = refl
    go false e = absurd (over-not-fine o (is_over-fine n cs pairs below e))

-- ---- the fewest

-- s is 0 and none passes, or s passes and none that does has fewer elements
pub data Fewest (k : ℕ) (t : ℕ → Bool) : ℕ → Type 0 where
  none : ((x : ℕ) → x < k → T (t x) → ⊥) → Fewest k t 0
  some : (s : ℕ) → T (t (suc s)) → ((x : ℕ) → x < k → T (t x) → ones (suc s) ≤ ones x) → Fewest k t (suc s)

fewest-of : (t : ℕ → Bool) → (T (t 0) → ⊥) → (k : ℕ) → Fewest k t (fewest_below k t)
unfolding fewest_below smaller
fewest-of t z zero = none (λ x l h. omega arith)
fewest-of t z (suc k) = go (t k) refl (fewest_below k t) (fewest-of t z k)
  where
    split : {P : ℕ → Type 0} → P k → ((x : ℕ) → x < k → P x) → (x : ℕ) → x < suc k → P x
    split {P} h f x l = elim (ℕ_discrete x k) [ yes e ↦ subst P (sym e) h | no n ↦ f x (omega arith) ]

    alone : (k : ℕ) → T (t k) → ((x : ℕ) → x < suc k → T (t x) → ones k ≤ ones x) → Fewest (suc k) t k
    alone zero q f = absurd (z q)
    alone (suc k) q f = some k q f

    pick : T (t k) → (s : ℕ) → T (t (suc s)) → ((x : ℕ) → x < k → T (t x) → ones (suc s) ≤ ones x)
        → (b : Bool) → ltb (ones k) (ones (suc s)) ≡ b → Fewest (suc k) t (elim b [ true ↦ k | false ↦ suc s ])
    pick q s p f true e =
        let l = ltb→lt (ones k) (ones (suc s)) (subst T (sym e) tt) in
        alone k q (split {P = λ (x : ℕ). T (t x) → ones k ≤ ones x} (λ h. le_refl (ones k)) (λ x m h. omega (arith, l, f x m h)))
    pick q s p f false e = some s p (split {P = λ (x : ℕ). T (t x) → ones (suc s) ≤ ones x} (λ h. low (dec_lt (ones k) (ones (suc s)))) f)
      where
        low : Dec (ones k < ones (suc s)) → ones (suc s) ≤ ones k
        low (yes l) = absurd (subst T e (lt→ltb (ones k) (ones (suc s)) l))
        low (no l) = omega arith

    go : (b : Bool) → t k ≡ b → (s : ℕ) → Fewest k t s → Fewest (suc k) t (elim b [ true ↦ smaller s k | false ↦ s ])
    go true e s (none f) =
        alone k (subst T (sym e) tt) (split {P = λ (x : ℕ). T (t x) → ones k ≤ ones x} (λ h. le_refl (ones k)) (λ x m h. absurd (f x m h)))
    go true e r (some s p f) = pick (subst T (sym e) tt) s p f (ltb (ones k) (ones (suc s))) refl
    go false e s (none f) = none (split {P = λ (x : ℕ). T (t x) → ⊥} (λ h. subst T e h) f)
    go false e r (some s p f) = some s p (split {P = λ (x : ℕ). T (t x) → ones (suc s) ≤ ones x} (λ h. absurd (subst T e h)) f)

-- where a tight set exists, the smallest is found
pub smallest-set : (n : ℕ) (cs : List ℕ) → Below n cs → NotOver cs → (m : ℕ) → ones m ≡ 2 → m < 2 ^ n → (x : ℕ) → Tight cs m x
    → Smallest cs m (smallest_set n cs m)
unfolding smallest_set
smallest-set n cs below f m e l x t = go (fewest_below (2 ^ n) (is_tight cs m)) (fewest-of (is_tight cs m) never (2 ^ n))
  where
    never : T (is_tight cs m 0) → ⊥
    never h = omega (arith, ⊑⇒size≤ 0 m (test-tight cs m 0 h).holds, size-zero)

    cut : (y : ℕ) → Tight cs m y → T (is_tight cs m (y ∩ full n))
    cut y s = tight-test cs m (y ∩ full n) (tight-cut n cs below f m e l y s)

    go : (s : ℕ) → Fewest (2 ^ n) (is_tight cs m) s → Smallest cs m s
    go s (none f) = absurd (f (x ∩ full n) (cut_below n x) (cut x t))
    go r (some s p few) = record {
      tight = test-tight cs m (suc s) p;
      fewest = λ y q. omega (arith, few (y ∩ full n) (cut_below n y) (cut y q), ⊑⇒size≤ y (y ∩ full n) (a∩b⊑a y (full n)));
    }

-- ---- what is found

module _ (n : ℕ) (cs : List ℕ) (pairs : Pairs cs) (below : Below n cs) where
  pair-at : (k : ℕ) → k < length cs → ones (get_or cs k 0) ≡ 2
  unfolding Pairs
  pair-at k l = pairs (get_or cs k 0) (among-at k cs l)

  below_at : (k : ℕ) → k < length cs → get_or cs k 0 < 2 ^ n
  unfolding Below
  below_at k l = below (get_or cs k 0) (among-at k cs l)

  -- the constraint that makes a list over has its smallest set
  pub first-set : (k : ℕ) → k < length cs → NotOver (take k cs) → IsOver (take (suc k) cs)
      → Smallest (take k cs) (get_or cs k 0) (smallest_set n (take k cs) (get_or cs k 0))
  first-set k l f o =
      smallest-set n (take k cs) (below-take n k cs below) f (get_or cs k 0) (pair-at k l) (below_at k l) o.set
      (over-tight (take k cs) (take (suc k) cs) (get_or cs k 0) (λ x. carried-next cs k x l) f o.set o.two o.more)

  -- there is always exactly one smallest, and it lies within every other
  pub one-smallest : (k : ℕ) → k < length cs → NotOver (take k cs) → IsOver (take (suc k) cs)
      → (x : ℕ) × Smallest (take k cs) (get_or cs k 0) x × ((y : ℕ) → Smallest (take k cs) (get_or cs k 0) y → y ≡ x)
      × ((y : ℕ) → Tight (take k cs) (get_or cs k 0) y → x ⊑ y)
  one-smallest k l f o =
      let x = smallest_set n (take k cs) (get_or cs k 0) in
      let s = first-set k l f o in (
        x,
        s,
        λ y t. smallest-one (take k cs) f (get_or cs k 0) (pair-at k l) y x t s,
        λ y t. smallest-within (take k cs) f (get_or cs k 0) (pair-at k l) x y s t,
      )

  -- the right finding for the first k constraints
  FindsTo : ℕ → Finding → Type 0
  FindsTo k Fine = NotOver (take k cs)
  FindsTo k (First c x) = (c < k) × FirstOver cs c x

  up_to : (k : ℕ) → k ≤ length cs → FindsTo k (over_up_to n cs k)
  unfolding FindsTo over_up_to next NotOver carried
  up_to zero l = λ x b. omega arith
  up_to (suc k) l = go (over_up_to n cs k) (up_to k (omega arith))
    where
      fresh : NotOver (take k cs) → (b : Bool) → is_over n (take (suc k) cs) ≡ b
          → FindsTo (suc k) (elim b [ true ↦ First k (smallest_set n (take k cs) (get_or cs k 0)) | false ↦ Fine ])
      fresh f true e =
          let o = is_over-over n (take (suc k) cs) e in
          (lt-suc_self k, record { listed = l; earlier = f; over = o; smallest = first-set k l f o })
      fresh f false e = is_over-fine n (take (suc k) cs) (pairs-take (suc k) cs pairs) (below-take n (suc k) cs below) e

      go : (r : Finding) → FindsTo k r → FindsTo (suc k) (next n cs k r)
      go (First c x) h = (le_step h.0, h.1)
      go Fine h = fresh h (is_over n (take (suc k) cs)) refl

  -- the tests find it
  pub over_of-finds : Finds cs (over_of n cs)
  unfolding over_of FindsTo
  over_of-finds = go (over_up_to n cs (length cs)) (up_to (length cs) (le_refl (length cs)))
    where
      go : (r : Finding) → FindsTo (length cs) r → Finds cs r
      go Fine h = subst NotOver (take-length cs) h
      go (First c x) h = h.1

  -- and there is only one to find
  pub finds-one : (r s : Finding) → Finds cs r → Finds cs s → r ≡ s
  finds-one Fine Fine h k = refl
  finds-one Fine (First c x) h k =
      absurd (over-not-fine k.over (fine-shorter cs (suc c) (length cs) k.listed (subst NotOver (sym (take-length cs)) h)))
  finds-one (First c x) Fine h k =
      absurd (over-not-fine h.over (fine-shorter cs (suc c) (length cs) h.listed (subst NotOver (sym (take-length cs)) k)))
  finds-one (First c x) (First d y) h k =
      let same : c ≡ d = le_antisymm (not_after c d h.earlier k.over) (not_after d c k.earlier h.over) in
      ap₂ First same
      (smallest-one (take c cs) h.earlier (get_or cs c 0) (pair-at c h.listed) x y h.smallest
      (subst (λ (i : ℕ). Smallest (take i cs) (get_or cs i 0) y) (sym same) k.smallest))
    where
      not_after : (i j : ℕ) → NotOver (take i cs) → IsOver (take (suc j) cs) → i ≤ j
      not_after i j f o = elim (dec_le i j) [ yes l ↦ l | no l ↦ absurd (over-not-fine (over-longer cs (suc j) i (omega arith) o) f) ]

  pub finds-over_of : (r : Finding) → Finds cs r → r ≡ over_of n cs
  finds-over_of r h = finds-one r (over_of n cs) h over_of-finds

-- elements that no constraint names change nothing
pub over_of-same : (n m : ℕ) (cs : List ℕ) → Pairs cs → Below n cs → Below m cs → over_of n cs ≡ over_of m cs
over_of-same n m cs pairs bn bm = finds-over_of m cs pairs bm (over_of n cs) (over_of-finds n cs pairs bn)

-- what is found says whether the list is over
pub fine-over_of : (n : ℕ) (cs : List ℕ) → Pairs cs → Below n cs → NotOver cs → over_of n cs ≡ Fine
fine-over_of n cs pairs below f = sym (finds-over_of n cs pairs below Fine f)

pub over_of-fine : (n : ℕ) (cs : List ℕ) → Pairs cs → Below n cs → over_of n cs ≡ Fine → NotOver cs
over_of-fine n cs pairs below e = subst (Finds cs) e (over_of-finds n cs pairs below)

pub over_of-first : (n : ℕ) (cs : List ℕ) → Pairs cs → Below n cs → (c x : ℕ) → over_of n cs ≡ First c x → FirstOver cs c x
over_of-first n cs pairs below c x e = subst (Finds cs) e (over_of-finds n cs pairs below)

pub over_of-over : (n : ℕ) (cs : List ℕ) → Pairs cs → Below n cs → (c x : ℕ) → over_of n cs ≡ First c x → IsOver cs
over_of-over n cs pairs below c x e =
    let h = over_of-first n cs pairs below c x e in
    subst IsOver (take-length cs) (over-longer cs (suc c) (length cs) h.listed h.over)
