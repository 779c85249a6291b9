-- The engine's plan: it is a maximal list of merges, and the only one whose every step is the first open merge. Assumes nothing.
use Rattle.std.specs.Prelude.{◌≡◌, ◌∷◌, ◌≤◌, ◌<◌}
use Rattle.theory.specs.Prelude.{refl, sym, ap, ap₂, subst, inl, inr, List, [], Option, none, some, ℕ, zero, suc, arith}
use Rattle.theory.specs.Prelude.{length}
use Rattle.theory.specs.Constraints.{Pairs}
use Rattle.theory.specs.Merge.{Merge, put, Valid, final, Ended, Maximal, left}
use Rattle.theory.specs.Merge.Count.{left-put, left-start}
use Rattle.theory.specs.Plan.{first_of, plan, plan_of, ascending, NotAfter, First, IsPlan}
use Rattle.theory.specs.Plan.Order.{merge-by}
use Rattle.theory.specs.Plan.Search.{Found, found, nothing, first_found}

-- ---- a plan by the relation

pub plan-valid : (p : List Merge) (s : List ℕ) → IsPlan s p → Valid s p
plan-valid [] s e = tt
plan-valid (m ∷ p) s e = (e.0.isopen, plan-valid p (put s m) e.1)

pub plan-ended : (p : List Merge) (s : List ℕ) → IsPlan s p → Ended (final s p)
plan-ended [] s e = e
plan-ended (m ∷ p) s e = plan-ended p (put s m) e.1

pub plan-maximal : (p : List Merge) (s : List ℕ) → IsPlan s p → Maximal s p
plan-maximal p s e = record { valid = plan-valid p s e; ended = plan-ended p s e }

-- ---- there is only one

-- ascending numbers stay as they are
pub ascending-same : (m : Merge) → m.i < m.j → m.j < m.k → ascending m ≡ m
unfolding ascending
ascending-same m p q = merge-by (omega arith) (omega arith) (omega arith)

not-after-both : (m r : Merge) → NotAfter m r → NotAfter r m → m ≡ r
unfolding NotAfter
not-after-both m r (inl p) (inl q) = absurd (omega arith)
not-after-both m r (inl p) (inr q) = absurd (omega (arith, q.0))
not-after-both m r (inr p) (inl q) = absurd (omega (arith, p.0))
not-after-both m r (inr (e, inl p)) (inr (f, inl q)) = absurd (omega arith)
not-after-both m r (inr (e, inl p)) (inr (f, inr q)) = absurd (omega (arith, q.0))
not-after-both m r (inr (e, inr p)) (inr (f, inl q)) = absurd (omega (arith, p.0))
not-after-both m r (inr (e, inr (f, p))) (inr (g, inr (h, q))) = merge-by e f (omega arith)

pub first_one : (s : List ℕ) (m r : Merge) → First s m → First s r → m ≡ r
first_one s m r a b =
    not-after-both m r (subst (NotAfter m) (ascending-same r b.i<j b.j<k) (a.least r b.isopen))
    (subst (NotAfter r) (ascending-same m a.i<j a.j<k) (b.least m a.isopen))

pub plan-one : (p q : List Merge) (s : List ℕ) → IsPlan s p → IsPlan s q → p ≡ q
unfolding Ended
plan-one [] [] s e f = refl
plan-one [] (m ∷ q) s e f = absurd (e m f.0.isopen)
plan-one (m ∷ p) [] s e f = absurd (f m e.0.isopen)
plan-one (m ∷ p) (r ∷ q) s e f =
    let h = first_one s m r e.0 f.0 in
    ap₂ ◌∷◌ h (plan-one p q (put s m) e.1 (subst (λ (x : Merge). IsPlan (put s x) q) (sym h) f.1))

-- ---- the search

-- an open merge that comes first is the one found; where none is open, none is found
pub first_is : (s : List ℕ) (m : Merge) → First s m → first_of 0 s ≡ some m
unfolding Ended
first_is s m a = go (first_of 0 s) (first_found s)
  where
    go : (o : Option Merge) → Found s o → o ≡ some m
    go o (found r b) = ap (λ (x : Merge). some x) (first_one s r m b a)
    go o (nothing e) = absurd (e m a.isopen)

pub none_is : (s : List ℕ) → Ended s → first_of 0 s ≡ none
unfolding Ended
none_is s e = go (first_of 0 s) (first_found s)
  where
    go : (o : Option Merge) → Found s o → o ≡ none
    go o (found r b) = absurd (e r b.isopen)
    go o (nothing f) = refl

pub some_first : (s : List ℕ) (m : Merge) → first_of 0 s ≡ some m → First s m
some_first s m e = go (first_of 0 s) (first_found s) e
  where
    go : (o : Option Merge) → Found s o → o ≡ some m → First s m
    go o (found r b) q = let h : r ≡ m = cc in subst (First s) h b
    go o (nothing f) q = let z : ◌≡◌ {A = ℕ} 0 1 = cc in absurd (omega arith)

pub none-ended : (s : List ℕ) → first_of 0 s ≡ none → Ended s
none-ended s e = go (first_of 0 s) (first_found s) e
  where
    go : (o : Option Merge) → Found s o → o ≡ none → Ended s
    go o (found r b) q = let z : ◌≡◌ {A = ℕ} 0 1 = cc in absurd (omega arith)
    go o (nothing f) q = f

-- ---- the plan that computes is that one

pub plan_is : (f : ℕ) (s : List ℕ) → left s ≤ f → IsPlan s (plan f s)
unfolding plan Ended
plan_is zero s h = λ m o. omega (arith, left-put s m o)
plan_is (suc f) s h = go (λ t l. plan_is f t l) (first_of 0 s) (first_found s)
  where
    go : ((t : List ℕ) → left t ≤ f → IsPlan t (plan f t)) → (o : Option Merge) → Found s o
        → IsPlan s (elim o [ none ↦ [] | some m ↦ m ∷ plan f (put s m) ])
    go ih o (found m a) = (a, ih (put s m) (omega (arith, left-put s m a.isopen)))
    go ih o (nothing e) = e

pub plan-of-is : (cs : List ℕ) → Pairs cs → IsPlan cs (plan_of cs)
unfolding plan_of
plan-of-is cs pairs = plan_is (length cs) cs (omega (arith, left-start cs pairs))

-- the plan of a sheet is a maximal list of merges, so it ends in the normal form (Corollary 3.7 of Fudos and Hoffmann);
-- and any list whose every step is the first open merge is the plan
pub plan-of-maximal : (cs : List ℕ) → Pairs cs → Maximal cs (plan_of cs)
plan-of-maximal cs pairs = plan-maximal (plan_of cs) cs (plan-of-is cs pairs)

pub plan-of-one : (cs : List ℕ) → Pairs cs → (p : List Merge) → IsPlan cs p → plan_of cs ≡ p
plan-of-one cs pairs p e = plan-one (plan_of cs) p cs (plan-of-is cs pairs) e
