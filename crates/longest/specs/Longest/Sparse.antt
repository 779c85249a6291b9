-- The strip is not over, and each set of elements has one with at most two constraints in it, its highest: every constraint joins an element to one
-- of the two before it. Assumes nothing.
use Rattle.std.specs.Prelude.{◌≡◌, ◌⊎◌, ◌∷◌, ◌++◌, ◌+◌, ◌*◌, ◌-◌, ◌^◌, ◌≤◌, ◌<◌}
use Rattle.theory.specs.Prelude.{ap, ◌∙◌, inl, inr, List, [], map, ℕ, zero, suc, arith, dec_le}
use Rattle.theory.specs.Prelude.{ones, length-replicate, pow-lt}
use Rattle.theory.specs.Set.{◌∈◌, ◌∩◌, ◌⊑◌, at, full}
use Rattle.theory.specs.Set.Laws.{at-le, bit, ⊑⇒size≤, some, two_in, both, counted, a∩b⊑a, at_same, below-full, cut_below, out}
use Rattle.theory.specs.Set.Less.{at-below, size_less, sub-less}
use Rattle.theory.specs.Constraints.{pair, Pairs, Below, has, carried, NotOver}
use Rattle.theory.specs.Constraints.Laws.{has-le, has-pair, carried-mono, carried-small, carried-cut}
use Rattle.theory.specs.Over.Laws.{carried-append}
use Rattle.sheet.specs.declared.Opening.TheVariants.{Pf01}
use Rattle.sheet.specs.Noted.Laws.{clusters-more}
use Rattle.sheet.specs.Graph.{cluster_of}
use Rattle.sheet.specs.Graph.Laws.{clusters-pairs, clusters-below}
use Rattle.peeling.specs.Core.{Loose}
use Rattle.longest.specs.Longest.{distance, strip, points}
use Rattle.longest.specs.Longest.Rules.{strip-more, strip-taken}

abbrev pub clusters : ℕ → List ℕ
clusters j = map cluster_of (strip j)

pub strip-pairs : (j : ℕ) → Pairs (clusters j)
strip-pairs j =
    clusters-pairs (record { opening = Pf01; elements = points (suc (suc j)); constraints = strip j }) (strip-taken (suc (suc j)) j (omega arith))

pub strip-below : (j : ℕ) → Below (suc (suc j)) (clusters j)
strip-below j =
    rw length-replicate at
    (clusters-below (record { opening = Pf01; elements = points (suc (suc j)); constraints = strip j }) (strip-taken (suc (suc j)) j (omega arith)))

-- ---- one element more, constrained with the two before it

module _ (j a : ℕ) where
  abbrev k : ℕ
  k = suc (suc j)

  -- the elements before it
  abbrev before : ℕ
  before = a ∩ full k

  carried_step : carried (clusters (suc j)) a ≡ carried (clusters j) a + has (pair j k) a + has (pair (suc j) k) a
  unfolding carried
  carried_step =
      ap (λ (cs : _). carried (map cluster_of cs) a) (strip-more j)
      ∙ rw (
        clusters-more (strip j ++ distance j k ∷ []),
        clusters-more (strip j),
        carried-append (clusters j ++ pair j k ∷ []),
        carried-append (clusters j),
      ) (omega arith)

  carried-before : carried (clusters j) a ≤ carried (clusters j) before
  carried-before = carried-cut k (clusters j) (strip-below j) a

  -- without it the two constraints lie in no set
  without : at k a ≡ 0 → carried (clusters (suc j)) a ≡ carried (clusters j) a
  without z = omega (arith, carried_step, none j, none (suc j))
    where
      none : (x : ℕ) → has (pair x k) a ≡ 0
      none x = rw (has-pair, z) (omega arith)

  module _ (e : k ∈ a) where
    before-less : before ⊑ a - 2 ^ k
    before-less = sub-less k a before e (a∩b⊑a a (full k)) (out k before (λ i. omega (arith, at-below k k before (cut_below k a) i)))

    size-before : ones before + 1 ≤ ones a
    size-before = omega (arith, ⊑⇒size≤ (a - 2 ^ k) before before-less, size_less k a e)

    in-before : (x : ℕ) → x < k → x ∈ a → x ∈ before
    in-before x l i = both x a (full k) i (omega (arith, (below-full k (2 ^ x) (pow-lt l)).le x, at_same x, at-le x (full k)))

    has-at : (x : ℕ) → has (pair x k) a ≡ at x a
    has-at x = rw (has-pair, e) (omega arith)

    -- it has no other constraint, and with fewer than two elements before it one at most
    few-carried : carried (clusters (suc j)) a ≤ carried (clusters j) (a - 2 ^ k) + 2
    few-carried =
        omega (
          arith,
          carried_step,
          carried-before,
          carried-mono (clusters j) before (a - 2 ^ k) before-less,
          has-le (pair j k) a,
          has-le (pair (suc j) k) a,
        )

    two-before : has (pair j k) a + has (pair (suc j) k) a ≤ ones before
    two-before = by-ends (bit (at j a) (at-le j a)) (bit (at (suc j) a) (at-le (suc j) a))
      where
        by-ends : (at j a ≡ 0) ⊎ (j ∈ a) → (at (suc j) a ≡ 0) ⊎ (suc j ∈ a) → has (pair j k) a + has (pair (suc j) k) a ≤ ones before
        by-ends (inl p) (inl q) = omega (arith, has-at j, has-at (suc j))
        by-ends (inr p) (inl q) = omega (arith, has-at j, has-at (suc j), counted before j (in-before j (omega arith) p))
        by-ends (inl p) (inr q) = omega (arith, has-at j, has-at (suc j), counted before (suc j) (in-before (suc j) (omega arith) q))
        by-ends (inr p) (inr q) =
            omega (
              arith,
              has-at j,
              has-at (suc j),
              two_in before j (suc j) (in-before j (omega arith) p) (in-before (suc j) (omega arith) q) (λ z. omega arith),
            )

    fine-with : NotOver (clusters j) → 2 ≤ ones a → carried (clusters (suc j)) a + 3 ≤ 2 * ones a
    unfolding NotOver
    fine-with fine some-two = by_size (dec_le 2 (ones before))
      where
        by_size : Dec (2 ≤ ones before) → carried (clusters (suc j)) a + 3 ≤ 2 * ones a
        by_size (yes two) =
            omega (arith, carried_step, carried-before, fine before two, has-le (pair j k) a, has-le (pair (suc j) k) a, size-before)
        by_size (no few) =
            omega (arith, carried_step, carried-before, carried-small (clusters j) (strip-pairs j) before (omega arith), two-before, size-before)

-- ---- the strip

-- one constraint lies in a set at most once
one-carried : (a : ℕ) → carried (clusters 0) a ≤ 1
unfolding carried strip
one-carried a = omega (arith, has-le (pair 0 1) a)

pub strip-fine : (j : ℕ) → NotOver (clusters j)
unfolding NotOver
strip-fine zero a two = omega (arith, one-carried a)
strip-fine (suc j) a two = by_end (bit (at (suc (suc j)) a) (at-le (suc (suc j)) a)) (strip-fine j)
  where
    by_end : (at (suc (suc j)) a ≡ 0) ⊎ (suc (suc j) ∈ a) → NotOver (clusters j) → carried (clusters (suc j)) a + 3 ≤ 2 * ones a
    by_end (inl z) fine = omega (arith, without j a z, fine a two)
    by_end (inr e) fine = fine-with j a e fine two

pub strip-loose : (j : ℕ) → Loose (clusters j)
strip-loose zero = record { least = λ a l s. let x = some a s in (x.0, x.1, omega (arith, one-carried a)) }
strip-loose (suc j) = record { least = λ a l s. by_end a l s (bit (at (suc (suc j)) a) (at-le (suc (suc j)) a)) (strip-loose j) }
  where
    by_end : (a : ℕ) → a < 2 ^ 64 → 1 ≤ ones a → (at (suc (suc j)) a ≡ 0) ⊎ (suc (suc j) ∈ a) → Loose (clusters j)
        → (x : ℕ) × (x ∈ a) × (carried (clusters (suc j)) a ≤ carried (clusters (suc j)) (a - 2 ^ x) + 2)
    by_end a l s (inl z) loose =
        let r = loose.least a l s in (r.0, r.1, omega (arith, without j a z, r.2, carried_step j (a - 2 ^ r.0)))
    by_end a l s (inr e) loose = (suc (suc j), e, omega (arith, few-carried j a e, carried_step j (a - 2 ^ suc (suc j))))
