-- The words in the arrays are those of what the final clusters rest on. Assumes nothing.
use Rattle.std.specs.Prelude.{◌+◌, ◌*◌, ◌≤◌, ◌<◌, ◌≡◌, ◌≢◌, ◌∷◌, ◌++◌}
use Rattle.theory.specs.Prelude.{ℕ, zero, suc, arith, add-one, refl, ap, ap₂, ◌∙◌, subst, List, [], map}
use Rattle.theory.specs.Prelude.{length, get_or, take, length-take, take-suc, get_or-take}
use Rattle.theory.specs.Constraints.{Pairs}
use Rattle.theory.specs.Merge.{slot, final, left, total}
use Rattle.theory.specs.Merge.Numbered.{alive-lt}
use Rattle.theory.specs.Block.{block}
use Rattle.theory.specs.Plan.{ascending}
use Rattle.merges.specs.Run.{Run, places, flat, run_of, Merged}
use Rattle.merges.specs.Run.Laws.{length-final}
use Rattle.space.specs.Space.{answer, after}
use Rattle.space.specs.Space.Laws.{put-none, put-done}
use Rattle.space.specs.Written.{Done}
use Rattle.judge.specs.Judged.Laws.{finals_are, steps-few}
use Rattle.theory.specs.Rests.{alone_from, rests_on}
use Rattle.theory.specs.Rests.Laws.{length-alone}
use Rattle.rests.specs.Words.{word, Listed, Told}
use Rattle.account.specs.Resting.{words_of}
use Rattle.account.specs.Resting.Pairs.{pairs_in}

-- ---- one cluster more

pairs-append : (s l h t m k : List ℕ) → length s ≡ length l → length s ≡ length h → pairs_in (s ++ t) (l ++ m) (h ++ k) ≡ pairs_in s l h ++ pairs_in t m k
unfolding pairs_in
pairs-append [] [] [] t m k e f = refl
pairs-append [] [] (y ∷ h) t m k e f = absurd (omega arith)
pairs-append [] (x ∷ l) h t m k e f = absurd (omega arith)
pairs-append (a ∷ s) [] h t m k e f = absurd (omega arith)
pairs-append (a ∷ s) (x ∷ l) [] t m k e f = absurd (omega arith)
pairs-append (zero ∷ s) (x ∷ l) (y ∷ h) t m k e f = pairs-append s l h t m k (omega arith) (omega arith)
pairs-append (suc a ∷ s) (x ∷ l) (y ∷ h) t m k e f = ap (λ (r : List ℕ). x ∷ y ∷ r) (pairs-append s l h t m k (omega arith) (omega arith))

pub pairs_next : (s l h : List ℕ) (c : ℕ) → c < length s → length s ≡ length l → length s ≡ length h
    → pairs_in (take (c + 1) s) (take (c + 1) l) (take (c + 1) h)
    ≡ pairs_in (take c s) (take c l) (take c h) ++ pairs_in (get_or s c 0 ∷ []) (get_or l c 0 ∷ []) (get_or h c 0 ∷ [])
pairs_next s l h c lt e f =
    rw (add-one, take-suc s c 0 lt, take-suc l c 0 (omega arith), take-suc h c 0 (omega arith))
    (pairs-append (take c s) (take c l) (take c h) (get_or s c 0 ∷ []) (get_or l c 0 ∷ []) (get_or h c 0 ∷ [])
    (omega (arith, length-take c s, length-take c l)) (omega (arith, length-take c s, length-take c h)))

-- ---- all of them

pairs-words : (s l h r : List ℕ) → length s ≤ length l → length s ≤ length h → length s ≤ length r
    → ((n : ℕ) → slot s n ≢ 0 → (get_or l n 0 ≡ word 0 (get_or r n 0)) × (get_or h n 0 ≡ word 1 (get_or r n 0))) → pairs_in s l h ≡ words_of s r
unfolding pairs_in words_of
pairs-words [] l h r a b c k = refl
pairs-words (x ∷ s) [] h r a b c k = absurd (omega arith)
pairs-words (x ∷ s) (y ∷ l) [] r a b c k = absurd (omega arith)
pairs-words (x ∷ s) (y ∷ l) (z ∷ h) [] a b c k = absurd (omega arith)
pairs-words (zero ∷ s) (y ∷ l) (z ∷ h) (w ∷ r) a b c k = pairs-words s l h r (omega arith) (omega arith) (omega arith) (λ n. k (suc n))
pairs-words (suc x ∷ s) (y ∷ l) (z ∷ h) (w ∷ r) a b c k =
    let e = k 0 (λ q. omega arith) in
    ap₂ (λ (p : ℕ) (t : List ℕ). p ∷ t) e.0
    (ap₂ (λ (p : ℕ) (t : List ℕ). p ∷ t) e.1 (pairs-words s l h r (omega arith) (omega arith) (omega arith) (λ n. k (suc n))))

pub words-most : (s r : List ℕ) → length (words_of s r) ≤ 2 * left s
unfolding words_of left total
words-most [] r = omega arith
words-most (a ∷ s) [] = omega arith
words-most (zero ∷ s) (w ∷ r) = omega (arith, words-most s r)
words-most (suc a ∷ s) (w ∷ r) = omega (arith, words-most s r)

-- ---- the list of a run

module _ {cs : List ℕ} {e : ℕ} (count : length cs ≡ e) {run : Run} (m : Merged cs run) where
  parts_are : run.parts ≡ block places 0 (flat (map ascending m.p))
  unfolding run_of
  parts_are = ap (λ (r : Run). r.parts) m.is

  steps-count : run.steps ≡ length m.p
  unfolding run_of
  steps-count = ap (λ (r : Run). r.steps) m.is

  -- its parts, for what its clusters rest on
  pub record Parts : Type 0 where
    pub listed : Listed e run.parts run.steps
    pub told : {w : ℕ} {words : List ℕ} → Told w listed.cs listed.p words → Told w cs m.p words

  pub parts : Parts
  parts = record {
    listed = record { cs = cs; p = m.p; size = count; valid = m.valid; parts_are = parts_are; steps_are = steps-count };
    told = λ t. t;
  }

  -- the words at its living clusters
  pub pairs-are : Pairs cs → e ≤ 125 → {low high : List ℕ} → Told 0 cs m.p low → Told 1 cs m.p high
      → pairs_in (take (e + run.steps) run.slots) (take (e + run.steps) low) (take (e + run.steps) high)
      ≡ words_of (final cs m.p) (rests_on (length cs) m.p)
  unfolding rests_on
  pairs-are pairs few {low} {high} lows highs =
      let u = e + run.steps in
      let s = final cs m.p in
      let used : length s ≡ u = omega (arith, length-final m.p cs, count, steps-count) in
      let half = steps-few cs pairs m in
      ap (λ (x : List ℕ). pairs_in x (take u low) (take u high)) (finals_are cs pairs m count)
      ∙ pairs-words s (take u low) (take u high) (rests_on (length cs) m.p)
      (omega (arith, used, half, count, length-take u low, lows.long)) (omega (arith, used, half, count, length-take u high, highs.long))
      (omega (arith, length-final m.p cs, length-final m.p (alone_from 0 (length cs)), length-alone (length cs) 0))
      (λ n live.
      let l : n < u = omega (arith, used, alive-lt s n live) in
      (get_or-take u low n 0 l ∙ lows.is n live, get_or-take u high n 0 l ∙ highs.is n live))

-- nothing is stored of an empty list
pub none-stored : {items : List ℕ} → [] ≡ items → (space : List ℕ) → (Done 0 ≡ answer items space) × (space ≡ after items space)
none-stored e space =
    subst (λ (l : List ℕ). (Done 0 ≡ answer l space) × (space ≡ after l space)) e (put-done {items = []} (omega arith) (put-none space 0))
