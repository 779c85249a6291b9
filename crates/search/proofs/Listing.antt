-- Sets of cluster numbers, one number after another. Assumes nothing.
use Rattle.std.specs.Prelude.{◌≡◌, ◌≢◌, ◌⊎◌, ◌∷◌, ◌+◌, ◌/◌, ◌%◌, ◌^◌, ◌<◌}
use Rattle.theory.specs.Prelude.{refl, sym, ap, ◌∙◌, subst, inl, inr, List, [], ℕ, zero, suc, arith, ℕ_discrete, bit_or, length, get_or, set}
use Rattle.theory.specs.Prelude.{replicate, length-set, get_or-set_same, get_or-set_other}
use Rattle.theory.specs.Block.Laws.{get_or-blank}
use Rattle.theory.specs.Set.{◌∈◌, ◌∪◌, at}
use Rattle.theory.specs.Set.Laws.{at_zero, at_same, at_other, ∈-∪⁻, ∈-∪ˡ, ∈-∪ʳ}
use Rattle.theory.specs.Merge.{Part, merge}
use Rattle.search.specs.State.{waits}
use Rattle.search.specs.Words.{Listed, SetOf}

-- the words are the set of the first k numbers
pub record Listing (numbers words : List ℕ) (k : ℕ) : Type 0 where
  pub long : length words ≡ 3
  pub only : (n : ℕ) → waits words n ≡ 1 → (j : ℕ) × (j < k) × (get_or numbers j 0 ≡ n)
  pub every : (j : ℕ) → j < k → waits words (get_or numbers j 0) ≡ 1

pub listing-none : {numbers : List ℕ} → Listing numbers (replicate 3 0) 0
listing-none = record {
  long = refl;
  only = λ n e. absurd (omega (arith, ap (at (n % 64)) (get_or-blank 0 0 3 (n / 64)), at_zero (n % 64)));
  every = λ j l. absurd (omega arith);
}

module _ {numbers words : List ℕ} {k : ℕ} (w : Listing numbers words k) (n : ℕ) (is : n ≡ get_or numbers k 0) (low : n < 192) where
  -- the words with n
  more : List ℕ
  more = set words (n / 64) (bit_or (get_or words (n / 64) 0) (2 ^ (n % 64)))

  here : (m : ℕ) → m / 64 ≡ n / 64 → get_or more (m / 64) 0 ≡ bit_or (get_or words (m / 64) 0) (2 ^ (n % 64))
  unfolding more
  here m e =
      ap (λ (v : ℕ). get_or more v 0) e ∙ get_or-set_same words (n / 64) _ 0 (omega (arith, w.long))
      ∙ ap (λ (v : ℕ). bit_or (get_or words v 0) (2 ^ (n % 64))) (sym e)

  there : (m : ℕ) → m / 64 ≢ n / 64 → waits more m ≡ waits words m
  unfolding more
  there m e = ap (at (m % 64)) (get_or-set_other words (n / 64) (m / 64) _ 0 e)

  stays : (m : ℕ) → waits words m ≡ 1 → waits more m ≡ 1
  unfolding ◌∪◌
  stays m e = by (ℕ_discrete (m / 64) (n / 64))
    where
      by : Dec (m / 64 ≡ n / 64) → waits more m ≡ 1
      by (yes f) = ap (at (m % 64)) (here m f) ∙ ∈-∪ˡ (m % 64) (get_or words (m / 64) 0) (2 ^ (n % 64)) e
      by (no f) = there m f ∙ e

  pub listing-next : Listing numbers (set words (n / 64) (bit_or (get_or words (n / 64) 0) (2 ^ (n % 64)))) (k + 1)
  unfolding more ◌∪◌
  listing-next = record {
    long = length-set words (n / 64) _ ∙ w.long;
    only = λ m e. only m e (ℕ_discrete (m / 64) (n / 64));
    every = λ j l. every j l (ℕ_discrete j k);
  }
    where
      old : (m : ℕ) → waits words m ≡ 1 → (j : ℕ) × (j < k + 1) × (get_or numbers j 0 ≡ m)
      old m e = let h = w.only m e in (h.0, omega (arith, h.1), h.2)

      only : (m : ℕ) → waits more m ≡ 1 → Dec (m / 64 ≡ n / 64) → (j : ℕ) × (j < k + 1) × (get_or numbers j 0 ≡ m)
      only m e (no f) = old m (sym (there m f) ∙ e)
      only m e (yes f) =
          by (∈-∪⁻ (m % 64) (get_or words (m / 64) 0) (2 ^ (n % 64)) (sym (ap (at (m % 64)) (here m f)) ∙ e)) (ℕ_discrete (m % 64) (n % 64))
        where
          by : (m % 64 ∈ get_or words (m / 64) 0) ⊎ (m % 64 ∈ 2 ^ (n % 64)) → Dec (m % 64 ≡ n % 64) → (j : ℕ) × (j < k + 1) × (get_or numbers j 0 ≡ m)
          by (inl h) d = old m h
          by (inr h) (yes g) = (k, omega arith, sym is ∙ omega arith)
          by (inr h) (no g) = absurd (omega (arith, at_other (m % 64) (n % 64) g))

      every : (j : ℕ) → j < k + 1 → Dec (j ≡ k) → waits more (get_or numbers j 0) ≡ 1
      every j l (no d) = stays (get_or numbers j 0) (w.every j (omega (arith, d)))
      every j l (yes d) =
          subst (λ (m : ℕ). waits more m ≡ 1) (is ∙ ap (λ (i : ℕ). get_or numbers i 0) (sym d))
          (ap (at (n % 64)) (here n refl) ∙ ∈-∪ʳ (n % 64) (get_or words (n / 64) 0) (2 ^ (n % 64)) (at_same (n % 64)))

pub listing-all : {numbers words : List ℕ} {k : ℕ} → Listing numbers words k → k ≡ length numbers → SetOf words (Listed numbers)
listing-all {numbers} {words} {k} w e = record {
  only = λ n l h. let j = w.only n h in (j.0, omega (arith, j.1), j.2);
  every = λ n l (j, m, is). ap (waits words) (sym is) ∙ w.every j (omega arith);
}

-- ---- one number, and three

pub one_of : {words : List ℕ} {n : ℕ} → SetOf words (Listed (n ∷ [])) → SetOf words (λ c. c ≡ n)
one_of {words} {n} w = record {
  only = λ c l h. let j = w.only c l h in only c j.0 j.1 j.2;
  every = λ c l e. w.every c l (0, omega arith, sym e);
}
  where
    only : (c j : ℕ) → j < 1 → get_or (n ∷ []) j 0 ≡ c → c ≡ n
    only c zero l e = sym e
    only c (suc j) l e = absurd (omega arith)

pub three-of : {words : List ℕ} {i j k : ℕ} → SetOf words (Listed (i ∷ j ∷ k ∷ [])) → SetOf words (λ c. Part c (merge i j k))
three-of {words} {i} {j} {k} w = record {
  only = λ c l h. let x = w.only c l h in only c x.0 x.1 x.2;
  every = λ c l p. w.every c l (every c p);
}
  where
    only : (c x : ℕ) → x < 3 → get_or (i ∷ j ∷ k ∷ []) x 0 ≡ c → Part c (merge i j k)
    only c zero l e = inl (sym e)
    only c (suc zero) l e = inr (inl (sym e))
    only c (suc (suc zero)) l e = inr (inr (sym e))
    only c (suc (suc (suc x))) l e = absurd (omega arith)

    every : (c : ℕ) → Part c (merge i j k) → Listed (i ∷ j ∷ k ∷ []) c
    every c (inl e) = (0, omega arith, sym e)
    every c (inr (inl e)) = (1, omega arith, sym e)
    every c (inr (inr e)) = (2, omega arith, sym e)
