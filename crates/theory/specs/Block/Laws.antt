-- Reading and storing in a block is reading and storing in its list. Assumes nothing.
use Rattle.std.specs.Prelude.{◌≡◌, ◌∷◌, ◌++◌, ◌-◌, ◌≤◌, ◌<◌}
use Rattle.theory.specs.Prelude.{refl, sym, ap, ◌∙◌, List, [], append_assoc, ℕ, zero, suc, arith, length, get_or}
use Rattle.theory.specs.Prelude.{set, take, replicate, length-append, length-replicate, length-set, set-append_seam, take_at}
use Rattle.std.proofs.lemmas.List.{set-append_left}
use Rattle.theory.specs.Block.{block}

module _ {A : Type 0} (k : ℕ) (d : A) where
  pub length-block : (l : List A) → length l ≤ k → length (block k d l) ≡ k
  length-block l h = simp (length-append, length-replicate) (omega arith)

  pub get_or-blank : (n i : ℕ) → get_or (replicate n d) i d ≡ d
  get_or-blank zero i = refl
  get_or-blank (suc n) zero = refl
  get_or-blank (suc n) (suc i) = get_or-blank n i

  pub get_or-block : (l : List A) (n : ℕ) → get_or (block k d l) n d ≡ get_or l n d
  get_or-block l n = at l n (k - length l)
    where
      at : (l : List A) (n m : ℕ) → get_or (l ++ replicate m d) n d ≡ get_or l n d
      at [] n m = get_or-blank m n
      at (x ∷ l) zero m = refl
      at (x ∷ l) (suc n) m = at l n m

  pub take-block : (l : List A) (n : ℕ) → n ≡ length l → take n (block k d l) ≡ l
  take-block l n e = take_at l (replicate (k - length l) d) n (sym e)

  -- a store inside the list
  pub set-block : (l : List A) (i : ℕ) (v : A) → i < length l → set (block k d l) i v ≡ block k d (set l i v)
  set-block l i v h = set-append_left l (replicate (k - length l) d) i v h ∙ ap (λ (n : ℕ). set l i v ++ replicate (k - n) d) (sym (length-set l i v))

  -- and one at its end
  pub store-block : (l : List A) (n : ℕ) (v : A) → n ≡ length l → n < k → set (block k d l) n v ≡ block k d (l ++ (v ∷ []))
  store-block l n v q h =
      let e : k - length l ≡ suc (k - suc (length l)) = omega arith in
      let f : k - suc (length l) ≡ k - length (l ++ (v ∷ [])) = omega (arith, length-append l (v ∷ [])) in
      ap (λ (i : ℕ). set (block k d l) i v) q
      ∙ ap (λ (m : ℕ). set (l ++ replicate m d) (length l) v) e
      ∙ set-append_seam l d (replicate (k - suc (length l)) d) v
      ∙ ap (λ (m : ℕ). l ++ v ∷ replicate m d) f
      ∙ sym (append_assoc l (v ∷ []) (replicate (k - length (l ++ (v ∷ []))) d))
