-- A list of numbers filled from the front. Assumes nothing.
use Rattle.std.specs.Prelude.{ℕ, suc, ◌+◌, ◌*◌, ◌≤◌, ◌<◌, ◌≡◌, ◌⊎◌, get_or, set}
use Rattle.std.proofs.Common.{add-one, ◌∙◌, inl, inr, length-drop, take-append-drop, drop-cons, take_at, take_all, length-take-le}
use native.Mathlib.Omega.{arith}
use Rattle.std.proofs.Math.Path.{refl, sym, ap}
use mathlib.Core.List.{List, [], ◌∷◌, ◌++◌, append_assoc, append-nil}
use Rattle.std.proofs.Math.ListN.{length, take, drop, length-set}
use Rattle.std.proofs.Math.Seq.{take-suc-set, drop-set-lt, drop-drop}
use Rattle.console.specs.Numbers.{numbers_in, numbers_for}

-- the first i places hold the first i numbers, the others what they held
pub record Filling (bytes list₀ : List ℕ) (i : ℕ) (list : List ℕ) : Type 0 where
  pub long : length list ≡ length list₀
  pub within : i ≤ length list₀
  pub read : 2 * i ≤ length bytes
  pub front : take i list ++ numbers_in (drop (2 * i) bytes) ≡ numbers_in bytes
  pub rest : drop i list ≡ drop i list₀

pub filling-none : (bytes list : List ℕ) → Filling bytes list 0 list
filling-none bytes list = record { long = refl; within = omega arith; read = omega arith; front = refl; rest = refl }

module _ {bytes list₀ : List ℕ} {i : ℕ} {list : List ℕ} (h : Filling bytes list₀ i list) where
  two-more : 2 * i + 2 ≤ length bytes → drop (2 * i) bytes ≡ get_or bytes (2 * i) 0 ∷ get_or bytes (2 * i + 1) 0 ∷ drop (2 * (i + 1)) bytes
  two-more l =
      let n : suc (2 * i) ≡ 2 * i + 1 = omega arith in
      let m : suc (2 * i + 1) ≡ 2 * (i + 1) = omega arith in
      drop-cons bytes (2 * i) 0 (omega arith)
      ∙ ap (λ (r : List ℕ). get_or bytes (2 * i) 0 ∷ r)
      (ap (λ (k : ℕ). drop k bytes) n ∙ drop-cons bytes (2 * i + 1) 0 (omega arith) ∙ ap (λ (k : ℕ). get_or bytes (2 * i + 1) 0 ∷ drop k bytes) m)

  pub filling-more : (v : ℕ) → i < length list₀ → 2 * i + 2 ≤ length bytes → v ≡ get_or bytes (2 * i) 0 + 256 * get_or bytes (2 * i + 1) 0
      → Filling bytes list₀ (i + 1) (set list i v)
  unfolding numbers_in
  filling-more v l m e =
      let r = numbers_in (drop (2 * (i + 1)) bytes) in
      let q : i < length list = rw h.long l in
      record {
        long = length-set list i v ∙ h.long;
        within = omega arith;
        read = omega arith;
        front =
            ap (λ (x : List ℕ). x ++ r) (ap (λ (k : ℕ). take k (set list i v)) (add-one i) ∙ take-suc-set list i v q)
            ∙ append_assoc (take i list) (v ∷ []) r
            ∙ ap (λ (x : List ℕ). take i list ++ x) (ap (λ (y : ℕ). y ∷ r) e ∙ sym (ap numbers_in (two-more m))) ∙ h.front;
        rest = drop-set-lt (i + 1) list i v (omega arith) ∙ sym (drop-drop 1 i list) ∙ ap (λ (l : List ℕ). drop 1 l) h.rest ∙ drop-drop 1 i list₀;
      }

  none_left : (l : List ℕ) → length l < 2 → numbers_in l ≡ []
  unfolding numbers_in
  none_left [] k = refl
  none_left (a ∷ []) k = refl
  none_left (a ∷ b ∷ l) k = absurd (omega arith)

  all_read : length bytes < 2 * i + 2 → take i list ≡ numbers_in bytes
  all_read l =
      let d : length (drop (2 * i) bytes) < 2 = omega (arith, length-drop (2 * i) bytes) in
      sym (append-nil (take i list)) ∙ ap (λ (x : List ℕ). take i list ++ x) (sym (none_left (drop (2 * i) bytes) d)) ∙ h.front

  front_long : length (take i list) ≡ i
  front_long = length-take-le i list (omega arith)

  front_is : (length list₀ ≤ i) ⊎ (length bytes < 2 * i + 2) → take i list ≡ numbers_for (length list₀) bytes
  unfolding numbers_for
  front_is (inl full) =
      let e : i ≡ length list₀ = omega arith in
      rw (← e) (sym (take_at (take i list) (numbers_in (drop (2 * i) bytes)) i front_long) ∙ ap (λ (l : List ℕ). take i l) h.front)
  front_is (inr read) =
      let a = all_read read in
      a ∙ sym (take_all (length list₀) (numbers_in bytes) (omega (arith, ap length a, front_long)))

  -- a list without room left, or a file without a number left: the list is filled
  pub filled : (length list₀ ≤ i) ⊎ (length bytes < 2 * i + 2)
      → (i ≡ length (numbers_for (length list₀) bytes)) × (list ≡ numbers_for (length list₀) bytes ++ drop i list₀)
  filled l =
      let e = front_is l in (
        sym front_long ∙ ap length e,
        sym (take-append-drop i list) ∙ ap (λ (f : List ℕ). f ++ drop i list) e ∙ ap (λ (r : List ℕ). numbers_for (length list₀) bytes ++ r) h.rest,
      )
