-- Laws of the block: one piece of writing after another is the writing of both; what the table holds of a number. Assumes nothing.
use Rattle.std.specs.Prelude.{◌+◌, ◌*◌, ◌-◌, ◌/◌, ◌%◌, ◌≤◌, ◌<◌, ◌≡◌, ◌∷◌, ◌++◌}
use Rattle.theory.specs.Prelude.{ℕ, zero, suc, add-zero, zero-add, add-suc, suc-add, arith, refl, sym, ap}
use Rattle.theory.specs.Prelude.{ap₂, ◌∙◌, Bool, true, false, cond, List, [], append_assoc, append-nil, T, ltb, eqb, eqb→eq, length, get_or}
use Rattle.theory.specs.Prelude.{take, set, length-append, replicate, sets, length-take-le, take_at}
use Rattle.std.proofs.lemmas.List.Edits.{sets-eq}
use Rattle.std.proofs.Math.Seq.{length-sets}
use Rattle.std.proofs.lemmas.List.{take-set-le}
use Rattle.theory.specs.Tests.{and_both}
use Rattle.space.specs.Space.{Put}
use Rattle.space.specs.Space.Laws.{put-none, sets-append}
use Rattle.space.specs.Text.{decimal, digit}
use Rattle.report.specs.Block.{Stands, numeral_byte, all_numerals, Numerals}

-- ---- pieces of writing

behind : (n : ℕ) (xs l : List ℕ) (i : ℕ) → n ≤ i → take n (sets l i xs) ≡ take n l
behind n [] l i h = refl
behind n (x ∷ xs) l i h = behind n xs (set l i x) (suc i) (omega arith) ∙ take-set-le n l i x h

-- items are stored, and others behind them
pub stands-front : (items others : List ℕ) {space after : List ℕ} {at next : ℕ} → next ≡ at + length items → after ≡ sets space at (items ++ others)
    → Stands space at items next after
stands-front items others {space} {after} {at} {next} n e = record {
  next_is = n;
  length_is = ap length e ∙ length-sets space at (items ++ others);
  front_is = λ h.
      let long : length (take at space ++ items) ≡ next = length-append (take at space) items
      ∙ ap (λ (k : ℕ). k + length items) (length-take-le at space (omega arith)) ∙ sym n in
      ap (take next) (e ∙ sets-append items others space at)
      ∙ behind next others (sets space at items) (at + length items) (omega arith)
      ∙ ap (take next) (sets-eq items space at (omega arith))
      ∙ take_at (take at space ++ items) _ next long;
}

pub stands-all : {space items after : List ℕ} {at next : ℕ} → next ≡ at + length items → after ≡ sets space at items
    → Stands space at items next after
stands-all {items = items} n e = stands-front items [] n (rw append-nil e)

pub stands-put : {space items after : List ℕ} {at next : ℕ} → Put space at items next after → Stands space at items next after
stands-put {space} {items} {after} {at} {next} p = record {
  next_is = p.next_is;
  length_is = p.length_is;
  front_is = λ h. (stands-all p.next_is (p.after_is (omega (arith, p.next_is)))).front_is h;
}

pub stands-none : (space : List ℕ) (at : ℕ) → Stands space at [] at space
stands-none space at = stands-put (put-none space at)

pub stands-as : {space s1 xs ys : List ℕ} {at next : ℕ} → xs ≡ ys → Stands space at xs next s1 → Stands space at ys next s1
stands-as e p = rw e at p

infixl 5 ◌then◌
pub ◌then◌ : {space s1 s2 xs ys : List ℕ} {at a1 a2 : ℕ} → Stands space at xs a1 s1 → Stands s1 a1 ys a2 s2 → Stands space at (xs ++ ys) a2 s2
◌then◌ {space} {s1} {s2} {xs} {ys} {at} {a1} {a2} p q = record {
  next_is = rw length-append (omega (arith, p.next_is, q.next_is));
  length_is = q.length_is ∙ p.length_is;
  front_is = λ h.
      q.front_is (omega (arith, p.length_is))
      ∙ ap (λ (l : List ℕ). l ++ ys) (p.front_is (omega (arith, q.next_is)))
      ∙ append_assoc (take at space) xs ys;
}

-- ---- the table

from : (xs : List ℕ) (i : ℕ) → T (all_numerals i xs) → (k : ℕ) → k < length xs → get_or xs k 0 ≡ numeral_byte (i + k)
unfolding all_numerals
from [] i t k h = absurd (omega arith)
from (x ∷ xs) i t zero h = rw add-zero (eqb→eq x (numeral_byte i) (and_both (eqb x (numeral_byte i)) (all_numerals (suc i) xs) t).0)
from (x ∷ xs) i t (suc k) h =
    rw (add-suc, ← suc-add) (from xs (suc i) (and_both (eqb x (numeral_byte i)) (all_numerals (suc i) xs) t).1 k (omega arith))

-- byte j of the four of a number
pub byte_at : {text : List ℕ} → Numerals text → (n j : ℕ) → n < 256 → j < 4 → get_or text (4 * n + j) 0 ≡ get_or (32 ∷ decimal n) j 32
byte_at {text} t n j few h =
    let q : (4 * n + j) / 4 ≡ n = omega arith in
    let r : (4 * n + j) % 4 ≡ j = omega arith in
    rw zero-add at (from text 0 t.right (4 * n + j) (omega (arith, t.length_is)))
    ∙ ap₂ (λ (m k : ℕ). get_or (32 ∷ decimal m) k 32) q r

-- they begin with the number
pub four_bytes : (n : ℕ) → (
    get_or (32 ∷ decimal n) 0 32 ∷ get_or (32 ∷ decimal n) 1 32 ∷ get_or (32 ∷ decimal n) 2 32 ∷ get_or (32 ∷ decimal n) 3 32 ∷ []
    ) ≡ (32 ∷ decimal n) ++ replicate (3 - length (decimal n)) 32
unfolding decimal
four_bytes n = by_digits (ltb n 10) (ltb n 100)
  where
    of : Bool → Bool → List ℕ
    of a b = cond a (digit n ∷ []) (cond b (digit (n / 10) ∷ digit (n % 10) ∷ []) (digit (n / 100) ∷ digit (n / 10 % 10) ∷ digit (n % 10) ∷ []))

    by_digits : (a b : Bool) → (
        get_or (32 ∷ of a b) 0 32 ∷ get_or (32 ∷ of a b) 1 32 ∷ get_or (32 ∷ of a b) 2 32 ∷ get_or (32 ∷ of a b) 3 32 ∷ []
        ) ≡ (32 ∷ of a b) ++ replicate (3 - length (of a b)) 32
    by_digits true b = refl
    by_digits false true = refl
    by_digits false false = refl
