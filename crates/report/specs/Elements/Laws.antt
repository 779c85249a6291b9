-- Laws of a set's elements, listed: the lowest comes first, and those of the set without it follow; they are not more than the set's size,
-- and not more than 64. Assumes nothing.
use Rattle.std.specs.Prelude.{◌+◌, ◌-◌, ◌*◌, ◌/◌, ◌%◌, ◌^◌, ◌≤◌, ◌<◌, ◌≡◌, ◌≢◌, ◌∷◌, ◌++◌}
use Rattle.theory.specs.Prelude.{ℕ, zero, suc, arith, refl, sym, ap, ap₂, ◌∙◌, List, []}
use Rattle.theory.specs.Prelude.{map, append-nil, bit_and, and_step, and_self, ones, ones_step, count_trailing_zeros, under, length, length-map}
use Rattle.std.specs.Int.Bits.{block_half, block_odd}
use Rattle.theory.specs.Set.{at}
use Rattle.theory.specs.Set.Laws.{at_zero, at-le, out}
use Rattle.theory.specs.Set.Less.{at-below}
use Rattle.report.specs.Elements.{member, among, elements, constraints_of}

-- ---- one digit after another

member-suc : (d x : ℕ) (xs : List ℕ) → member d (suc x) (map suc xs) ≡ map suc (member d x xs)
member-suc zero x xs = refl
member-suc (suc d) x xs = refl

-- the elements from 1 on are those of the half, each one higher
among-half : (k x a : ℕ) → among k (suc x) a ≡ map suc (among k x (a / 2))
unfolding among at
among-half zero x a = refl
among-half (suc k) x a = ap (member (at x (a / 2)) (suc x)) (among-half k (suc x) a) ∙ member-suc (at x (a / 2)) x (among k (suc x) (a / 2))

among-digit : (k a d h : ℕ) → a % 2 ≡ d → a / 2 ≡ h → among (suc k) 0 a ≡ member d 0 (map suc (among k 0 h))
unfolding among at
among-digit k a d h e f = rw (e, among-half k 0 a, f)

-- ---- the lowest element, and the set without it

lowest : (k a : ℕ) → a < 2 ^ k → a ≢ 0 → among k 0 a ≡ count_trailing_zeros k a ∷ among k 0 (bit_and a (a - 1))
unfolding count_trailing_zeros
lowest zero a l n = absurd (n (omega arith))
lowest (suc k) a l n = go (a % 2) refl (lowest k (a / 2))
  where
    go : (d : ℕ) → a % 2 ≡ d
        → (a / 2 < 2 ^ k → a / 2 ≢ 0 → among k 0 (a / 2) ≡ count_trailing_zeros k (a / 2) ∷ among k 0 (bit_and (a / 2) (a / 2 - 1)))
        → among (suc k) 0 a ≡ under d (count_trailing_zeros k (a / 2)) ∷ among (suc k) 0 (bit_and a (a - 1))
    go zero e ih =
        let h : (a - 1) / 2 ≡ a / 2 - 1 = omega arith in
        let f = and_step a (a - 1) in
        among-digit k a 0 (a / 2) e refl ∙ ap (map suc) (ih (omega arith) (λ z. n (omega arith)))
        ∙ ap (λ (xs : List ℕ). suc (count_trailing_zeros k (a / 2)) ∷ xs)
        (sym (among-digit k (bit_and a (a - 1)) 0 (bit_and (a / 2) (a / 2 - 1)) (omega arith) (omega (arith, ap (bit_and (a / 2)) h))))
    go (suc d) e ih =
        let h : (a - 1) / 2 ≡ a / 2 = omega arith in
        let f = and_step a (a - 1) in
        among-digit k a 1 (a / 2) (omega arith) refl
        ∙ ap (λ (xs : List ℕ). 0 ∷ xs)
        (sym (among-digit k (bit_and a (a - 1)) 0 (a / 2) (omega arith) (omega (arith, ap (bit_and (a / 2)) h, and_self (a / 2)))))

pub elements-lowest : (a : ℕ) → a < 2 ^ 64 → a ≢ 0 → elements a ≡ count_trailing_zeros 64 a ∷ elements (bit_and a (a - 1))
unfolding elements
elements-lowest a l n = lowest 64 a l n

none : (k x : ℕ) → among k x 0 ≡ []
unfolding among
none zero x = refl
none (suc k) x = rw at_zero (none k (suc x))

pub elements-none : elements 0 ≡ []
unfolding elements
elements-none = none 64 0

-- ---- how many they are

length-member : (d x : ℕ) (xs : List ℕ) → d < 2 → length (member d x xs) ≡ d + length xs
length-member zero x xs l = omega arith
length-member (suc zero) x xs l = omega arith
length-member (suc (suc d)) x xs l = absurd (omega arith)

size : (k a : ℕ) → length (among k 0 a) ≤ ones a
unfolding among
size zero a = omega arith
size (suc k) a =
    rw (among-digit k a (a % 2) (a / 2) refl refl)
    (omega (
      arith,
      length-member (a % 2) 0 (map suc (among k 0 (a / 2))) (omega arith),
      length-map (among k 0 (a / 2)) suc,
      size k (a / 2),
      ones_step a,
    ))

pub elements-size : (a : ℕ) → length (elements a) ≤ ones a
unfolding elements
elements-size a = size 64 a

pub constraints-size : (a : ℕ) → length (constraints_of a) ≤ ones a
unfolding constraints_of
constraints-size a = size 200 a

most : (k x a : ℕ) → length (among k x a) ≤ k
unfolding among
most zero x a = omega arith
most (suc k) x a =
    omega (arith, length-member (at x a) x (among k (suc x) a) (omega (arith, at-le x a)), at-le x a, most k (suc x) a)

pub elements-most : (a : ℕ) → length (elements a) ≤ 64
unfolding elements
elements-most a = most 64 0 a

-- ---- in two words

-- the first k, then j more
member-append : (d x : ℕ) (xs ys : List ℕ) → member d x (xs ++ ys) ≡ member d x xs ++ ys
member-append zero x xs ys = refl
member-append (suc d) x xs ys = refl

among-split : (k j n x y a : ℕ) → n ≡ k + j → y ≡ x + k → among n x a ≡ among k x a ++ among j y a
unfolding among
among-split zero j n x y a e f =
    let g : n ≡ j = omega arith in
    let h : x ≡ y = omega arith in
    ap₂ (λ (m z : ℕ). among m z a) g h
among-split (suc k) j zero x y a e f = absurd (omega arith)
among-split (suc k) j (suc n) x y a e f =
    ap (member (at x a) x) (among-split k j n (suc x) y a (omega arith) (omega arith)) ∙ member-append (at x a) x (among k (suc x) a) (among j y a)

-- the same digits give the same elements
among_same : (k x a b : ℕ) → ((y : ℕ) → x ≤ y → y < x + k → at y a ≡ at y b) → among k x a ≡ among k x b
unfolding among
among_same zero x a b h = refl
among_same (suc k) x a b h =
    ap₂ (λ (d : ℕ) (xs : List ℕ). member d x xs) (h x (omega arith) (omega arith)) (among_same k (suc x) a b (λ y l m. h y (omega arith) (omega arith)))

-- digits further up
member-shift : (d f x : ℕ) (xs : List ℕ) → member d (f + x) (map (λ (y : ℕ). f + y) xs) ≡ map (λ (y : ℕ). f + y) (member d x xs)
member-shift zero f x xs = refl
member-shift (suc d) f x xs = refl

among-shift : (k f x a b : ℕ) → ((y : ℕ) → at (f + y) a ≡ at y b) → among k (f + x) a ≡ map (λ (y : ℕ). f + y) (among k x b)
unfolding among
among-shift zero f x a b h = refl
among-shift (suc k) f x a b h =
    ap₂ (λ (d : ℕ) (xs : List ℕ). member d (f + x) xs) (h x)
    (ap (λ (z : ℕ). among k z a) {x = suc (f + x)} {y = f + suc x} (omega arith) ∙ among-shift k f (suc x) a b h)
    ∙ member-shift (at x b) f x (among k (suc x) b)

none_from : (k x a : ℕ) → ((y : ℕ) → x ≤ y → at y a ≡ 0) → among k x a ≡ []
none_from k x a h = among_same k x a 0 (λ y l m. h y l ∙ sym (at_zero y)) ∙ none k x

at_low : (k x h l : ℕ) → x < k → at x (h * 2 ^ k + l) ≡ at x l
unfolding at
at_low zero x h l m = absurd (omega arith)
at_low (suc k) zero h l m = block_odd h k l
at_low (suc k) (suc x) h l m = ap (at x) (block_half h k l) ∙ at_low k x h (l / 2) (omega arith)

at_high : (k x h l : ℕ) → l < 2 ^ k → at (k + x) (h * 2 ^ k + l) ≡ at x h
unfolding at
at_high zero x h l m =
    let f : 0 + x ≡ x = omega arith in
    let g : h * 1 + l ≡ h = omega arith in
    ap₂ at f g
at_high (suc k) x h l m =
    ap (λ (z : ℕ). at z (h * 2 ^ suc k + l)) {x = suc k + x} {y = suc (k + x)} (omega arith)
    ∙ ap (at (k + x)) (block_half h k l) ∙ at_high k x h (l / 2) (omega arith)

-- the constraint numbers of a set in two words
pub constraints-words : (l h : ℕ) → l < 2 ^ 64 → h < 2 ^ 64
    → constraints_of (h * 2 ^ 64 + l) ≡ elements l ++ map (λ (x : ℕ). 64 + x) (elements h)
unfolding constraints_of elements
constraints-words l h a b =
    let r = h * 2 ^ 64 + l in
    let beyond : (y : ℕ) → 64 ≤ y → at y h ≡ 0 = λ y m. out y h (λ i. omega (arith, at-below 64 y h b i)) in
    let low = among_same 64 0 r l (λ y m n. at_low 64 y h l (omega arith)) in
    let high = among-shift 136 64 0 r h (λ y. at_high 64 y h l a) in
    let rest = among-split 64 72 136 0 64 h refl refl ∙ ap (λ (xs : List ℕ). among 64 0 h ++ xs) (none_from 72 64 h beyond) ∙ append-nil (among 64 0 h) in
    among-split 64 136 200 0 64 r refl refl
    ∙ ap₂ (λ (xs ys : List ℕ). xs ++ ys) low (high ∙ ap (map (λ (x : ℕ). 64 + x)) rest)
