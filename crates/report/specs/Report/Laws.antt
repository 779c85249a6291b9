-- Laws of the report's bytes: pieces of its lines. Assumes nothing.
use Rattle.std.specs.Prelude.{◌+◌, ◌-◌, ◌*◌, ◌^◌, ◌≤◌, ◌<◌, ◌≡◌, ◌≢◌, ◌∷◌, ◌++◌}
use Rattle.theory.specs.Prelude.{ℕ, zero, suc, add-one, arith, refl, sym, ap, ap₂, ◌∙◌, subst, List, []}
use Rattle.theory.specs.Prelude.{map, append_assoc, append-nil, eq-eqb, ne_eqb, bit_and, count_trailing_zeros, length, get_or, take, drop, length-take}
use Rattle.theory.specs.Prelude.{drop_of_length-le, drop-cons, get_or-take}
use Rattle.space.specs.Text.{ascii, decimal}
use Rattle.theory.specs.declared.Verdict.TheVariants.{Over}
use Rattle.theory.specs.declared.JointKind.{JointKind}
use Rattle.theory.specs.declared.JointKind.TheVariants.{Ppp, Ppl, Pll, Lll}
use Rattle.theory.specs.declared.Ways.{Ways}
use Rattle.theory.specs.declared.Step.{Step}
use Rattle.engine.specs.Steps.{steps_for}
use Rattle.report.specs.Elements.{elements, constraints_of}
use Rattle.report.specs.Elements.Laws.{elements-lowest, elements-none, constraints-words}
use Rattle.report.specs.Report.{others, line, kind_name, ways_name, listed, verdict_line, elements_line, step_line, step_lines, cluster_line, slot_line}
use Rattle.report.specs.Report.{cluster_lines, over_report}
use Rattle.report.specs.Pieces.{numbers, above, wide, parts_words, kind_words, ways_words, rest_words, Small, AllSmall}

-- ---- a set's elements in a line

pub above-lowest : (first a : ℕ) → a < 2 ^ 64 → a ≢ 0
    → numbers (above first (elements a)) ≡ (32 ∷ decimal (first + count_trailing_zeros 64 a)) ++ numbers (above first (elements (bit_and a (a - 1))))
unfolding numbers
above-lowest first a l n = ap (λ (xs : List ℕ). numbers (above first xs)) (elements-lowest a l n)

pub above-none : (first : ℕ) → numbers (above first (elements 0)) ≡ []
unfolding numbers
above-none first = ap (λ (xs : List ℕ). numbers (above first xs)) elements-none

pub above_zero : (xs : List ℕ) → above 0 xs ≡ xs
above_zero [] = refl
above_zero (x ∷ xs) = let e : 0 + x ≡ x = omega arith in ap₂ (λ (y : ℕ) (ys : List ℕ). y ∷ ys) e (above_zero xs)

-- words that begin with numbers
pub others-numbers : (xs : List ℕ) (ws : List (List ℕ)) → others (map decimal xs ++ ws) ≡ numbers xs ++ others ws
unfolding numbers
others-numbers [] ws = refl
others-numbers (x ∷ xs) ws = rw (others-numbers xs ws, append_assoc)

pub others-listed : (xs : List ℕ) → others (map decimal xs) ≡ numbers xs ++ (10 ∷ [])
others-listed xs = rw (← append-nil (map decimal xs)) (others-numbers xs [])

-- ---- the pieces of a line, as they are put

kind-ways : (k : JointKind) (w : Ways) → others (ascii "kind" ∷ kind_name k ∷ ascii "ways" ∷ ways_name w ∷ []) ≡ kind_words k ++ ways_words w
kind-ways Ppp w = refl
kind-ways Ppl w = refl
kind-ways Pll w = refl
kind-ways Lll w = refl

parts_then : (made i j k : ℕ) (r : List ℕ)
    → ascii "step" ++ ((32 ∷ decimal made) ++ (ascii " from" ++ ((32 ∷ decimal i) ++ ((32 ∷ decimal j) ++ ((32 ∷ decimal k) ++ r)))))
    ≡ parts_words made i j k ++ r
parts_then made i j k r = simp append_assoc

pub step-pieces : (s : Step)
    → step_line s
    ≡ parts_words s.made s.i s.j s.k ++ (ascii " joint" ++ (numbers (elements s.joint) ++ (kind_words s.kind ++ ways_words s.ways)))
unfolding step_line
step-pieces s = rw (others-numbers, kind-ways) (parts_then s.made s.i s.j s.k _)

pub slot-dead : (c a r : ℕ) → a ≡ 0 → slot_line c a r ≡ []
unfolding slot_line
slot-dead c a r e = rw (eq-eqb a 0 e)

pub slot-any : (c a r : ℕ) → a ≢ 0
    → slot_line c a r
    ≡ ascii "cluster" ++ ((32 ∷ decimal c) ++ (ascii " holds" ++ (numbers (elements a) ++ (ascii " rests on" ++ (numbers (constraints_of r) ++ (10 ∷ []))))))
unfolding slot_line cluster_line
slot-any c a r n = rw (ne_eqb a 0 n, others-numbers, others-listed)

pub numbers-append : (xs ys : List ℕ) → numbers (xs ++ ys) ≡ numbers xs ++ numbers ys
unfolding numbers
numbers-append [] ys = refl
numbers-append (x ∷ xs) ys = rw (numbers-append xs ys, append_assoc)

-- what it rests on in two words
words-listed : (l h : ℕ) → l < 2 ^ 64 → h < 2 ^ 64
    → numbers (constraints_of (h * 2 ^ 64 + l)) ++ (10 ∷ []) ≡ numbers (elements l) ++ (numbers (above 64 (elements h)) ++ (10 ∷ []))
words-listed l h a b = rw (constraints-words l h a b, numbers-append, append_assoc)

pub slot-living : (c a l h : ℕ) → a ≢ 0 → l < 2 ^ 64 → h < 2 ^ 64
    → slot_line c a (h * 2 ^ 64 + l)
    ≡ ascii "cluster" ++ ((32 ∷ decimal c) ++ (ascii " holds" ++ (numbers (elements a) ++ rest_words l h)))
slot-living c a l h n x y =
    slot-any c a (h * 2 ^ 64 + l) n
    ∙ ap (λ (t : List ℕ). ascii "cluster" ++ ((32 ∷ decimal c) ++ (ascii " holds" ++ (numbers (elements a) ++ (ascii " rests on" ++ t)))))
    (words-listed l h x y)

last-lines : (first set : ℕ)
    → line (ascii "first" ∷ decimal first ∷ []) ++ line (ascii "set" ∷ listed set)
    ≡ ascii "first" ++ ((32 ∷ decimal first) ++ (ascii "\nset" ++ (numbers (elements set) ++ (10 ∷ []))))
last-lines first set =
    rw others-listed (append_assoc (ascii "first" ++ (32 ∷ decimal first)) (10 ∷ []) (ascii "set" ++ (numbers (elements set) ++ (10 ∷ []))))

pub over-pieces : (n e first set : ℕ)
    → over_report n e first set
    ≡ verdict_line Over ++ (elements_line n e ++ (ascii "first" ++ ((32 ∷ decimal first) ++ (ascii "\nset" ++ (numbers (elements set) ++ (10 ∷ []))))))
unfolding over_report
over-pieces n e first set = ap (λ (l : List ℕ). verdict_line Over ++ (elements_line n e ++ l)) (last-lines first set)

-- ---- one step, one cluster after another, of the first m of an array

front : {A : Type 0} (l : List A) (m i : ℕ) (d : A) → m ≤ length l → i < m → drop i (take m l) ≡ get_or l i d ∷ drop (i + 1) (take m l)
front l m i d long h =
    let k : i < length (take m l) = rw length-take (omega arith) in
    rw (add-one, drop-cons (take m l) i d k, get_or-take m l i d h)

past : {A : Type 0} (l : List A) (m i : ℕ) → m ≤ i → drop i (take m l) ≡ []
past l m i h =
    let k : length (take m l) ≤ i = rw length-take (omega arith) in
    drop_of_length-le (take m l) k

-- steps that are still to be put, from t on
pub steps_next : (at : ℕ → Step) (count t : ℕ) → t < count
    → step_lines (steps_for at t (count - t)) ≡ step_line (at t) ++ step_lines (steps_for at (t + 1) (count - (t + 1)))
unfolding step_lines steps_for
steps_next at count t h =
    ap (λ (k : ℕ). step_lines (steps_for at t k)) {x = count - t} {y = suc (count - (t + 1))} (omega arith)
    ∙ ap (λ (k : ℕ). step_line (at t) ++ step_lines (steps_for at k (count - (t + 1)))) {x = suc t} {y = t + 1} (omega arith)

pub steps-none : (at : ℕ → Step) (count t : ℕ) → count ≤ t → step_lines (steps_for at t (count - t)) ≡ []
unfolding step_lines steps_for
steps-none at count t h = ap (λ (k : ℕ). step_lines (steps_for at t k)) {x = count - t} {y = 0} (omega arith)

-- one step alone
pub steps-one : (at : ℕ → Step) (t : ℕ) → steps_for at t (t + 1 - t) ≡ at t ∷ []
unfolding steps_for
steps-one at t = ap (steps_for at t) {x = t + 1 - t} {y = 1} (omega arith)

small-from : (at : ℕ → Step) (k b t : ℕ) → AllSmall (steps_for at b k) → t < k → Small (at (b + t))
unfolding steps_for
small-from at zero b t a h = absurd (omega arith)
small-from at (suc k) b zero a h = subst (λ (n : ℕ). Small (at n)) {x = b} {y = b + 0} (omega arith) a.0
small-from at (suc k) b (suc t) a h =
    subst (λ (n : ℕ). Small (at n)) {x = suc b + t} {y = b + suc t} (omega arith) (small-from at k (suc b) t a.1 (omega arith))

pub small_at : (at : ℕ → Step) (first last t : ℕ) → AllSmall (steps_for at first (last - first)) → first ≤ t → t < last → Small (at t)
small_at at first last t a l h =
    subst (λ (n : ℕ). Small (at n)) {x = first + (t - first)} {y = t} (omega arith) (small-from at (last - first) first (t - first) a (omega arith))

-- one cluster after another, of the first m of two arrays
pub clusters-next : (slots rests : List ℕ) (m c : ℕ) → m ≤ length slots → m ≤ length rests → c < m
    → cluster_lines c (drop c (take m slots)) (drop c (take m rests))
    ≡ slot_line c (get_or slots c 0) (get_or rests c 0) ++ cluster_lines (c + 1) (drop (c + 1) (take m slots)) (drop (c + 1) (take m rests))
unfolding cluster_lines
clusters-next slots rests m c long wide h = rw (front slots m c 0 long h, front rests m c 0 wide h, add-one)

pub clusters-none : (slots rests : List ℕ) (m c : ℕ) → m ≤ c → cluster_lines c (drop c (take m slots)) (drop c (take m rests)) ≡ []
unfolding cluster_lines
clusters-none slots rests m c h = rw (past slots m c h)

-- only what stands at a living cluster's number counts
pub clusters-same : (c : ℕ) (slots xs ys : List ℕ) → length slots ≤ length xs → length slots ≤ length ys
    → ((n : ℕ) → get_or slots n 0 ≢ 0 → get_or xs n 0 ≡ get_or ys n 0) → cluster_lines c slots xs ≡ cluster_lines c slots ys
unfolding cluster_lines
clusters-same c [] xs ys l m h = refl
clusters-same c (a ∷ slots) [] ys l m h = absurd (omega arith)
clusters-same c (a ∷ slots) (x ∷ xs) [] l m h = absurd (omega arith)
clusters-same c (a ∷ slots) (x ∷ xs) (y ∷ ys) l m h =
    ap₂ (λ (s t : List ℕ). s ++ t) (first a (h 0)) (clusters-same (suc c) slots xs ys (omega arith) (omega arith) (λ n. h (suc n)))
  where
    first : (a : ℕ) → (a ≢ 0 → x ≡ y) → slot_line c a x ≡ slot_line c a y
    first zero e = slot-dead c 0 x refl ∙ sym (slot-dead c 0 y refl)
    first (suc a) e = ap (slot_line c (suc a)) (e (λ z. omega arith))

-- ---- sets in two words

pub length-wide : (low high : List ℕ) → length low ≡ length high → length (wide low high) ≡ length low
unfolding wide
length-wide [] high e = refl
length-wide (l ∷ low) [] e = absurd (omega arith)
length-wide (l ∷ low) (h ∷ high) e = ap suc (length-wide low high (omega arith))

pub wide_at : (low high : List ℕ) (n : ℕ) → length low ≡ length high → get_or (wide low high) n 0 ≡ get_or high n 0 * 2 ^ 64 + get_or low n 0
unfolding wide
wide_at [] [] n e = refl
wide_at [] (h ∷ high) n e = absurd (omega arith)
wide_at (l ∷ low) [] n e = absurd (omega arith)
wide_at (l ∷ low) (h ∷ high) zero e = refl
wide_at (l ∷ low) (h ∷ high) (suc n) e = wide_at low high n (omega arith)
