-- Laws of the kinds in two numbers: their bytes, one after the other, are those of the one number. Assumes nothing.
use Rattle.std.specs.Prelude.{◌+◌, ◌*◌, ◌-◌, ◌/◌, ◌%◌, ◌^◌, ◌≤◌, ◌<◌, ◌≡◌, ◌∷◌, ◌++◌}
use Rattle.theory.specs.Prelude.{ℕ, zero, suc, min, pow-zero, pow-succ', pow-le-pow_right, mul-add, zero-add}
use Rattle.theory.specs.Prelude.{one-mul, add-one, dec_le, arith, refl, sym, ap, ◌∙◌, subst, true, List, [], append-nil, append_assoc}
use Rattle.theory.specs.Prelude.{T, length, take, drop, get_or, take-append-drop, drop_of_length-le, length-drop, take_all, take-suc}
use Rattle.theory.specs.Prelude.{length-take-le, drop_at}
use native.Mathlib.Nat.{mul_assoc, add_assoc}
use Rattle.sheet.specs.declared.Opening.{Opening}
use Rattle.sheet.specs.declared.Opening.TheVariants.{Pf01, Pf02}
use Rattle.sheet.specs.declared.Kind.{Kind}
use Rattle.sheet.specs.declared.Kind.TheVariants.{Point, Line, Circle}
use Rattle.sheet.specs.declared.Element.{Element}
use Rattle.sheet.specs.Facts.{kind_base, kind_digit, kinds_number}
use Rattle.sheet.specs.Facts.Laws.{and-true, kinds_number-below}
use Rattle.sheet.specs.Field.{digits, kind_bytes}
use Rattle.sheet.specs.Rules.{kind_allowed, kinds_allowed}
use Rattle.sheet.specs.Encode.{radius_bytes, radii_bytes}
use Rattle.writer.specs.Spread.{kinds_in_eight}

-- ---- a place cut to the end

module _ {A : Type 0} (s : List A) (k : ℕ) where
  pub drop-least : drop (min (length s) k) s ≡ drop k s
  drop-least = by (dec_le (length s) k)
    where
      by : Dec (length s ≤ k) → drop (min (length s) k) s ≡ drop k s
      by (no n) = let e : min (length s) k ≡ k = omega arith in rw e
      by (yes l) =
          let e : min (length s) k ≡ length s = omega arith in
          rw (e, drop_of_length-le s {i = k} l) (drop_of_length-le s {i = length s} (omega arith))

  pub take-least : take (min (length s) k) s ≡ take k s
  take-least = by (dec_le (length s) k)
    where
      by : Dec (length s ≤ k) → take (min (length s) k) s ≡ take k s
      by (no n) = let e : min (length s) k ≡ k = omega arith in rw e
      by (yes l) =
          let e : min (length s) k ≡ length s = omega arith in
          rw (e, take_all k s l) (take_all (length s) s (omega arith))

-- ---- some of the elements are allowed where all are

module _ (o : Opening) where
  pub allowed-take : (k : ℕ) (es : List Element) → kinds_allowed o es ≡ true → kinds_allowed o (take k es) ≡ true
  unfolding kinds_allowed
  allowed-take zero es e = refl
  allowed-take (suc k) [] e = refl
  allowed-take (suc k) (x ∷ es) e =
      let both = and-true (kind_allowed o x.kind) (kinds_allowed o es) e in rw (both.0, allowed-take k es both.1)

  pub allowed-drop : (k : ℕ) (es : List Element) → kinds_allowed o es ≡ true → kinds_allowed o (drop k es) ≡ true
  unfolding kinds_allowed
  allowed-drop zero es e = e
  allowed-drop (suc k) [] e = refl
  allowed-drop (suc k) (x ∷ es) e =
      let both = and-true (kind_allowed o x.kind) (kinds_allowed o es) e in allowed-drop k es both.1

-- PF01 has no radii
pub no-radii : (es : List Element) → kinds_allowed Pf01 es ≡ true → radii_bytes es ≡ []
unfolding kinds_allowed radii_bytes
no-radii [] e = refl
no-radii (x ∷ es) e =
    let both = and-true (kind_allowed Pf01 x.kind) (kinds_allowed Pf01 es) e in rw (no-radii es both.1, append-nil) (none x.kind both.0)
  where
    none : (k : Kind) → kind_allowed Pf01 k ≡ true → radius_bytes k ≡ []
    none Point e = refl
    none Line e = refl
    none (Circle r) e = absurd (subst T (sym e) tt)

-- one radius more
radii-append : (xs ys : List Element) → radii_bytes (xs ++ ys) ≡ radii_bytes xs ++ radii_bytes ys
unfolding radii_bytes
radii-append [] ys = refl
radii-append (x ∷ xs) ys = rw (radii-append xs ys, append_assoc)

pub radii-more : (es : List Element) (i : ℕ) (d : Element) → i + 1 ≤ length es
    → radii_bytes (take (i + 1) es) ≡ radii_bytes (take i es) ++ radius_bytes (get_or es i d).kind
unfolding radii_bytes
radii-more es i d h = rw (add-one, take-suc es i d (omega arith), radii-append (take i es) (get_or es i d ∷ []), append-nil)

-- ---- one kind more, in a number of eight bytes

eight : (o : Opening) → kind_base o ^ kinds_in_eight o ≡ 2 ^ 64
eight Pf01 = refl
eight Pf02 = refl

pub base-pos : (o : Opening) → 1 ≤ kind_base o
base-pos Pf01 = omega arith
base-pos Pf02 = omega arith

pub below-eight : (o : Opening) (es : List Element) → kinds_allowed o es ≡ true → length es ≤ kinds_in_eight o → kinds_number o es < 2 ^ 64
below-eight o es e h =
    omega (arith, kinds_number-below o es e, pow-le-pow_right {n = kind_base o} (base-pos o) h, eight o)

-- the kinds are passed from the last one on: what is left, and the number of those passed
pub record Passed (o : Opening) (es rest : List Element) (u : ℕ) : Type 0 where
  pub done : List Element
  pub whole : es ≡ rest ++ done
  pub number_is : u ≡ kinds_number o done

pub passed-none : (o : Opening) {es rest : List Element} → rest ≡ es → Passed o es rest 0
unfolding kinds_number
passed-none o e = record { done = []; whole = sym (rw (e, append-nil)); number_is = refl }

pub passed_all : {o : Opening} {es : List Element} {u : ℕ} (rest : List Element) → length rest ≡ 0 → Passed o es rest u → u ≡ kinds_number o es
passed_all {o} [] e p = p.number_is ∙ ap (kinds_number o) (sym p.whole)
passed_all (x ∷ rest) e p = absurd (omega arith)

module _ {o : Opening} {es rest : List Element} {u : ℕ} (left : List Element) (x : Element) (last : rest ≡ left ++ x ∷ [])
    (p : Passed o es rest u) where
  pub one_more : {v : ℕ} → v ≡ kind_base o * u + kind_digit x.kind → Passed o es left v
  unfolding kinds_number
  one_more e =
      record { done = x ∷ p.done; whole = p.whole ∙ rw (last, append_assoc); number_is = e ∙ rw p.number_is (omega arith) }

  pub more-fits : length es ≤ kinds_in_eight o → kinds_allowed o es ≡ true → kind_base o * u + kind_digit x.kind < 2 ^ 64
  more-fits few allowed =
      let more = one_more refl in
      let some : drop (length left) es ≡ more.done = ap (drop (length left)) more.whole ∙ drop_at left more.done (length left) refl in
      rw (more.number_is, ← some) (below-eight o _ (allowed-drop o (length left) es allowed) (omega (arith, length-drop (length left) es)))

-- ---- the bytes of a number, in two parts

digits-split : (a b u v : ℕ) → u < 256 ^ a → digits (a + b) (u + 256 ^ a * v) ≡ digits a u ++ digits b v
unfolding digits
digits-split zero b u v h =
    let none : u ≡ 0 = omega (arith, pow-zero 256) in
    let one : u + 256 ^ 0 * v ≡ v = rw (none, one-mul v) (zero-add v) in
    rw (zero-add b, one)
digits-split (suc a) b u v h =
    let grown : 256 ^ suc a * v ≡ 256 * (256 ^ a * v) = rw (pow-succ' 256 a) (mul_assoc 256 (256 ^ a) v) in
    let low : (u + 256 * (256 ^ a * v)) % 256 ≡ u % 256 = omega arith in
    let high : (u + 256 * (256 ^ a * v)) / 256 ≡ u / 256 + 256 ^ a * v = omega arith in
    let less : u / 256 < 256 ^ a = omega (arith, pow-succ' 256 a) in
    let more : suc a + b ≡ suc (a + b) = omega arith in
    rw (more, grown, low, high, digits-split a b (u / 256) v less)

kinds_number-append : (o : Opening) (xs ys : List Element)
    → kinds_number o (xs ++ ys) ≡ kinds_number o xs + kind_base o ^ length xs * kinds_number o ys
unfolding kinds_number
kinds_number-append o [] ys = rw (pow-zero (kind_base o)) (sym (zero-add _ ∙ one-mul (kinds_number o ys)))
kinds_number-append o (x ∷ xs) ys =
    rw (
      kinds_number-append o xs ys,
      pow-succ' (kind_base o) (length xs),
      mul_assoc (kind_base o) (kind_base o ^ length xs) (kinds_number o ys),
      mul-add (kind_base o) (kinds_number o xs) (kind_base o ^ length xs * kinds_number o ys),
    ) (sym (add_assoc (kind_digit x.kind) _ _))

-- eight bytes more hold the rest
pub rest-few : (o : Opening) (n : ℕ) → n ≤ 64 → n ≤ min n (kinds_in_eight o) + kinds_in_eight o
rest-few Pf01 n h = omega arith
rest-few Pf02 n h = omega arith

-- how many bytes the two parts have
none-bytes : (o : Opening) → kind_bytes o 0 ≡ 0
none-bytes Pf01 = refl
none-bytes Pf02 = refl

eight-bytes : (o : Opening) → kind_bytes o (kinds_in_eight o) ≡ 8
eight-bytes Pf01 = refl
eight-bytes Pf02 = refl

more_bytes : (o : Opening) (n : ℕ) → kinds_in_eight o ≤ n → kind_bytes o n ≡ 8 + kind_bytes o (n - kinds_in_eight o)
more_bytes Pf01 n h = omega arith
more_bytes Pf02 n h = omega arith

-- neither has more than eight
pub few_bytes : (o : Opening) (n : ℕ) → n ≤ 64
    → (kind_bytes o (min n (kinds_in_eight o)) ≤ 8) × (kind_bytes o (n - min n (kinds_in_eight o)) ≤ 8)
few_bytes Pf01 n h = (omega arith, omega arith)
few_bytes Pf02 n h = (omega arith, omega arith)

pub spread-digits : (o : Opening) (es : List Element) → kinds_allowed o es ≡ true
    → digits (kind_bytes o (min (length es) (kinds_in_eight o))) (kinds_number o (take (kinds_in_eight o) es))
    ++ digits (kind_bytes o (length es - min (length es) (kinds_in_eight o))) (kinds_number o (drop (kinds_in_eight o) es))
    ≡ digits (kind_bytes o (length es)) (kinds_number o es)
unfolding digits
spread-digits o es e = by (dec_le (length es) (kinds_in_eight o))
  where
    by : Dec (length es ≤ kinds_in_eight o)
        → digits (kind_bytes o (min (length es) (kinds_in_eight o))) (kinds_number o (take (kinds_in_eight o) es))
        ++ digits (kind_bytes o (length es - min (length es) (kinds_in_eight o))) (kinds_number o (drop (kinds_in_eight o) es))
        ≡ digits (kind_bytes o (length es)) (kinds_number o es)
    by (yes l) =
        let m : min (length es) (kinds_in_eight o) ≡ length es = omega arith in
        let z : length es - length es ≡ 0 = omega arith in
        rw (m, z, none-bytes o, take_all (kinds_in_eight o) es l, append-nil)
    by (no g) =
        let m : min (length es) (kinds_in_eight o) ≡ kinds_in_eight o = omega arith in
        let long : length (take (kinds_in_eight o) es) ≡ kinds_in_eight o = length-take-le _ es (omega arith) in
        let first = kinds_number o (take (kinds_in_eight o) es) in
        let rest = kinds_number o (drop (kinds_in_eight o) es) in
        let whole : kinds_number o es ≡ first + 256 ^ 8 * rest =
        ap (kinds_number o) (sym (take-append-drop (kinds_in_eight o) es))
        ∙ kinds_number-append o (take (kinds_in_eight o) es) (drop (kinds_in_eight o) es)
        ∙ rw (long, eight o) in
        let less : first < 256 ^ 8 = below-eight o (take (kinds_in_eight o) es) (allowed-take o (kinds_in_eight o) es e) (omega arith) in
        rw (m, eight-bytes o, more_bytes o (length es) (omega arith), whole)
        (sym (digits-split 8 (kind_bytes o (length es - kinds_in_eight o)) first rest less))
