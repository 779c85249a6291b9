-- The elements by their opening: under PF01 a bit each and no radius, under PF02 rules 2, 4 and 18 and then the radii. Assumes nothing.
use Rattle.std.specs.Prelude.{◌+◌, ◌*◌, ◌/◌, ◌%◌, ◌^◌, ◌<◌, ◌≤◌, ◌≡◌, ◌∷◌, Ok}
use Rattle.theory.specs.Prelude.{ℕ, zero, suc, pow-zero, pow-succ', arith, refl, sym, ap, ◌∙◌, subst, true}
use Rattle.theory.specs.Prelude.{false, List, [], ltb, length, drop, length-map}
use Rattle.sheet.specs.declared.Opening.TheVariants.{Pf01, Pf02}
use Rattle.sheet.specs.declared.Kind.TheVariants.{Point, Line}
use Rattle.sheet.specs.declared.Element.{Element}
use Rattle.sheet.specs.declared.Kinds.{Kinds}
use Rattle.sheet.specs.Facts.{kinds_of, kind_digit, bit_of, is_line, is_circle, lines_of, set_of, kind_at}
use Rattle.sheet.specs.Facts.Kinds.{KindsIn, circles_of}
use Rattle.sheet.specs.Facts.Laws.{digits_of, kinds_of-length}
use Rattle.sheet.specs.Field.{value, refused, field}
use Rattle.sheet.specs.Rules.{kind_bits_used, kinds_known}
use Rattle.sheet.specs.Decode.{read_kinds, element, read_elements}
use Rattle.elements.specs.Fields.Numbers.{field-short, field-whole}
use Rattle.elements.specs.declared.fields.Cursor.{Cursor}
use Rattle.elements.specs.Answers.{elements_field, ElementsRead}
use Rattle.elements.specs.Round.{round_number, round_kinds, places_of, SetsOf, RadiiStand, RadiiRead}
use Rattle.elements.specs.Round.Elements.{elements-digits, sets-digits}

-- ---- PF01

abbrev straight_of : ℕ → Element
straight_of zero = record { kind = Point }
straight_of (suc k) = record { kind = Line }

unfoldable pub straight : ℕ → ℕ → List Element
straight zero m = []
straight (suc n) m = straight_of (m % 2) ∷ straight n (m / 2)

-- a digit of base 2
module _ (t : List ℕ) where
  known-digit : (k : ℕ) → k < 2 → ltb k 3 ≡ true
  known-digit zero h = refl
  known-digit (suc zero) h = refl
  known-digit (suc (suc k)) h = absurd (omega arith)

  read-digit : (k : ℕ) → k < 2 → element k t ≡ value (straight_of k) t
  unfolding element
  read-digit zero h = refl
  read-digit (suc zero) h = refl
  read-digit (suc (suc k)) h = absurd (omega arith)

line-bit : (k : ℕ) → k < 2 → bit_of (is_line (straight_of k).kind) ≡ k
line-bit zero h = refl
line-bit (suc zero) h = refl
line-bit (suc (suc k)) h = absurd (omega arith)

no-circle : (k : ℕ) → is_circle (straight_of k).kind ≡ false
no-circle zero = refl
no-circle (suc k) = refl

straight-known : (n m : ℕ) → kinds_known (kinds_of Pf01 n m) ≡ true
unfolding kinds_known kinds_of
straight-known zero m = refl
straight-known (suc n) m = rw (known-digit [] (m % 2) (omega arith), straight-known n (m / 2))

straight-read : (n m : ℕ) (t : List ℕ) → read_elements (kinds_of Pf01 n m) t ≡ value (straight n m) t
unfolding read_elements kinds_of straight
straight-read zero m t = refl
straight-read (suc n) m t = rw (read-digit t (m % 2) (omega arith), straight-read n (m / 2) t)

pub straight-length : (n m : ℕ) → length (straight n m) ≡ n
unfolding straight
straight-length zero m = refl
straight-length (suc n) m = ap suc (straight-length n (m / 2))

straight-lines : (n m : ℕ) → m < 2 ^ n → m ≡ lines_of (straight n m)
unfolding straight set_of
straight-lines zero m h = omega (arith, pow-zero 2)
straight-lines (suc n) m h =
    let q : m < 2 * 2 ^ n = subst (λ (z : ℕ). m < z) (pow-succ' 2 n) h in
    omega (arith, line-bit (m % 2) (omega arith), straight-lines n (m / 2) (omega arith))

straight-circles : (n m : ℕ) → 0 ≡ circles_of (straight n m)
unfolding straight set_of
straight-circles zero m = refl
straight-circles (suc n) m = omega (arith, ap bit_of (no-circle (m % 2)), straight-circles n (m / 2))

straight-kind : (n m i : ℕ) → is_circle (kind_at (straight n m) i) ≡ false
unfolding straight
straight-kind zero m i = refl
straight-kind (suc n) m zero = no-circle (m % 2)
straight-kind (suc n) m (suc i) = straight-kind n (m / 2) i

pub straight-kinds : (n m : ℕ) (radii : List ℕ) → m < 2 ^ n → KindsIn (straight n m) (record { lines = m; circles = 0 }) radii
straight-kinds n m radii h =
    record {
      lines_are = straight-lines n m h;
      circles_are = straight-circles n m;
      radii_are = λ i e. let f = straight-kind n m i in let z : ◌≡◌ {A = ℕ} 0 1 = cc in absurd (omega arith);
    }

module _ (n : ℕ) (t : List ℕ) where
  pub straight-cut : {j : ℕ} → field ((n + 7) / 8) t ≡ refused j → elements_field Pf01 n t ≡ refused j
  unfolding read_kinds
  straight-cut e = rw e

  pub straight-unused : {m : ℕ} {t1 : List ℕ} → field ((n + 7) / 8) t ≡ value m t1 → ltb m (2 ^ n) ≡ false → elements_field Pf01 n t ≡ refused 4
  unfolding read_kinds
  straight-unused e u = rw (e, u)

  pub straight-whole : {m : ℕ} {t1 : List ℕ} → field ((n + 7) / 8) t ≡ value m t1 → ltb m (2 ^ n) ≡ true
      → elements_field Pf01 n t ≡ value (straight n m) t1
  unfolding read_kinds
  straight-whole {m} {t1} e u = rw (e, u, straight-known n m) (straight-read n m t1)

-- ---- PF02

module _ (s : List ℕ) (from n : ℕ) where
  pub round-cut : 0 < n → length s < from + (n + 3) / 4 → elements_field Pf02 n (drop from s) ≡ refused 2
  unfolding read_kinds
  round-cut some h = rw (field-short s from ((n + 3) / 4) (omega arith))

  module _ (room : from + (n + 3) / 4 ≤ length s) where
    pub round-unused : kind_bits_used Pf02 n (round_number s from n) ≡ false → elements_field Pf02 n (drop from s) ≡ refused 4
    unfolding read_kinds
    round-unused u = rw (field-whole s from ((n + 3) / 4) (omega arith), u)

    module _ (used : kind_bits_used Pf02 n (round_number s from n) ≡ true) where
      pub round-unknown : kinds_known (round_kinds s from n) ≡ false → elements_field Pf02 n (drop from s) ≡ refused 18
      unfolding read_kinds
      round-unknown k = rw (field-whole s from ((n + 3) / 4) (omega arith), used, k)

      pub round-known : kinds_known (round_kinds s from n) ≡ true
          → elements_field Pf02 n (drop from s) ≡ read_elements (round_kinds s from n) (drop (from + (n + 3) / 4) s)
      unfolding read_kinds
      round-known k = rw (field-whole s from ((n + 3) / 4) (omega arith), used, k)

  -- the sets of the kinds are those of the elements
  module _ (t : List ℕ) {es : List Element} {t1 : List ℕ} {kinds : Kinds} (sets : SetsOf (round_kinds s from n) kinds)
      (e : read_elements (round_kinds s from n) t ≡ value es t1) where
    read-digits : digits_of es ≡ round_kinds s from n
    read-digits = elements-digits (round_kinds s from n) t sets.known e

    round-length : length es ≡ n
    round-length =
        sym (length-map es (λ x. kind_digit x.kind)) ∙ ap length read-digits ∙ kinds_of-length Pf02 n (round_number s from n)

    round-kinds : {radii : List ℕ} → RadiiStand es radii → KindsIn es kinds radii
    round-kinds stand =
        record {
          lines_are = sets.lines_are ∙ ap (places_of 1) (sym read-digits) ∙ (sets-digits es).0;
          circles_are = sets.circles_are ∙ ap (places_of 2) (sym read-digits) ∙ (sets-digits es).1;
          radii_are = stand;
        }

  -- kinds in which nothing is wrong, with radii that are all there, are the elements
  pub round_whole : {kinds : Kinds} {radii : List ℕ} (c : Cursor) → from + (n + 3) / 4 ≤ length s
      → kind_bits_used Pf02 n (round_number s from n) ≡ true → SetsOf (round_kinds s from n) kinds
      → RadiiRead (round_kinds s from n) s (from + (n + 3) / 4) radii (Ok c)
      → ElementsRead (elements_field Pf02 n (drop from s)) s n radii (Ok (kinds, c))
  round_whole c room used sets (es, e, stand) =
      let t = drop (from + (n + 3) / 4) s in
      (es, round-known room used sets.known ∙ e, round-length t sets e, round-kinds t sets e stand)
