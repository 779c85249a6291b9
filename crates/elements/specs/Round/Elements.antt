-- The elements under PF02, read one after the other: each radius in its place, and the sets of what was read. Assumes nothing.
use Rattle.std.specs.Prelude.{◌+◌, ◌<◌, ◌≤◌, ◌≡◌, ◌∷◌, ◌++◌, Ok}
use Rattle.theory.specs.Prelude.{ℕ, zero, suc, ℕ_discrete, arith, refl, sym, ap, ◌∙◌, subst, true, false, List, []}
use Rattle.theory.specs.Prelude.{append-nil, append_assoc, ltb-true, T, eqb, ltb, length, drop, set, get_or, length-append, length-set}
use Rattle.theory.specs.Prelude.{drop_of_length-le, drop-cons, get_or-set_same, get_or-set_other}
use Rattle.std.proofs.Math.Seq.{get_or-append_seam}
use Rattle.sheet.specs.declared.Kind.{Kind}
use Rattle.sheet.specs.declared.Kind.TheVariants.{Point, Line, Circle}
use Rattle.sheet.specs.declared.Element.{Element}
use Rattle.sheet.specs.Facts.{kind_digit, bit_of, is_line, is_circle, radius_of, kind_at, set_of, blank_element}
use Rattle.sheet.specs.Facts.Laws.{and-true, digits_of}
use Rattle.sheet.specs.Field.{Field, value, refused, next, demand, field}
use Rattle.sheet.specs.Field.Laws.{next-value, demand-value, value-with}
use Rattle.sheet.specs.Rules.{kinds_known, radius_in_range}
use Rattle.sheet.specs.Decode.{element, read_elements}
use Rattle.elements.specs.declared.fields.Cursor.{Cursor}
use Rattle.elements.specs.Round.{places_of, RadiiStand, Stored, ElementRead}

-- ---- one element

pub straight-element : (k : ℕ) → k < 2 → (t : List ℕ) → (x : Element) × (element k t ≡ value x t) × (is_circle x.kind ≡ false)
unfolding element
straight-element zero h t = (record { kind = Point }, refl, refl)
straight-element (suc zero) h t = (record { kind = Line }, refl, refl)
straight-element (suc (suc k)) h t = absurd (omega arith)

circle-element : (k : ℕ) → 2 ≤ k → (t : List ℕ)
    → element k t ≡ next (field 4 t) (λ r s1. demand (radius_in_range r) 19 (value (record { kind = Circle r }) s1))
unfolding element
circle-element zero h t = absurd (omega arith)
circle-element (suc zero) h t = absurd (omega arith)
circle-element (suc (suc k)) h t = refl

module _ (k : ℕ) (h : 2 ≤ k) (t : List ℕ) where
  pub circle-cut : {j : ℕ} → field 4 t ≡ refused j → element k t ≡ refused j
  circle-cut e = circle-element k h t ∙ rw e

  module _ {r : ℕ} {t1 : List ℕ} (e : field 4 t ≡ value r t1) where
    pub circle-out : radius_in_range r ≡ false → element k t ≡ refused 19
    circle-out u = circle-element k h t ∙ rw (e, u)

    pub circle-read : radius_in_range r ≡ true → element k t ≡ value (record { kind = Circle r }) t1
    circle-read u = circle-element k h t ∙ rw (e, u)

pub stored-none : (x : Element) (i : ℕ) (radii : List ℕ) → is_circle x.kind ≡ false → Stored x i radii radii
stored-none x i radii h =
    record { length_is = refl; others = λ j n. refl; radius_is = λ e. let z : ◌≡◌ {A = ℕ} 0 1 = cc in absurd (omega arith) }

pub stored-circle : (r i : ℕ) (radii : List ℕ) → i < length radii → Stored (record { kind = Circle r }) i radii (set radii i r)
stored-circle r i radii l =
    record { length_is = simp length-set; others = λ j n. get_or-set_other radii i j r 0 n; radius_is = λ e. get_or-set_same radii i r 0 l }

-- ---- one after the other

-- elements before those of a field
abbrev pub after : List Element → Field (List Element) → Field (List Element)
after es x = next x (λ xs t. value (es ++ xs) t)

after_none : (y : Field (List Element)) → y ≡ after [] y
after_none (value xs t) = refl
after_none (refused k) = refl

after_more : (es : List Element) (x : Element) (y : Field (List Element))
    → after es (next y (λ xs t. value (x ∷ xs) t)) ≡ after (es ++ x ∷ []) y
after_more es x (value xs t) = ap (λ (l : List Element). value l t) (sym (append_assoc es (x ∷ []) xs))
after_more es x (refused k) = refl

-- i elements are read, and the next byte is at a place
pub record Partway (ks s : List ℕ) (from i place : ℕ) (radii : List ℕ) : Type 0 where
  pub es : List Element
  pub count : length es ≡ i
  pub so_far : read_elements ks (drop from s) ≡ after es (read_elements (drop i ks) (drop place s))
  pub stand : RadiiStand es radii
  pub long : length radii ≡ 64

none-stand : (radii : List ℕ) → RadiiStand [] radii
none-stand radii i e = absurd (subst T (sym e) tt)

pub partway-none : (ks s : List ℕ) (from : ℕ) (radii : List ℕ) → length radii ≡ 64 → Partway ks s from 0 from radii
partway-none ks s from radii l =
    record { es = []; count = refl; so_far = after_none (read_elements ks (drop from s)); stand = none-stand radii; long = l }

other_place : (es : List Element) (j : ℕ) (x : Element) → (j ≡ length es → ⊥) → get_or (es ++ x ∷ []) j blank_element ≡ get_or es j blank_element
other_place [] zero x n = absurd (n refl)
other_place [] (suc j) x n = refl
other_place (y ∷ es) zero x n = refl
other_place (y ∷ es) (suc j) x n = other_place es j x (λ e. n (ap suc e))

stand-more : (es : List Element) (x : Element) (i : ℕ) (radii radii1 : List ℕ) → length es ≡ i → RadiiStand es radii → Stored x i radii radii1
    → RadiiStand (es ++ x ∷ []) radii1
stand-more es x i radii radii1 count h st j e = go (ℕ_discrete j (length es))
  where
    go : Dec (j ≡ length es) → get_or radii1 j 0 ≡ radius_of (kind_at (es ++ x ∷ []) j)
    go (yes p) =
        let here : get_or (es ++ x ∷ []) j blank_element ≡ x =
        ap (λ (m : ℕ). get_or (es ++ x ∷ []) m blank_element) p ∙ get_or-append_seam es x [] blank_element in
        ap (λ (m : ℕ). get_or radii1 m 0) (p ∙ count)
        ∙ st.radius_is (sym (ap (λ (y : Element). is_circle y.kind) here) ∙ e)
        ∙ sym (ap (λ (y : Element). radius_of y.kind) here)
    go (no p) =
        let here : get_or (es ++ x ∷ []) j blank_element ≡ get_or es j blank_element = other_place es j x p in
        st.others j (λ q. p (q ∙ sym count))
        ∙ h j (sym (ap (λ (y : Element). is_circle y.kind) here) ∙ e)
        ∙ sym (ap (λ (y : Element). radius_of y.kind) here)

module _ {ks s : List ℕ} {from i place : ℕ} {radii : List ℕ} (h : Partway ks s from i place radii) where
  turned : i < length ks
      → read_elements (drop i ks) (drop place s)
      ≡ next (element (get_or ks i 0) (drop place s)) (λ y s1. next (read_elements (drop (suc i) ks) s1) (λ xs s2. value (y ∷ xs) s2))
  unfolding read_elements
  turned l = ap (λ (m : List ℕ). read_elements m (drop place s)) (drop-cons ks i 0 l)

  then : {f g : Field Element} → f ≡ g
      → next f (λ y s1. next (read_elements (drop (suc i) ks) s1) (λ xs s2. value (y ∷ xs) s2))
      ≡ next g (λ y s1. next (read_elements (drop (suc i) ks) s1) (λ xs s2. value (y ∷ xs) s2))
  then e = rw e

  -- the next element, of kind k, was read
  pub partway-more : {k : ℕ} {c : Cursor} {radii1 : List ℕ} → i < length ks → k ≡ get_or ks i 0
      → ElementRead (element k (drop place s)) s i radii radii1 (Ok c) → Partway ks s from (i + 1) c.at radii1
  partway-more {k} {c} {radii1} l is (x, e, st) =
      let two : suc i ≡ i + 1 = omega arith in
      record {
        es = h.es ++ x ∷ [];
        count = length-append h.es (x ∷ []) ∙ ap (λ (m : ℕ). m + 1) h.count;
        so_far = h.so_far ∙ ap (after h.es) (turned l
            ∙ then (ap (λ (m : ℕ). element m (drop place s)) (sym is) ∙ e)
            ∙ ap (λ (m : ℕ). next (read_elements (drop m ks) (drop c.at s)) (λ xs t. value (x ∷ xs) t)) two)
            ∙ after_more h.es x (read_elements (drop (i + 1) ks) (drop c.at s));
        stand = stand-more h.es x i radii radii1 h.count h.stand st;
        long = st.length_is ∙ h.long;
      }

  pub partway-refused : {k j : ℕ} → i < length ks → k ≡ get_or ks i 0 → element k (drop place s) ≡ refused j
      → read_elements ks (drop from s) ≡ refused j
  partway-refused l is e =
      h.so_far ∙ ap (after h.es) (turned l ∙ then (ap (λ (m : ℕ). element m (drop place s)) (sym is) ∙ e))

  pub partway_end : length ks ≤ i → read_elements ks (drop from s) ≡ value h.es (drop place s)
  unfolding read_elements
  partway_end l =
      h.so_far ∙ ap (λ (m : List ℕ). after h.es (read_elements m (drop place s))) (drop_of_length-le ks l)
      ∙ ap (λ (m : List Element). value m (drop place s)) (append-nil h.es)

-- ---- the sets of the elements that were read

element-digit : (k : ℕ) (s : List ℕ) {x : Element} {t : List ℕ} → k < 3 → element k s ≡ value x t → kind_digit x.kind ≡ k
unfolding element
element-digit zero s l e = value-with (λ x t. kind_digit x.kind ≡ 0) e refl
element-digit (suc zero) s l e = value-with (λ x t. kind_digit x.kind ≡ 1) e refl
element-digit (suc (suc zero)) s l e =
    next-value (field 4 s) _ e (λ r s1 was e1.
    demand-value (radius_in_range r) 19 _ e1 (λ range e2. value-with (λ x t. kind_digit x.kind ≡ 2) e2 refl))
element-digit (suc (suc (suc k))) s l e = absurd (omega arith)

pub elements-digits : (ks s : List ℕ) {xs : List Element} {t : List ℕ} → kinds_known ks ≡ true → read_elements ks s ≡ value xs t → digits_of xs ≡ ks
unfolding read_elements kinds_known
elements-digits [] s known e = value-with (λ xs t. digits_of xs ≡ []) e refl
elements-digits (k ∷ ks) s known e =
    let both = and-true (ltb k 3) (kinds_known ks) known in
    next-value (element k s) _ e (λ x s1 was e1.
    next-value (read_elements ks s1) _ e1 (λ xs s2 was2 e2.
    value-with (λ l t. digits_of l ≡ k ∷ ks) e2
    (rw (element-digit k s (ltb-true k 3 both.0) was, elements-digits ks s1 both.1 was2))))

line-digit : (k : Kind) → bit_of (is_line k) ≡ bit_of (eqb (kind_digit k) 1)
line-digit Point = refl
line-digit Line = refl
line-digit (Circle r) = refl

circle-digit : (k : Kind) → bit_of (is_circle k) ≡ bit_of (eqb (kind_digit k) 2)
circle-digit Point = refl
circle-digit Line = refl
circle-digit (Circle r) = refl

pub sets-digits : (xs : List Element) → (places_of 1 (digits_of xs) ≡ set_of is_line xs) × (places_of 2 (digits_of xs) ≡ set_of is_circle xs)
unfolding places_of set_of
sets-digits [] = (refl, refl)
sets-digits (x ∷ xs) =
    let h = sets-digits xs in (
      omega (arith, line-digit x.kind, h.0),
      omega (arith, circle-digit x.kind, h.1),
    )
