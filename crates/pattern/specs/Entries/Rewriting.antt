-- How many bytes precede the constraints of a sheet that is read, by its facts. Assumes nothing.
use Rattle.std.specs.Prelude.{◌+◌, ◌*◌, ◌<◌, ◌≡◌, ◌∷◌, ◌++◌}
use Rattle.theory.specs.Prelude.{ℕ, zero, suc, arith, ltb-true, refl, sym, ap, ap₂, ◌∙◌, Bool, true, false, cond, List, []}
use Rattle.theory.specs.Prelude.{ones, ones_step, eqb, ltb, ℤ, length, take, drop}
use Rattle.sheet.specs.declared.Opening.{Opening}
use Rattle.sheet.specs.declared.Opening.TheVariants.{Pf01, Pf02}
use Rattle.sheet.specs.declared.Element.{Element}
use Rattle.sheet.specs.Facts.{Facts, is_circle, bit_of, set_of, kinds_of}
use Rattle.sheet.specs.Facts.Kinds.{circles_of}
use Rattle.sheet.specs.Facts.Laws.{and-true, kinds_of-length}
use Rattle.sheet.specs.Field.{value, refused, number, demand, field, byte_by, kind_bytes, opening_bytes, begins}
use Rattle.sheet.specs.Field.Laws.{next-value, demand-value, value-with, refused-value, begins-front}
use Rattle.sheet.specs.Rules.{elements_in_range, kind_bits_used, kinds_known, radius_in_range, constraints_in_range}
use Rattle.sheet.specs.Decode.{opening, read_kinds, element, read_elements, constraints, read_constraints, read_sheet}
use Rattle.sheet.specs.WithoutTags.{circles_among, before}
use Rattle.graph.specs.declared.Head.{Head}
use Rattle.graph.specs.declared.Front.{Front}
use Rattle.pattern.specs.Entries.Reading.{SheetFound}

-- ---- the fields at the front

opening-stands : (s : List ℕ) {o : Opening} {t : List ℕ} → opening s ≡ value o t → s ≡ opening_bytes o ++ t
unfolding opening
opening-stands s e = go (begins (opening_bytes Pf01) s) refl e
  where
    go : {o : Opening} {t : List ℕ} (b : Bool) → begins (opening_bytes Pf01) s ≡ b
        → cond b (value Pf01 (drop 4 s)) (demand (begins (opening_bytes Pf02) s) 1 (value Pf02 (drop 4 s))) ≡ value o t → s ≡ opening_bytes o ++ t
    go true b e = value-with (λ o t. s ≡ opening_bytes o ++ t) e (begins-front (opening_bytes Pf01) s b)
    go false b e =
        demand-value (begins (opening_bytes Pf02) s) 1 _ e (λ b e1.
        value-with (λ o t. s ≡ opening_bytes o ++ t) e1 (begins-front (opening_bytes Pf02) s b))

byte-stands : (takes : ℕ → Bool) (k : ℕ) (s : List ℕ) {b : ℕ} {t : List ℕ} → byte_by takes k s ≡ value b t → s ≡ b ∷ t
byte-stands takes k [] e = refused-value e
byte-stands takes k (c ∷ s) e = demand-value (takes c) k _ e (λ q e1. value-with (λ b t. c ∷ s ≡ b ∷ t) e1 refl)

field-number : (k : ℕ) (s : List ℕ) {m : ℕ} {t : List ℕ} → field k s ≡ value m t → m ≡ number (take k s)
unfolding field
field-number k s e = go (ltb (length s) k) e
  where
    go : {m : ℕ} {t : List ℕ} (b : Bool) → cond b (refused 2) (value (number (take k s)) (drop k s)) ≡ value m t → m ≡ number (take k s)
    go true e = refused-value e
    go false e = value-with (λ m t. m ≡ number (take k s)) e refl

kinds-stand : (o : Opening) (n : ℕ) (s : List ℕ) {ks t : List ℕ} → read_kinds o n s ≡ value ks t
    → (ks ≡ kinds_of o n (number (take (kind_bytes o n) s))) × (kinds_known ks ≡ true)
unfolding read_kinds
kinds-stand o n s e =
    next-value (field (kind_bytes o n) s) _ e (λ m s1 was e1.
    demand-value (kind_bits_used o n m) 4 _ e1 (λ ok e2.
    demand-value (kinds_known (kinds_of o n m)) 18 _ e2 (λ known e3.
    value-with (λ ks t. (ks ≡ kinds_of o n (number (take (kind_bytes o n) s))) × (kinds_known ks ≡ true)) e3
    (ap (kinds_of o n) (field-number (kind_bytes o n) s was), known))))

-- ---- the circles

-- an element is a circle where its kind is 2
round : (k : ℕ) (s : List ℕ) {x : Element} {t : List ℕ} → k < 3 → element k s ≡ value x t → eqb k 2 ≡ is_circle x.kind
unfolding element
round zero s l e = value-with (λ x t. false ≡ is_circle x.kind) e refl
round (suc zero) s l e = value-with (λ x t. false ≡ is_circle x.kind) e refl
round (suc (suc zero)) s l e =
    next-value (field 4 s) _ e (λ r s1 was e1.
    demand-value (radius_in_range r) 19 _ e1 (λ q e2. value-with (λ x t. true ≡ is_circle x.kind) e2 refl))
round (suc (suc (suc k))) s l e = absurd (omega arith)

low_bit : (b : Bool) (m : ℕ) → ones (bit_of b + 2 * m) ≡ bit_of b + ones m
low_bit true m = ones_step (1 + 2 * m) ∙ ap₂ (λ (x y : ℕ). x + ones y) (omega arith) (omega arith)
low_bit false m = ones_step (0 + 2 * m) ∙ ap₂ (λ (x y : ℕ). x + ones y) (omega arith) (omega arith)

record Counted (ks : List ℕ) (es : List Element) : Type 0 where
  long : length es ≡ length ks
  circles : circles_among ks ≡ ones (circles_of es)

counted : (ks s : List ℕ) {es : List Element} {t : List ℕ} → kinds_known ks ≡ true → read_elements ks s ≡ value es t → Counted ks es
unfolding read_elements kinds_known circles_among set_of ones
counted [] s known e = value-with (λ es t. Counted [] es) e (record { long = refl; circles = refl })
counted (k ∷ ks) s known e =
    let both = and-true (ltb k 3) (kinds_known ks) known in
    next-value (element k s) _ e (λ x s1 was e1.
    next-value (read_elements ks s1) _ e1 (λ xs s2 was2 e2.
    let c = counted ks s1 both.1 was2 in
    value-with (λ es t. Counted (k ∷ ks) es) e2
    (record {
      long = ap suc c.long;
      circles =
          ap₂ (λ (b : Bool) (m : ℕ). bit_of b + m) (round k s (ltb-true k 3 both.0) was) c.circles
          ∙ sym (low_bit (is_circle x.kind) (circles_of xs));
    })))

-- ---- the sheet

front : (o : Opening) (n : ℕ) (s : List ℕ)
    → before (opening_bytes o ++ n ∷ s) ≡ 6 + kind_bytes o n + 4 * circles_among (kinds_of o n (number (take (kind_bytes o n) s)))
unfolding before
front Pf01 n s = refl
front Pf02 n s = refl

-- opening, count, kinds, the radii of the circles, and the count of constraints
pub before-read : (s : List ℕ) {f : Facts} {t : List ℕ} → read_sheet s ≡ value f t
    → before s ≡ 6 + kind_bytes f.opening (length f.elements) + 4 * ones (circles_of f.elements)
unfolding read_sheet read_constraints
before-read s e =
    next-value (opening s) _ e (λ o s1 was e1.
    next-value (byte_by elements_in_range 3 s1) _ e1 (λ n s2 was2 e2.
    next-value (read_kinds o n s2) _ e2 (λ ks s3 was3 e3.
    let kinds = kinds-stand o n s2 was3 in
    next-value (read_elements ks s3) _ e3 (λ es s4 was4 e4.
    let c = counted ks s3 kinds.1 was4 in
    let n_is : length es ≡ n = c.long ∙ ap length kinds.0 ∙ kinds_of-length o n _ in
    next-value (byte_by constraints_in_range 5 s4) _ e4 (λ k s5 was5 e5.
    next-value (constraints es k [] s5) _ e5 (λ cs s6 was6 e6.
    value-with (λ f t. before s ≡ 6 + kind_bytes f.opening (length f.elements) + 4 * ones (circles_of f.elements)) e6
    (ap before (opening-stands s was ∙ ap (λ (l : List ℕ). opening_bytes o ++ l) (byte-stands elements_in_range 3 s1 was2)) ∙ front o n s2
    ∙ ap₂ (λ (j m : ℕ). 6 + kind_bytes o j + 4 * m) (sym n_is) (ap circles_among (sym kinds.0) ∙ c.circles))))))))

-- what is read before the constraints tells it
pub before-found : {bytes : List ℕ} {h : Front} {near start radii : List ℕ} {codes : List ℤ} → SheetFound bytes h near start codes radii
    → 6 + kind_bytes h.opening h.n + 4 * ones h.kinds.circles ≡ before bytes
before-found {bytes} {h} f =
    let s = f.sheet_in in
    let n_is : h.n ≡ length f.facts.elements = ap (λ (x : Head). x.n) s.head_is in
    rw (s.opening_is, n_is, s.kinds_in.circles_are) (sym (before-read bytes f.reads))
