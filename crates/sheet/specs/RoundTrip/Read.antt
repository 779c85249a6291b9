-- Bytes that the reader takes are, without their tags, those of the facts it reads, and no rule refuses these. Assumes nothing.
use Rattle.std.specs.Prelude.{◌+◌, ◌*◌, ◌/◌, ◌%◌, ◌^◌, ◌<◌, ◌≤◌, ◌≡◌, ◌||◌, ◌∷◌, ◌++◌}
use Rattle.theory.specs.Prelude.{ℕ, zero, suc, arith, ltb-true, eqb-true, not-true, refl, sym, ap, ◌∙◌, Bool}
use Rattle.theory.specs.Prelude.{true, false, cond, not, List, [], append-nil, append_assoc, eqb, ltb, pos, length, drop}
use Rattle.theory.specs.Prelude.{length-append, length-map, drop_at}
use Rattle.sheet.specs.declared.Opening.{Opening}
use Rattle.sheet.specs.declared.Opening.TheVariants.{Pf01, Pf02}
use Rattle.sheet.specs.declared.Kind.{Kind}
use Rattle.sheet.specs.declared.Element.{Element}
use Rattle.sheet.specs.declared.Size.{Size}
use Rattle.sheet.specs.declared.Size.TheVariants.{Given, Missing, Tangent, OtherTangent, Unfit}
use Rattle.sheet.specs.declared.Constraint.{Constraint}
use Rattle.sheet.specs.Facts.{Facts, is_circle, radius_of, bit_of, kind_base, kind_digit, kinds_of, kinds_number, kind_at}
use Rattle.sheet.specs.Facts.Laws.{and-true, digits_number, digits_of, kinds_of-length, kinds_of-number, kinds_number-digits, kinds-allowed}
use Rattle.sheet.specs.Field.{value, demand, digits, field, byte, byte_by, signed32, kind_bytes, opening_bytes, begins, Bytes}
use Rattle.sheet.specs.Field.Laws.{length_digits, next-value, demand-value, value-with, refused-value, field-front, byte-front}
use Rattle.sheet.specs.Field.Laws.{byte_by-front, begins-front, opening-length}
use Rattle.sheet.specs.Field.Laws.{bytes_drop, unsigned32-signed32}
use Rattle.sheet.specs.Rules.Laws.{elements-most, constraints-most}
use Rattle.sheet.specs.Rules.{elements_in_range, kind_bits_used, kinds_known, kinds_allowed, radius_in_range, radii_in_range, constraints_in_range}
use Rattle.sheet.specs.Rules.{ends_ascend, stands, pair_of, without_bit1, size_by, size_allowed, map_allowed, radii_differ, size_in_range, size_fault}
use Rattle.sheet.specs.Rules.{constraint_fault, constraints_fault, elements_fault}
use Rattle.sheet.specs.Decode.{opening, read_kinds, element, read_elements, size, tag, dimension, constraint, constraints}
use Rattle.sheet.specs.Decode.{read_constraints, read_sheet}
use Rattle.sheet.specs.Encode.{radius_bytes, radii_bytes, map_of, size_bytes, constraint_bytes, constraints_bytes, sheet_bytes}
use Rattle.sheet.specs.Encode.Laws.{size-length, kinds-length, radii-most}
use Rattle.sheet.specs.WithoutTags.{size_length, tag_length, drop_tags, without_tags}
use Rattle.sheet.specs.WithoutTags.Laws.{drop_tags-front, without_tags-front}
use Rattle.sheet.specs.RoundTrip.Written.{radii-counted}
use Rattle.sheet.specs.Accepted.{Accepted}

-- ---- size and tag

record SizeFront (j k : Kind) (announced : Size) (s : List ℕ) (z : Size) (t : List ℕ) : Type 0 where
  front : s ≡ size_bytes z ++ t
  same_map : map_of z ≡ map_of announced
  taken : size_fault j k z ≡ 0
  rest : Bytes t

size-front : (j k : Kind) (y : Size) (s : List ℕ) {z : Size} {t : List ℕ} → Bytes s → size_allowed j k y ≡ true → radii_differ j k y ≡ true
    → size (pair_of j k) y s ≡ value z t → SizeFront j k y s z t
unfolding size size_bytes size_fault
size-front j k (Given y) s h a d e =
    next-value (field 4 s) _ e (λ u s1 was e1.
    let f = field-front 4 s h was in
    demand-value (size_in_range (pair_of j k) (signed32 u)) 9 _ e1 (λ range e2.
    value-with (SizeFront j k (Given y) s) e2
    (record { front = rw (unsigned32-signed32 u f.below) f.front; same_map = refl; taken = rw range; rest = f.rest })))
size-front j k Missing s h a d e =
    value-with (SizeFront j k Missing s) e (record { front = refl; same_map = refl; taken = rw a; rest = h })
size-front j k Tangent s h a d e =
    value-with (SizeFront j k Tangent s) e (record { front = refl; same_map = refl; taken = rw a; rest = h })
size-front j k OtherTangent s h a d e =
    value-with (SizeFront j k OtherTangent s) e (record { front = refl; same_map = refl; taken = rw (a, d); rest = h })
size-front j k Unfit s h a d e = let z : ◌≡◌ {A = ℕ} 0 1 = cc in absurd (omega arith)

record TagFront (q : Bool) (s t : List ℕ) : Type 0 where
  tag_bytes : List ℕ
  front : s ≡ tag_bytes ++ t
  long : length tag_bytes ≡ 2 * bit_of q
  rest : Bytes t

tag-front : (q : Bool) (s : List ℕ) {v : Unit {0}} {t : List ℕ} → Bytes s → tag q s ≡ value v t → TagFront q s t
unfolding tag
tag-front false s h e =
    value-with (λ v. TagFront false s) e (record { tag_bytes = []; front = refl; long = refl; rest = h })
tag-front true s h e =
    next-value (field 2 s) _ e (λ u s1 was e1.
    let f = field-front 2 s h was in
    value-with (λ v. TagFront true s) e1 (record { tag_bytes = digits 2 u; front = f.front; long = length_digits 2 u; rest = f.rest }))

bit-back : (b : ℕ) → b < 2 → bit_of (eqb b 1) ≡ b
bit-back zero h = refl
bit-back (suc zero) h = refl
bit-back (suc (suc b)) h = absurd (omega arith)

abbrev said : Bool → Bool → Bool → Bool → Size
said a b c d = cond a Missing (cond b (Given (pos 0)) (cond c Tangent (cond d OtherTangent Unfit)))

said-map : (j k : Kind) (w : ℕ) (a b c d : Bool) → eqb w 0 ≡ a → eqb w 1 ≡ b → eqb w 4 ≡ c → eqb w 12 ≡ d → size_allowed j k (said a b c d) ≡ true
    → map_of (said a b c d) ≡ w
said-map j k w true b c d ea eb ec ed h = sym (eqb-true w 0 ea)
said-map j k w false true c d ea eb ec ed h = sym (eqb-true w 1 eb)
said-map j k w false false true d ea eb ec ed h = sym (eqb-true w 4 ec)
said-map j k w false false false true ea eb ec ed h = sym (eqb-true w 12 ed)
said-map j k w false false false false ea eb ec ed h = let z : ◌≡◌ {A = ℕ} 0 1 = cc in absurd (omega arith)

-- what a map that rule 8 takes announces has that map, less bit 1
announced : (j k : Kind) (map : ℕ) → map_allowed j k map ≡ true → map_of (size_by map (pos 0)) ≡ without_bit1 map
unfolding size_by
announced j k map h =
    let w = without_bit1 map in said-map j k w (eqb w 0) (eqb w 1) (eqb w 4) (eqb w 12) refl refl refl refl h

-- ---- one constraint

record DimensionFront (j k : Kind) (s : List ℕ) (z : Size) (t : List ℕ) : Type 0 where
  map : ℕ
  tag_bytes : List ℕ
  front : s ≡ map ∷ size_bytes z ++ tag_bytes ++ t
  size-bit : without_bit1 map ≡ map_of z
  size_long : length (size_bytes z) ≡ size_length map
  tag_long : length tag_bytes ≡ tag_length map
  taken : size_fault j k z ≡ 0
  rest : Bytes t

dimension-front : (j k : Kind) (s : List ℕ) {z : Size} {t : List ℕ} → Bytes s → dimension j k s ≡ value z t → DimensionFront j k s z t
unfolding dimension
dimension-front j k s h e =
    next-value (byte_by (map_allowed j k) 8 s) _ e (λ map s1 was e1.
    let m = byte_by-front (map_allowed j k) 8 s h was in
    demand-value (radii_differ j k (size_by map (pos 0))) 20 _ e1 (λ differ e2.
    next-value (size (pair_of j k) (size_by map (pos 0)) s1) _ e2 (λ z s2 was2 e3.
    let f = size-front j k (size_by map (pos 0)) s1 m.1.rest m.0 differ was2 in
    let map_is : map_of z ≡ without_bit1 map = f.same_map ∙ announced j k map m.0 in
    let even : without_bit1 map % 2 ≡ map % 2 = omega arith in
    let low : map / 2 % 2 < 2 = omega arith in
    next-value (tag (eqb (map / 2 % 2) 1) s2) _ e3 (λ v s3 was3 e4.
    let g = tag-front (eqb (map / 2 % 2) 1) s2 f.rest was3 in
    value-with (DimensionFront j k s) e4
    (record {
      map = map;
      tag_bytes = g.tag_bytes;
      front = m.1.front ∙ rw (append_assoc, ← g.front, ← f.front);
      size-bit = sym map_is;
      size_long = size-length z ∙ ap (λ (k : ℕ). 4 * (k % 2)) map_is ∙ ap (λ (k : ℕ). 4 * k) even;
      tag_long = g.long ∙ ap (λ (k : ℕ). 2 * k) (bit-back (map / 2 % 2) low);
      taken = f.taken;
      rest = g.rest;
    })))))

-- without its tag a constraint is its facts' bytes; with it, nine bytes at most
pub record ConstraintFront (elements : List Element) (done : List Constraint) (s : List ℕ) (c : Constraint) (t : List ℕ) : Type 0 where
  pub walk : (k : ℕ) → drop_tags (suc k) s ≡ constraint_bytes c ++ drop_tags k t
  pub most : length s ≤ 9 + length t
  pub taken : constraint_fault elements done c ≡ 0
  pub rest : Bytes t

pub constraint-front : (elements : List Element) (done : List Constraint) (s : List ℕ) {c : Constraint} {t : List ℕ} → Bytes s
    → constraint elements done s ≡ value c t → ConstraintFront elements done s c t
unfolding constraint constraint_bytes constraint_fault
constraint-front elements done s h e =
    next-value (byte s) _ e (λ a s1 was e1.
    let fa = byte-front s h was in
    next-value (byte s1) _ e1 (λ b s2 was2 e2.
    let fb = byte-front s1 fa.rest was2 in
    demand-value (ends_ascend (length elements) a b) 6 _ e2 (λ ascend e3.
    demand-value (not (stands done a b)) 7 _ e3 (λ new e4.
    next-value (dimension (kind_at elements a) (kind_at elements b) s2) _ e4 (λ z s3 was3 e5.
    let f = dimension-front (kind_at elements a) (kind_at elements b) s2 fb.rest was3 in
    let front : s ≡ a ∷ b ∷ f.map ∷ size_bytes z ++ f.tag_bytes ++ s3 = cc in
    let step = drop_tags-front a b f.map (size_bytes z) f.tag_bytes s3 f.size_long f.tag_long in
    value-with (ConstraintFront elements done s) e5
    (record {
      walk = λ k. rw (front, step k, f.size-bit);
      most = rw front (simp length-append (omega (arith, f.size_long, f.tag_long)));
      taken = rw (ascend, not-true (stands done a b) new, f.taken);
      rest = f.rest;
    }))))))

-- ---- all constraints

record ConstraintsFront (elements : List Element) (k : ℕ) (done : List Constraint) (s : List ℕ) (all : List Constraint) (t : List ℕ) : Type 0 where
  new : List Constraint
  all_are : all ≡ done ++ new
  count : length new ≡ k
  walk : drop_tags k s ≡ constraints_bytes new
  most : length s ≤ 9 * k
  spent : t ≡ []
  taken : constraints_fault elements done new ≡ 0

constraints-front : (elements : List Element) (k : ℕ) (done : List Constraint) (s : List ℕ) {all : List Constraint} {t : List ℕ} → Bytes s
    → constraints elements k done s ≡ value all t → ConstraintsFront elements k done s all t
unfolding constraints constraints_bytes constraints_fault drop_tags
constraints-front elements zero done [] h e =
    value-with (ConstraintsFront elements zero done []) e
    (record { new = []; all_are = rw append-nil; count = refl; walk = refl; most = omega arith; spent = refl; taken = refl })
constraints-front elements zero done (b ∷ s) h e = refused-value e
constraints-front elements (suc k) done s h e =
    next-value (constraint elements done s) _ e (λ c s1 was e1.
    let f = constraint-front elements done s h was in
    let r = constraints-front elements k (done ++ c ∷ []) s1 f.rest e1 in
    record {
      new = c ∷ r.new;
      all_are = r.all_are ∙ rw append_assoc;
      count = ap suc r.count;
      walk = f.walk k ∙ ap (λ (l : List ℕ). constraint_bytes c ++ l) r.walk;
      most = omega (arith, f.most, r.most);
      spent = r.spent;
      taken = rw (f.taken, r.taken);
    })

-- ---- the elements

record KindsFront (o : Opening) (n : ℕ) (s ks t : List ℕ) : Type 0 where
  number : ℕ
  digits_are : ks ≡ kinds_of o n number
  below : number < kind_base o ^ n
  known : kinds_known ks ≡ true
  front : s ≡ digits (kind_bytes o n) number ++ t
  rest : Bytes t

kinds-front : (o : Opening) (n : ℕ) (s : List ℕ) {ks t : List ℕ} → Bytes s → read_kinds o n s ≡ value ks t → KindsFront o n s ks t
unfolding read_kinds
kinds-front o n s h e =
    next-value (field (kind_bytes o n) s) _ e (λ m s1 was e1.
    let f = field-front (kind_bytes o n) s h was in
    demand-value (kind_bits_used o n m) 4 _ e1 (λ ok e2.
    demand-value (kinds_known (kinds_of o n m)) 18 _ e2 (λ known e3.
    value-with (KindsFront o n s) e3
    (record { number = m; digits_are = refl; below = ltb-true m (kind_base o ^ n) ok; known = known; front = f.front; rest = f.rest }))))

record ElementFront (k : ℕ) (s : List ℕ) (x : Element) (t : List ℕ) : Type 0 where
  digit : kind_digit x.kind ≡ k
  front : s ≡ radius_bytes x.kind ++ t
  range : not (is_circle x.kind) || radius_in_range (radius_of x.kind) ≡ true
  rest : Bytes t

element-front : (k : ℕ) (s : List ℕ) {x : Element} {t : List ℕ} → Bytes s → k < 3 → element k s ≡ value x t → ElementFront k s x t
unfolding element
element-front zero s h l e = value-with (ElementFront 0 s) e (record { digit = refl; front = refl; range = refl; rest = h })
element-front (suc zero) s h l e = value-with (ElementFront 1 s) e (record { digit = refl; front = refl; range = refl; rest = h })
element-front (suc (suc zero)) s h l e =
    next-value (field 4 s) _ e (λ r s1 was e1.
    let f = field-front 4 s h was in
    demand-value (radius_in_range r) 19 _ e1 (λ range e2.
    value-with (ElementFront 2 s) e2 (record { digit = refl; front = f.front; range = range; rest = f.rest })))
element-front (suc (suc (suc k))) s h l e = absurd (omega arith)

record ElementsFront (ks s : List ℕ) (xs : List Element) (t : List ℕ) : Type 0 where
  digits_are : digits_of xs ≡ ks
  front : s ≡ radii_bytes xs ++ t
  range : radii_in_range xs ≡ true
  rest : Bytes t

elements-front : (ks s : List ℕ) {xs : List Element} {t : List ℕ} → Bytes s → kinds_known ks ≡ true → read_elements ks s ≡ value xs t
    → ElementsFront ks s xs t
unfolding read_elements radii_bytes radii_in_range kinds_known
elements-front [] s h known e = value-with (ElementsFront [] s) e (record { digits_are = refl; front = refl; range = refl; rest = h })
elements-front (k ∷ ks) s h known e =
    let both = and-true (ltb k 3) (kinds_known ks) known in
    next-value (element k s) _ e (λ x s1 was e1.
    let f = element-front k s h (ltb-true k 3 both.0) was in
    next-value (read_elements ks s1) _ e1 (λ xs s2 was2 e2.
    let g = elements-front ks s1 f.rest both.1 was2 in
    value-with (ElementsFront (k ∷ ks) s) e2
    (record {
      digits_are = rw (f.digit, g.digits_are);
      front = f.front ∙ rw (append_assoc, ← g.front);
      range = rw (f.range, g.range);
      rest = g.rest;
    })))

-- ---- the sheet

opening-front : (s : List ℕ) {o : Opening} {t : List ℕ} → opening s ≡ value o t → s ≡ opening_bytes o ++ t
unfolding opening
opening-front s e = go (begins (opening_bytes Pf01) s) refl e
  where
    go : {o : Opening} {t : List ℕ} (b : Bool) → begins (opening_bytes Pf01) s ≡ b
        → cond b (value Pf01 (drop 4 s)) (demand (begins (opening_bytes Pf02) s) 1 (value Pf02 (drop 4 s))) ≡ value o t → s ≡ opening_bytes o ++ t
    go true b e = value-with (λ o t. s ≡ opening_bytes o ++ t) e (begins-front (opening_bytes Pf01) s b)
    go false b e =
        demand-value (begins (opening_bytes Pf02) s) 1 _ e (λ b e1.
        value-with (λ o t. s ≡ opening_bytes o ++ t) e1 (begins-front (opening_bytes Pf02) s b))

-- what is shown of bytes that were read as facts: they are spent, without their tags they are the facts' own bytes, no rule refuses the facts, and
-- there are at most 2,078
pub record Read (s : List ℕ) (f : Facts) (t : List ℕ) : Type 0 where
  pub spent : t ≡ []
  pub same : sheet_bytes f ≡ without_tags s
  pub accepted : Accepted f
  pub most : length s ≤ 2078

-- the fields of a sheet, one after the other
module _ {s s1 s2 s3 s4 s5 t ks : List ℕ} {o : Opening} {n k : ℕ} {es : List Element} {cs new : List Constraint} where
  assembled : s ≡ opening_bytes o ++ s1 → s1 ≡ n ∷ s2 → KindsFront o n s2 ks s3 → ElementsFront ks s3 es s4 → s4 ≡ k ∷ s5
      → drop_tags k s5 ≡ constraints_bytes new → length s5 ≤ 9 * k
      → cs ≡ new → length new ≡ k → elements_in_range n ≡ true → constraints_in_range k ≡ true
      → constraints_fault es [] new ≡ 0 → t ≡ []
      → Read s (record { opening = o; elements = es; constraints = cs }) t
  unfolding sheet_bytes elements_fault
  assembled a b c d e walk most is k_is n-ok k-ok taken spent =
      let digits_are : digits_of es ≡ kinds_of o n c.number = d.digits_are ∙ c.digits_are in
      let n_is : length es ≡ n = sym (length-map es (λ x. kind_digit x.kind)) ∙ ap length digits_are ∙ kinds_of-length o n c.number in
      let allowed : kinds_allowed o es ≡ true = kinds-allowed o es n c.number digits_are in
      let number_is : kinds_number o es ≡ c.number =
      kinds_number-digits o es ∙ ap (digits_number o) digits_are ∙ kinds_of-number o n c.number c.below in
      let kinds = digits (kind_bytes o (length es)) (kinds_number o es) in
      let kinds-are : digits (kind_bytes o n) c.number ≡ kinds = rw (n_is, number_is) in
      let kinds-long : length kinds ≡ kind_bytes o (length es) = length_digits (kind_bytes o (length es)) (kinds_number o es) in
      let whole : s ≡ opening_bytes o ++ (length es ∷ kinds ++ (radii_bytes es ++ (k ∷ s5))) =
      a ∙ rw (b, c.front, d.front, e, kinds-are, n_is) in
      rw is
      (record {
        spent = spent;
        same = rw (whole, without_tags-front (length es) k kinds (radii_bytes es) s5 o kinds-long (radii-counted o es allowed), walk, k_is);
        accepted = record {
          elements_fit = rw n_is n-ok;
          elements_allowed = rw (allowed, d.range);
          constraints_fit = rw k_is k-ok;
          no_fault = taken;
        };
        most = rw whole (simp (length-append, opening-length o) (omega (
          arith,
          kinds-long,
          kinds-length o (length es) (rw n_is (elements-most n n-ok)),
          radii-most es (rw n_is (elements-most n n-ok)),
          constraints-most k k-ok,
        )));
      })

pub sheet_read : (s : List ℕ) {f : Facts} {t : List ℕ} → Bytes s → read_sheet s ≡ value f t → Read s f t
unfolding read_sheet read_constraints
sheet_read s h e =
    next-value (opening s) _ e (λ o s1 was e1.
    let a = opening-front s was in
    let h1 : Bytes s1 = rw (drop_at (opening_bytes o) s1 4 (opening-length o)) at (bytes_drop 4 (opening_bytes o ++ s1) (rw a at h)) in
    next-value (byte_by elements_in_range 3 s1) _ e1 (λ n s2 was2 e2.
    let b = byte_by-front elements_in_range 3 s1 h1 was2 in
    next-value (read_kinds o n s2) _ e2 (λ ks s3 was3 e3.
    let c = kinds-front o n s2 b.1.rest was3 in
    next-value (read_elements ks s3) _ e3 (λ es s4 was4 e4.
    let d = elements-front ks s3 c.rest c.known was4 in
    next-value (byte_by constraints_in_range 5 s4) _ e4 (λ k s5 was5 e5.
    let g = byte_by-front constraints_in_range 5 s4 d.rest was5 in
    next-value (constraints es k [] s5) _ e5 (λ cs s6 was6 e6.
    let r = constraints-front es k [] s5 g.1.rest was6 in
    value-with (Read s) e6
    (assembled a b.1.front c d g.1.front r.walk r.most r.all_are r.count b.0 g.0 r.taken r.spent)))))))
