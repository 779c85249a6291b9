-- What a field of a sheet says goes by its own bytes alone, whatever follows them. Assumes nothing.
use Rattle.std.specs.Prelude.{◌+◌, ◌*◌, ◌/◌, ◌%◌, ◌≤◌, ◌≡◌, ◌∷◌, ◌++◌}
use Rattle.theory.specs.Prelude.{ℕ, zero, suc, arith, refl, sym, ap, ◌∙◌, Bool, true}
use Rattle.theory.specs.Prelude.{false, cond, not, List, []}
use Rattle.theory.specs.Prelude.{append_assoc, eqb, ltb, pos, length, take, drop, length-append, take-append-drop}
use Rattle.theory.specs.Prelude.{take_at, drop_at, length-take-le, le-ltb}
use Rattle.theory.specs.Prelude.{ltb-false, get_or}
use Rattle.sheet.specs.declared.Kind.{Kind}
use Rattle.sheet.specs.declared.PairKind.{PairKind}
use Rattle.sheet.specs.declared.Element.{Element}
use Rattle.sheet.specs.declared.Size.{Size}
use Rattle.sheet.specs.declared.Size.TheVariants.{Given, Missing, Tangent, OtherTangent, Unfit}
use Rattle.sheet.specs.declared.Constraint.{Constraint}
use Rattle.sheet.specs.Facts.{bit_of, kind_at}
use Rattle.sheet.specs.Field.{Field, value, refused, number, field, byte_by, signed32, Bytes}
use Rattle.sheet.specs.Field.Laws.{next-value, demand-value, value-with, refused-value}
use Rattle.sheet.specs.Rules.{ends_ascend, stands, pair_of, without_bit1, size_by, map_allowed, radii_differ, size_in_range}
use Rattle.sheet.specs.Decode.{size, tag, dimension, constraint}
use Rattle.sheet.specs.Encode.{map_of, constraint_bytes}
use Rattle.sheet.specs.WithoutTags.{size_length, tag_length, drop_tags}
use Rattle.sheet.specs.RoundTrip.Read.{constraint-front}

-- k bytes of its own, and the same value with them in front of other bytes
pub record Local {A : Type 0} (read : List ℕ → Field A) (k : ℕ) (s : List ℕ) (a : A) (t : List ℕ) : Type 0 where
  pub own : List ℕ
  pub front : s ≡ own ++ t
  pub long : length own ≡ k
  pub again : (u : List ℕ) → read (own ++ u) ≡ value a u

-- a field's number is that of its own bytes
pub record OwnNumber (k : ℕ) (s : List ℕ) (u : ℕ) (t : List ℕ) : Type 0 where
  pub read : Local (field k) k s u t
  pub is : number read.own ≡ u

pub field-local : (k : ℕ) (s : List ℕ) {u : ℕ} {t : List ℕ} → field k s ≡ value u t → OwnNumber k s u t
unfolding field
field-local k s {u} {t} e = by (ltb (length s) k) refl e
  where
    by : (b : Bool) → ltb (length s) k ≡ b → cond b (refused 2) (value (number (take k s)) (drop k s)) ≡ value u t
        → OwnNumber k s u t
    by true q h = refused-value h
    by false q h =
        let long : length (take k s) ≡ k = length-take-le k s (ltb-false _ _ q) in
        value-with (OwnNumber k s) h
        (record {
          read = record {
            own = take k s;
            front = sym (take-append-drop k s);
            long = long;
            again = λ w.
                rw (
                  le-ltb (length (take k s ++ w)) k (rw (length-append (take k s) w, long) (omega arith)),
                  take_at (take k s) w k long,
                  drop_at (take k s) w k long,
                );
          };
          is = refl;
        })

-- a byte that a rule takes
pub byte-own : (takes : ℕ → Bool) (k : ℕ) (s : List ℕ) {b : ℕ} {t : List ℕ} → byte_by takes k s ≡ value b t
    → (takes b ≡ true) × (s ≡ b ∷ t)
byte-own takes k [] e = refused-value e
byte-own takes k (x ∷ s) e = demand-value (takes x) k _ e
    (λ ok e1. value-with (λ b t. (takes b ≡ true) × (x ∷ s ≡ b ∷ t)) e1 (ok, refl))

-- ---- size and tag

pub size-local : (p : PairKind) (y : Size) (s : List ℕ) {z : Size} {t : List ℕ} → size p y s ≡ value z t
    → Local (size p y) (4 * (map_of z % 2)) s z t
unfolding size
size-local p (Given y) s e =
    next-value (field 4 s) _ e (λ u s1 was e1.
    let f = (field-local 4 s was).read in
    demand-value (size_in_range p (signed32 u)) 9 _ e1 (λ range e2.
    value-with (λ z t. Local (size p (Given y)) (4 * (map_of z % 2)) s z t) e2
    (record { own = f.own; front = f.front; long = f.long; again = λ w. rw (f.again w, range) })))
size-local p Missing s e =
    value-with (λ z t. Local (size p Missing) (4 * (map_of z % 2)) s z t) e
    (record { own = []; front = refl; long = refl; again = λ w. refl })
size-local p Tangent s e =
    value-with (λ z t. Local (size p Tangent) (4 * (map_of z % 2)) s z t) e
    (record { own = []; front = refl; long = refl; again = λ w. refl })
size-local p OtherTangent s e =
    value-with (λ z t. Local (size p OtherTangent) (4 * (map_of z % 2)) s z t) e
    (record { own = []; front = refl; long = refl; again = λ w. refl })
size-local p Unfit s e =
    value-with (λ z t. Local (size p Unfit) (4 * (map_of z % 2)) s z t) e
    (record { own = []; front = refl; long = refl; again = λ w. refl })

pub tag-local : (q : Bool) (s : List ℕ) {v : Unit {0}} {t : List ℕ} → tag q s ≡ value v t
    → Local (tag q) (2 * bit_of q) s v t
unfolding tag
tag-local false s e = value-with (Local (tag false) 0 s) e
    (record { own = []; front = refl; long = refl; again = λ w. refl })
tag-local true s e =
    next-value (field 2 s) _ e (λ u s1 was e1.
    let f = (field-local 2 s was).read in
    value-with (Local (tag true) 2 s) e1
    (record { own = f.own; front = f.front; long = f.long; again = λ w. rw (f.again w) }))

-- ---- one constraint

bit_is : (b : ℕ) → b ≤ 1 → bit_of (eqb b 1) ≡ b
bit_is zero h = refl
bit_is (suc zero) h = refl
bit_is (suc (suc b)) h = absurd (omega arith)

record DimensionLocal (j k : Kind) (s : List ℕ) (z : Size) (t : List ℕ) : Type 0 where
  bits : ℕ
  own : List ℕ
  front : s ≡ bits ∷ own ++ t
  long : length own ≡ 4 * (map_of z % 2) + tag_length bits
  again : (u : List ℕ) → dimension j k (bits ∷ own ++ u) ≡ value z u

dimension-local : (j k : Kind) (s : List ℕ) {z : Size} {t : List ℕ} → dimension j k s ≡ value z t
    → DimensionLocal j k s z t
unfolding dimension
dimension-local j k s e =
    next-value (byte_by (map_allowed j k) 8 s) _ e (λ bits s1 was e1.
    let m = byte-own (map_allowed j k) 8 s was in
    demand-value (radii_differ j k (size_by bits (pos 0))) 20 _ e1 (λ differ e2.
    next-value (size (pair_of j k) (size_by bits (pos 0)) s1) _ e2 (λ z s2 was2 e3.
    let f = size-local (pair_of j k) (size_by bits (pos 0)) s1 was2 in
    next-value (tag (eqb (bits / 2 % 2) 1) s2) _ e3 (λ v s3 was3 e4.
    let g = tag-local (eqb (bits / 2 % 2) 1) s2 was3 in
    value-with (DimensionLocal j k s) e4
    (record {
      bits = bits;
      own = f.own ++ g.own;
      front =
          m.1
          ∙ ap (λ (l : List ℕ). bits ∷ l)
          (f.front ∙ ap (λ (l : List ℕ). f.own ++ l) g.front ∙ sym (append_assoc f.own g.own s3));
      long =
          length-append f.own g.own
          ∙ rw (f.long, g.long) (ap (λ (b : ℕ). 4 * (map_of z % 2) + 2 * b) (bit_is (bits / 2 % 2) (omega arith)));
      again = λ u. rw (m.0, differ, append_assoc f.own g.own u, f.again (g.own ++ u), g.again u);
    })))))

-- the bit map that was read is that of the size, but for bit 1
map_is : (a b bits : ℕ) (z : Size) (s t : List ℕ)
    → drop_tags 1 (a ∷ b ∷ bits ∷ s) ≡ constraint_bytes (record { first = a; second = b; size = z }) ++ drop_tags 0 t
    → map_of z ≡ without_bit1 bits
unfolding drop_tags constraint_bytes
map_is a b bits z s t e = sym (ap (λ (l : List ℕ). get_or l 2 0) e)

-- its own bytes say it after any constraints among which its pair does not stand
pub record ConstraintLocal (es : List Element) (s : List ℕ) (c : Constraint) (t : List ℕ) : Type 0 where
  pub bits : ℕ
  pub own : List ℕ
  pub front : s ≡ c.first ∷ c.second ∷ bits ∷ own ++ t
  pub long : length own ≡ size_length bits + tag_length bits
  pub again : (done : List Constraint) (u : List ℕ) → stands done c.first c.second ≡ false
      → constraint es done (c.first ∷ c.second ∷ bits ∷ own ++ u) ≡ value c u

pub constraint-local : (es : List Element) (done : List Constraint) (s : List ℕ) {c : Constraint} {t : List ℕ} → Bytes s
    → constraint es done s ≡ value c t → ConstraintLocal es s c t
unfolding constraint
constraint-local es done [] h e = refused-value e
constraint-local es done (a ∷ []) h e = refused-value e
constraint-local es done (a ∷ b ∷ s) {c} {t} h e =
    demand-value (ends_ascend (length es) a b) 6 _ e (λ ascend e1.
    demand-value (not (stands done a b)) 7 _ e1 (λ new e2.
    next-value (dimension (kind_at es a) (kind_at es b) s) _ e2 (λ z s3 was e3.
    let d = dimension-local (kind_at es a) (kind_at es b) s was in
    let front : a ∷ b ∷ s ≡ a ∷ b ∷ d.bits ∷ d.own ++ s3 = ap (λ (l : List ℕ). a ∷ b ∷ l) d.front in
    let walk = (constraint-front es done (a ∷ b ∷ s) h (e ∙ sym e3)).walk 0 in
    let is : map_of z ≡ without_bit1 d.bits = map_is a b d.bits z (d.own ++ s3) s3 (rw front at walk) in
    value-with (ConstraintLocal es (a ∷ b ∷ s)) e3
    (record {
      bits = d.bits;
      own = d.own;
      front = front;
      long = d.long ∙ ap (λ (k : ℕ). 4 * k + tag_length d.bits) (ap (λ (k : ℕ). k % 2) is ∙ omega arith);
      again = λ done' u fresh. rw (ascend, fresh, d.again u);
    }))))
