-- A PF01 sheet is refused by one of rules 1 to 10 alone, and one that is read has at most 1,814 bytes. Assumes nothing.
use Rattle.std.specs.Prelude.{◌+◌, ◌*◌, ◌/◌, ◌^◌, ◌≤◌, ◌≡◌, ◌&&◌, ◌∷◌, ◌++◌}
use Rattle.theory.specs.Prelude.{ℕ, zero, suc, arith, refl, sym, ap, ◌∙◌, subst, Bool, true, false, cond, not}
use Rattle.theory.specs.Prelude.{List, [], ltb, leb, length, take, drop, length-drop}
use Rattle.sheet.specs.declared.Opening.TheVariants.{Pf01}
use Rattle.sheet.specs.declared.Element.{Element}
use Rattle.sheet.specs.declared.PairKind.{PairKind}
use Rattle.sheet.specs.declared.Constraint.{Constraint}
use Rattle.sheet.specs.Facts.{Facts, kind_at}
use Rattle.sheet.specs.Field.{Field, value, refused, next, demand, field, byte, byte_by, number, signed32, opening_bytes, begins, Bytes}
use Rattle.sheet.specs.Rules.{elements_in_range, constraints_in_range, ends_ascend, stands, pair_of, size_in_range}
use Rattle.sheet.specs.Rules.Laws.{elements-most, constraints-most}
use Rattle.sheet.specs.Decode.{tag, read_sheet}
use Rattle.sheet.specs.Refusals.{Rule}
use Rattle.sheet.specs.Refusals.Laws.{between}
use Rattle.sheet.specs.RoundTrip.{written_read}
use Rattle.sheet.specs.First.{opening, elements, map_allowed, size, dimension, constraint, constraints, read_constraints, read_first}
use Rattle.sheet.specs.First.Laws.{pf01-reads}

-- a field that is read from the front of s: its value has at most k bytes, or one of rules 1 to 10 refuses it
data Fits {A : Type 0} (s : List ℕ) (k : ℕ) : Field A → Type 0 where
  given : {a : A} (t : List ℕ) → length s ≤ k + length t → Fits s k (value a t)
  ruled : {r : ℕ} → Rule 1 10 r → Fits s k (refused r)

-- ---- fields one after another

module _ {A : Type 0} {s : List ℕ} where
  -- the value read from t, to which no more than i bytes lead
  fits_after : {t : List ℕ} (i k : ℕ) {x : Field A} → length s ≤ i + length t → Fits t k x → Fits s (i + k) x
  fits_after i k h (given t l) = given t (omega arith)
  fits_after i k h (ruled r) = ruled r

  fits_wider : (i k : ℕ) {x : Field A} → i ≤ k → Fits s i x → Fits s k x
  fits_wider i k h (given t l) = given t (omega arith)
  fits_wider i k h (ruled r) = ruled r

  fits-demand : (b : Bool) {r k : ℕ} {x : Field A} → Rule 1 10 r → (b ≡ true → Fits s k x) → Fits s k (demand b r x)
  fits-demand true r h = h refl
  fits-demand false r h = ruled r

rule : (k : ℕ) → leb 1 k && leb k 10 ≡ true → Rule 1 10 k
rule k e = between 1 10 k e

module _ {B : Type 0} {s : List ℕ} where
  fits_next : {A : Type 0} (i k : ℕ) {x : Field A} {f : A → List ℕ → Field B} → Fits s i x → ((a : A) (t : List ℕ) → Fits t k (f a t))
      → Fits s (i + k) (next x f)
  fits_next i k (given {a} t h) g = fits_after i k h (g a t)
  fits_next i k (ruled r) g = ruled r

  fits_byte : (k : ℕ) {f : ℕ → List ℕ → Field B} → ((b : ℕ) (t : List ℕ) → Fits t k (f b t)) → Fits s (1 + k) (next (byte s) f)
  fits_byte k g = go s g
    where
      go : (s : List ℕ) {f : ℕ → List ℕ → Field B} → ((b : ℕ) (t : List ℕ) → Fits t k (f b t)) → Fits s (1 + k) (next (byte s) f)
      go [] g = ruled (rule 2 refl)
      go (b ∷ s) g = fits_after 1 k (omega arith) (g b s)

  fits-byte_by : (takes : ℕ → Bool) (r k : ℕ) {f : ℕ → List ℕ → Field B} → Rule 1 10 r
      → ((b : ℕ) (t : List ℕ) → takes b ≡ true → Fits t k (f b t)) → Fits s (1 + k) (next (byte_by takes r s) f)
  fits-byte_by takes r k q g = go s g
    where
      by : (b : Bool) (v : ℕ) (t : List ℕ) (f : ℕ → List ℕ → Field B) → (b ≡ true → Fits t k (f v t)) → Fits t k (next (demand b r (value v t)) f)
      by true v t f h = h refl
      by false v t f h = ruled q

      go : (s : List ℕ) {f : ℕ → List ℕ → Field B} → ((b : ℕ) (t : List ℕ) → takes b ≡ true → Fits t k (f b t))
          → Fits s (1 + k) (next (byte_by takes r s) f)
      go [] g = ruled (rule 2 refl)
      go (b ∷ s) g = fits_after 1 k (omega arith) (by (takes b) b s _ (g b s))

fits-field : (k : ℕ) (s : List ℕ) → Fits s k (field k s)
unfolding field
fits-field k s = go (ltb (length s) k)
  where
    go : (b : Bool) → Fits s k (cond b (refused 2) (value (number (take k s)) (drop k s)))
    go true = ruled (rule 2 refl)
    go false = given (drop k s) (rw length-drop (omega arith))

-- ---- the fields of a sheet

fits-size : (p : PairKind) (b : Bool) (s : List ℕ) → Fits s 4 (size p b s)
unfolding size
fits-size p false s = given s (omega arith)
fits-size p true s =
    fits_next 4 0 (fits-field 4 s) (λ u t. fits-demand (size_in_range p (signed32 u)) (rule 9 refl) (λ e. given t (omega arith)))

fits-tag : (b : Bool) (s : List ℕ) → Fits s 2 (tag b s)
unfolding tag
fits-tag false s = given s (omega arith)
fits-tag true s = fits_next 2 0 (fits-field 2 s) (λ u t. given t (omega arith))

fits-dimension : (p : PairKind) (s : List ℕ) → Fits s 7 (dimension p s)
unfolding dimension
fits-dimension p s =
    fits-byte_by (map_allowed p) 8 6 (rule 8 refl) (λ map s1 e.
    fits_next 4 2 (fits-size p _ s1) (λ z s2. fits_next 2 0 (fits-tag _ s2) (λ t s3. given s3 (omega arith))))

fits-constraint : (es : List Element) (done : List Constraint) (s : List ℕ) → Fits s 9 (constraint es done s)
unfolding constraint
fits-constraint es done s =
    fits_byte 8 (λ a s1.
    fits_byte 7 (λ b s2.
    fits-demand (ends_ascend (length es) a b) (rule 6 refl) (λ e.
    fits-demand (not (stands done a b)) (rule 7 refl) (λ e1.
    fits_next 7 0 (fits-dimension (pair_of (kind_at es a) (kind_at es b)) s2) (λ z s3. given s3 (omega arith))))))

fits-constraints : (es : List Element) (k : ℕ) (done : List Constraint) (s : List ℕ) → Fits s (9 * k) (constraints es k done s)
unfolding constraints
fits-constraints es zero done [] = given [] (omega arith)
fits-constraints es zero done (b ∷ s) = ruled (rule 10 refl)
fits-constraints es (suc k) done s =
    fits_wider (9 + 9 * k) (9 * suc k) (omega arith)
    (fits_next 9 (9 * k) (fits-constraint es done s) (λ c s1. fits-constraints es k (done ++ c ∷ []) s1))

fits-rest : (es : List Element) (s : List ℕ) → Fits s 1801 (read_constraints es s)
unfolding read_constraints
fits-rest es s =
    fits-byte_by constraints_in_range 5 1800 (rule 5 refl) (λ e s1 q.
    fits_next 1800 0 (fits_wider (9 * e) 1800 (omega (arith, constraints-most e q)) (fits-constraints es e [] s1)) (λ cs s2. given s2 (omega arith)))

fits-elements : (n : ℕ) (s : List ℕ) → n ≤ 64 → Fits s 8 (elements n s)
unfolding elements
fits-elements n s h =
    fits_next 8 0 (fits_wider ((n + 7) / 8) 8 (omega arith) (fits-field ((n + 7) / 8) s))
    (λ m t. fits-demand (ltb m (2 ^ n)) (rule 4 refl) (λ e. given t (omega arith)))

fits-first : (s : List ℕ) → Fits s 1814 (read_first s)
unfolding read_first
fits-first s =
    fits-demand (begins opening s) (rule 1 refl) (λ b.
    fits_after {t = drop 4 s} 4 1810 (rw length-drop (omega arith))
    (fits-byte_by elements_in_range 3 1809 (rule 3 refl) (λ n s1 q.
    fits_next 8 1801 (fits-elements n s1 (elements-most n q)) (λ es s2. fits-rest es s2))))

which : {s : List ℕ} {k r : ℕ} → Fits {A = Facts} s k (refused r) → Rule 1 10 r
which (ruled h) = h

most : {s t : List ℕ} {k : ℕ} {f : Facts} → Fits s k (value f t) → length s ≤ k + length t
most (given t h) = h

module _ (s : List ℕ) (pf01 : begins (opening_bytes Pf01) s ≡ true) where
  -- the rules that refuse a PF01 sheet are 1 to 10 alone
  pub pf01-rules : (k : ℕ) → read_sheet s ≡ refused k → Rule 1 10 k
  pf01-rules k e = which (subst (Fits s 1814) (sym (pf01-reads s pf01) ∙ e) (fits-first s))

  -- one that is read has at most 1,814 bytes
  pub pf01-most : (f : Facts) (t : List ℕ) → Bytes s → read_sheet s ≡ value f t → length s ≤ 1814
  pf01-most f t h e =
      let spent : t ≡ [] = (written_read s f t h e).0 in
      omega (arith, most (subst (Fits s 1814) (sym (pf01-reads s pf01) ∙ e) (fits-first s)), ap length spent)
