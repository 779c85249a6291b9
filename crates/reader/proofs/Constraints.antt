-- The rest of a constraint after its ends, and the constraints that are left in a walk: which answer comes when. Assumes nothing.
use Rattle.std.specs.Prelude.{◌+◌, ◌-◌, ◌<◌, ◌≤◌, ◌≡◌, ◌∷◌, ◌++◌, Ok}
use Rattle.theory.specs.Prelude.{ℕ, suc, arith, refl, sym, ap, ◌∙◌, List, [], ℤ, length, drop, length-append}
use Rattle.theory.specs.Prelude.{drop_of_length-le, drop-cons}
use Rattle.sheet.specs.declared.Element.{Element}
use Rattle.sheet.specs.declared.Size.{Size}
use Rattle.sheet.specs.declared.Constraint.{Constraint}
use Rattle.sheet.specs.Field.{Field, value, refused}
use Rattle.sheet.specs.Field.Laws.{value-with, refused-value}
use Rattle.sheet.specs.Decode.{constraint, constraints}
use Rattle.graph.specs.Lent.{code_of, InArrays}
use Rattle.reader.specs.Answers.{code_in, ListRead}

-- ---- a size that was read as a number

pub no_size : (x : Field Size) {k : ℕ} → code_in x ≡ refused k → x ≡ refused k
no_size (value z t) e = refused-value (sym e)
no_size (refused j) {k} e = let same : j ≡ k = cc in ap refused same

pub record Sized (x : Field Size) (y : ℤ) (u : List ℕ) : Type 0 where
  pub size : Size
  pub was : x ≡ value size u
  pub is : code_of size ≡ y

pub sized : (x : Field Size) {y : ℤ} {u : List ℕ} → code_in x ≡ value y u → Sized x y u
sized (value z t) e = value-with (Sized (value z t)) e (record { size = z; was = refl; is = refl })
sized (refused j) e = refused-value e

-- ---- a walk over e constraints, i of them read: what is left gives the answer

pub record Turn (s : List ℕ) (es : List Element) (e from : ℕ) (near start : List ℕ) (codes : List ℤ) (at i : ℕ) : Type 0 where
  pub read : List Constraint
  pub count : length read ≡ i
  pub holds : InArrays read near start codes
  pub left : constraints es e [] (drop from s) ≡ constraints es (e - i) read (drop at s)

module _ {s : List ℕ} {es : List Element} {e from : ℕ} {near start : List ℕ} {codes : List ℤ} {at i : ℕ}
    (t : Turn s es e from near start codes at i) where
  module _ (more : i < e) where
    one_less : e - i ≡ suc (e - (i + 1))
    one_less = omega arith

    -- a rule refuses
    pub stopped : {k : ℕ} → constraint es t.read (drop at s) ≡ refused k → constraints es e [] (drop from s) ≡ refused k
    unfolding constraints
    stopped was = t.left ∙ rw (one_less, was)

    pub one_more : {near' start' : List ℕ} {codes' : List ℤ} {at' : ℕ} {c : Constraint} → constraint es t.read (drop at s) ≡ value c (drop at' s)
        → InArrays (t.read ++ c ∷ []) near' start' codes' → Turn s es e from near' start' codes' at' (i + 1)
    unfolding constraints
    one_more {c = c} was h = record {
      read = t.read ++ c ∷ [];
      count = length-append t.read (c ∷ []) ∙ ap (λ (k : ℕ). k + 1) t.count;
      holds = h;
      left = t.left ∙ rw (one_less, was);
    }

  module _ (all : e ≤ i) where
    none_left : e - i ≡ 0
    none_left = omega arith

    pub at-end : length s ≤ at → ListRead (constraints es e [] (drop from s)) (Ok tt) near start codes
    unfolding constraints
    at-end h = (t.read, [], t.left ∙ rw (none_left, drop_of_length-le s h), t.holds)

    pub bytes-follow : at < length s → constraints es e [] (drop from s) ≡ refused 10
    unfolding constraints
    bytes-follow h = t.left ∙ rw (none_left, drop-cons s at 0 h)
