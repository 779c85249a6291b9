-- A sheet is refused by one of rules 1 to 10 and 18 to 20, and facts by one of 3, 5 to 9 and 18 to 20. Assumes nothing.
use Rattle.std.specs.Prelude.{◌%◌, ◌/◌, ◌≡◌, ◌≢◌, ◌⊎◌, ◌&&◌, ◌∷◌, ◌++◌}
use Rattle.theory.specs.Prelude.{ℕ, zero, suc, arith, leb-true, refl, subst, inl, inr, Bool, true, false, not, cond}
use Rattle.theory.specs.Prelude.{List, [], ltb, leb, eqb, pos, length}
use Rattle.sheet.specs.declared.Opening.{Opening}
use Rattle.sheet.specs.declared.Opening.TheVariants.{Pf01, Pf02}
use Rattle.sheet.specs.declared.Kind.{Kind}
use Rattle.sheet.specs.declared.Element.{Element}
use Rattle.sheet.specs.declared.PairKind.{PairKind}
use Rattle.sheet.specs.declared.Constraint.{Constraint}
use Rattle.sheet.specs.declared.Size.{Size}
use Rattle.sheet.specs.declared.Size.TheVariants.{Given, Missing, Tangent, OtherTangent, Unfit}
use Rattle.sheet.specs.declared.Sheet.{Sheet}
use Rattle.sheet.specs.Facts.{kinds_of, kind_at}
use Rattle.sheet.specs.Facts.Laws.{and-true}
use Rattle.sheet.specs.Field.{Field, refused, next, demand, field, byte, byte_by, signed32, kind_bytes, opening_bytes, begins}
use Rattle.sheet.specs.Decode.{opening, element, read_elements, size, tag, dimension, constraint, constraints, read_constraints, read_kinds, read_sheet}
use Rattle.sheet.specs.Rules.{elements_in_range, kind_bits_used, kinds_known, kinds_allowed, radius_in_range, radii_in_range, constraints_in_range}
use Rattle.sheet.specs.Rules.{ends_ascend, stands, pair_of, size_by, size_allowed, map_allowed, radii_differ}
use Rattle.sheet.specs.Rules.{size_in_range, range_fault, size_fault, fault_unless, or_else, constraint_fault, constraints_fault, elements_fault, sheet_fault}
use Rattle.sheet.specs.Refusals.{Rule, OfSheet, But, By, given, ruled, Fault}

pub between : (low high k : ℕ) → leb low k && leb k high ≡ true → Rule low high k
between low high k e =
    let h = and-true (leb low k) (leb k high) e in record { from = leb-true low k h.0; to = leb-true k high h.1 }

module _ {rules : ℕ → Type 0} where
  -- ---- fields one after another

  pub by_next : {A B : Type 0} {f : Field A} {g : A → List ℕ → Field B} → By rules f
      → ((a : A) (s : List ℕ) → By rules (g a s)) → By rules (next f g)
  by_next (given {a} {s}) k = k a s
  by_next (ruled h) k = ruled h

  by_cond : {A : Type 0} (b : Bool) {f g : Field A} → By rules f → By rules g → By rules (cond b f g)
  by_cond true h k = h
  by_cond false h k = k

  pub by-wider : {A : Type 0} {more : ℕ → Type 0} {f : Field A} → ((k : ℕ) → rules k → more k) → By rules f → By more f
  by-wider l given = given
  by-wider l (ruled h) = ruled (l _ h)

  pub which : {A : Type 0} {k : ℕ} → By {A = A} rules (refused k) → rules k
  which (ruled h) = h

-- ---- the fields of a sheet, by 1 to 10 and 18 to 20

rule : (k : ℕ) → leb 1 k && leb k 10 ≡ true → OfSheet k
rule k e = inl (between 1 10 k e)

round : (k : ℕ) → leb 18 k && leb k 20 ≡ true → OfSheet k
round k e = inr (between 18 20 k e)

by-demand : {A : Type 0} (b : Bool) {r : ℕ} {f : Field A} → OfSheet r → By OfSheet f → By OfSheet (demand b r f)
by-demand true h k = k
by-demand false h k = ruled h

by_byte : (s : List ℕ) → By OfSheet (byte s)
by_byte [] = ruled (rule 2 refl)
by_byte (b ∷ s) = given

by-byte_by : (takes : ℕ → Bool) {k : ℕ} (s : List ℕ) → OfSheet k → By OfSheet (byte_by takes k s)
by-byte_by takes s r = by_next (by_byte s) (λ b s1. by-demand (takes b) r given)

by_field : (k : ℕ) (s : List ℕ) → By OfSheet (field k s)
unfolding field
by_field k s = by_cond (ltb (length s) k) (ruled (rule 2 refl)) given

by-element : (k : ℕ) (s : List ℕ) → By OfSheet (element k s)
unfolding element
by-element zero s = given
by-element (suc zero) s = given
by-element (suc (suc k)) s = by_next (by_field 4 s) (λ r s1. by-demand (radius_in_range r) (round 19 refl) given)

by-elements : (ks s : List ℕ) → By OfSheet (read_elements ks s)
unfolding read_elements
by-elements [] s = given
by-elements (k ∷ ks) s = by_next (by-element k s) (λ x s1. by_next (by-elements ks s1) (λ xs s2. given))

by_size : (p : PairKind) (z : Size) (s : List ℕ) → By OfSheet (size p z s)
unfolding size
by_size p (Given z) s = by_next (by_field 4 s) (λ u s1. by-demand (size_in_range p (signed32 u)) (rule 9 refl) given)
by_size p Missing s = given
by_size p Tangent s = given
by_size p OtherTangent s = given
by_size p Unfit s = given

by-tag : (b : Bool) (s : List ℕ) → By OfSheet (tag b s)
unfolding tag
by-tag false s = given
by-tag true s = by_next (by_field 2 s) (λ u s1. given)

by-dimension : (j k : Kind) (s : List ℕ) → By OfSheet (dimension j k s)
unfolding dimension
by-dimension j k s =
    by_next (by-byte_by (map_allowed j k) s (rule 8 refl)) (λ map s1.
    by-demand (radii_differ j k (size_by map (pos 0))) (round 20 refl)
    (by_next (by_size (pair_of j k) (size_by map (pos 0)) s1) (λ z s2. by_next (by-tag (eqb (map / 2 % 2) 1) s2) (λ t s3. given))))

by-constraint : (es : List Element) (done : List Constraint) (s : List ℕ) → By OfSheet (constraint es done s)
unfolding constraint
by-constraint es done s =
    by_next (by_byte s) (λ a s1.
    by_next (by_byte s1) (λ b s2.
    by-demand (ends_ascend (length es) a b) (rule 6 refl) (by-demand (not (stands done a b)) (rule 7 refl)
    (by_next (by-dimension (kind_at es a) (kind_at es b) s2) (λ z s3. given)))))

pub by-constraints : (es : List Element) (k : ℕ) (done : List Constraint) (s : List ℕ) → By OfSheet (constraints es k done s)
unfolding constraints
by-constraints es zero done [] = given
by-constraints es zero done (b ∷ s) = ruled (rule 10 refl)
by-constraints es (suc k) done s =
    by_next (by-constraint es done s) (λ c s1. by-constraints es k (done ++ c ∷ []) s1)

pub by-sheet : (s : List ℕ) → By OfSheet (read_sheet s)
unfolding opening read_sheet read_kinds read_constraints
by-sheet s =
    by_next (by_cond (begins (opening_bytes Pf01) s) given (by-demand (begins (opening_bytes Pf02) s) (rule 1 refl) given)) (λ o s1.
    by_next (by-byte_by elements_in_range s1 (rule 3 refl)) (λ n s2.
    by_next (by_next (by_field (kind_bytes o n) s2) (λ m s3.
    by-demand (kind_bits_used o n m) (rule 4 refl) (by-demand (kinds_known (kinds_of o n m)) (round 18 refl) given))) (λ ks s4.
    by_next (by-elements ks s4) (λ es s5.
    by_next (by-byte_by constraints_in_range s5 (rule 5 refl)) (λ e s6. by_next (by-constraints es e [] s6) (λ cs s7. given))))))

-- a sheet is refused by one of rules 1 to 10 and 18 to 20
pub refused-by : (s : List ℕ) (k : ℕ) → read_sheet s ≡ refused k → OfSheet k
refused-by s k e = which (subst (By OfSheet) e (by-sheet s))

-- ---- facts are refused by one of rules 3, 5 to 9 and 18 to 20

module _ (rules : ℕ → Type 0) where
  pub fault-else : (j k : ℕ) → Fault rules j → Fault rules k → Fault rules (or_else j k)
  fault-else zero k h l = l
  fault-else (suc j) k h l = h

  fault-unless : (met : Bool) (k rest : ℕ) → rules (suc k) → Fault rules rest → Fault rules (fault_unless met (suc k) rest)
  fault-unless true k rest e h = h
  fault-unless false k rest e h = e

abbrev pub OfFacts : ℕ → Type 0
OfFacts k = But 4 (Rule 3 9) k ⊎ Rule 18 20 k

old : (k : ℕ) → leb 3 k && leb k 9 ≡ true → k ≢ 4 → OfFacts k
old k e n = inl (between 3 9 k e, n)

new : (k : ℕ) → leb 18 k && leb k 20 ≡ true → OfFacts k
new k e = inr (between 18 20 k e)

fault-range : (p : PairKind) (z : Size) → Fault OfFacts (range_fault p z)
fault-range p (Given z) = fault-unless OfFacts (size_in_range p z) 8 0 (old 9 refl (λ e. omega arith)) tt
fault-range p Missing = tt
fault-range p Tangent = tt
fault-range p OtherTangent = tt
fault-range p Unfit = tt

fault-size : (j k : Kind) (z : Size) → Fault OfFacts (size_fault j k z)
unfolding size_fault
fault-size j k z =
    fault-unless OfFacts (size_allowed j k z) 7 _ (old 8 refl (λ e. omega arith))
    (fault-unless OfFacts (radii_differ j k z) 19 _ (new 20 refl) (fault-range (pair_of j k) z))

pub fault-constraint : (es : List Element) (done : List Constraint) (c : Constraint) → Fault OfFacts (constraint_fault es done c)
unfolding constraint_fault
fault-constraint es done c =
    fault-unless OfFacts (ends_ascend (length es) c.first c.second) 5 _ (old 6 refl (λ e. omega arith))
    (fault-unless OfFacts (not (stands done c.first c.second)) 6 _ (old 7 refl (λ e. omega arith))
    (fault-size (kind_at es c.first) (kind_at es c.second) c.size))

fault-constraints : (es : List Element) (cs done : List Constraint) → Fault OfFacts (constraints_fault es done cs)
unfolding constraints_fault
fault-constraints es [] done = tt
fault-constraints es (c ∷ cs) done =
    fault-else OfFacts (constraint_fault es done c) _ (fault-constraint es done c) (fault-constraints es cs (done ++ c ∷ []))

fault-elements : (o : Opening) (es : List Element) → Fault OfFacts (elements_fault o es)
unfolding elements_fault
fault-elements o es =
    fault-unless OfFacts (kinds_allowed o es) 17 _ (new 18 refl) (fault-unless OfFacts (radii_in_range es) 18 0 (new 19 refl) tt)

pub fault-sheet : (s : Sheet) → Fault OfFacts (sheet_fault s)
unfolding sheet_fault
fault-sheet s =
    fault-unless OfFacts (elements_in_range s.n) 2 _ (old 3 refl (λ e. omega arith))
    (fault-else OfFacts (elements_fault s.opening _) _ (fault-elements s.opening _)
    (fault-unless OfFacts (constraints_in_range s.e) 4 _ (old 5 refl (λ e. omega arith)) (fault-constraints _ _ [])))
