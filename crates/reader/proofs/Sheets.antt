-- All before the constraints, and the constraints: what is read of a list is read of its sheet. Assumes nothing.
use Rattle.std.specs.Prelude.{◌+◌, ◌≡◌, ◌∷◌, ◌++◌, Ok}
use Rattle.theory.specs.Prelude.{ℕ, zero, suc, arith, refl, sym, ◌∙◌, true, false, List, [], ℤ, length, drop, length-append}
use Rattle.sheet.specs.declared.Element.{Element}
use Rattle.sheet.specs.declared.Constraint.{Constraint}
use Rattle.sheet.specs.Facts.{Facts}
use Rattle.sheet.specs.declared.Opening.{Opening}
use Rattle.sheet.specs.Field.{Field, value, refused, next, byte, Bytes}
use Rattle.sheet.specs.Rules.{elements_in_range, constraints_in_range}
use Rattle.elements.specs.Answers.{elements_field}
use Rattle.sheet.specs.Field.Laws.{next-value, value-with, refused-value}
use Rattle.sheet.specs.Decode.{opening, read_kinds, read_elements, constraint, constraints, read_constraints, read_sheet}
use Rattle.sheet.specs.RoundTrip.{written_read}
use Rattle.elements.specs.declared.fields.Cursor.{Cursor}
use Rattle.graph.specs.declared.Front.{Front}
use Rattle.reader.specs.Answers.{facts_with, Follows, ListRead, SheetRead}

pub next-assoc : {A B C : Type 0} (x : Field A) (f : A → List ℕ → Field B) (g : B → List ℕ → Field C)
    → next (next x f) g ≡ next x (λ a s. next (f a s) g)
next-assoc (value a s) f g = refl
next-assoc (refused k) f g = refl

-- the fields before the constraints, one after another
module _ (s : List ℕ) {o : Opening} {s1 : List ℕ} (opens : value o s1 ≡ opening s) {n b : ℕ} {s2 : List ℕ} (counted : value b s2 ≡ byte s1)
    (n_is : n ≡ b) where
  pub count-out : false ≡ elements_in_range n → read_sheet s ≡ refused 3
  unfolding read_sheet
  count-out out = rw (← opens, ← counted, ← n_is, ← out)

  module _ (enough : true ≡ elements_in_range n) where
    tail : read_sheet s ≡ next (elements_field o n s2) (read_constraints o)
    unfolding read_sheet
    tail = rw (← opens, ← counted, ← n_is, ← enough) (sym (next-assoc (read_kinds o n s2) read_elements (read_constraints o)))

    pub elements-cut : {k : ℕ} → elements_field o n s2 ≡ refused k → read_sheet s ≡ refused k
    elements-cut e = tail ∙ rw e

    module _ {es : List Element} {s3 : List ℕ} (elements-are : elements_field o n s2 ≡ value es s3) where
      pub listed-cut : {k : ℕ} → byte s3 ≡ refused k → read_sheet s ≡ refused k
      unfolding read_constraints
      listed-cut e = tail ∙ rw (elements-are, e)

      module _ {e k : ℕ} {s4 : List ℕ} (listed : value k s4 ≡ byte s3) (e_is : e ≡ k) where
        pub listed-out : false ≡ constraints_in_range e → read_sheet s ≡ refused 5
        unfolding read_constraints
        listed-out out = tail ∙ rw (elements-are, ← listed, ← e_is, ← out)

        pub front-read : true ≡ constraints_in_range e → read_sheet s ≡ facts_with o es (constraints es e [] s4)
        unfolding read_constraints
        front-read few = tail ∙ rw (elements-are, ← listed, ← e_is, ← few)

constraints-counted-up : (es : List Element) (k : ℕ) (done : List Constraint) (s : List ℕ) {cs : List Constraint} {t : List ℕ}
    → constraints es k done s ≡ value cs t → length cs ≡ length done + k
unfolding constraints
constraints-counted-up es zero done [] e = value-with (λ (cs : List Constraint) (t : List ℕ). length cs ≡ length done + 0) e (omega arith)
constraints-counted-up es zero done (b ∷ s) e = refused-value e
constraints-counted-up es (suc k) done s e =
    next-value (constraint es done s) _ e (λ c s1 was e1.
    let n = constraints-counted-up es k (done ++ c ∷ []) s1 e1 in omega (arith, n, length-append done (c ∷ [])))

-- what is read of a list is read of its sheet
module _ {s radii : List ℕ} {h : Front} {c : Cursor} (x : Follows (read_sheet s) s radii h c) where
  pub list-refused : {k : ℕ} → constraints x.elements h.e [] (drop c.at s) ≡ refused k → read_sheet s ≡ refused k
  list-refused is = x.rest ∙ rw is

  pub list_read : {near start : List ℕ} {codes : List ℤ} → Bytes s
      → ListRead (constraints x.elements h.e [] (drop c.at s)) (Ok tt) near start codes → SheetRead (read_sheet s) (Ok h) near start codes radii
  list_read all (cs, t, is, arrays) =
      let f : Facts = record { opening = h.opening; elements = x.elements; constraints = cs } in
      let whole : read_sheet s ≡ value f t = x.rest ∙ rw is in
      let k : length cs ≡ h.e = omega (arith, constraints-counted-up x.elements h.e [] (drop c.at s) is) in (
        f,
        t,
        whole,
        record {
          accepted = (written_read s f t all whole).2;
          opening_is = refl;
          head_is = rw (x.count, k, x.kinds_in.lines_are);
          kinds_in = x.kinds_in;
          arrays = arrays;
        },
      )
