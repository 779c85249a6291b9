-- The blocks of a sheet that its columns give: each constraint by the lists that reach it, and a block filled from the front. Assumes nothing.
use Rattle.std.specs.Prelude.{◌+◌, ◌%◌, ◌≤◌, ◌<◌, ◌≡◌, ◌&&◌, ◌∷◌}
use Rattle.theory.specs.Prelude.{ℕ, zero, suc, le_of_suc-le-suc, add-one, arith, refl, sym, ap, ◌∙◌, Bool, true, false}
use Rattle.theory.specs.Prelude.{List, [], eq-eqb, ne_eqb, lt-ltb, le-ltb, ltb-true, ltb-false, ltb, ℤ, pos, length, get_or, take, set, length-set}
use Rattle.theory.specs.Prelude.{take-suc-set, take_all}
use Rattle.sheet.specs.declared.Opening.{Opening}
use Rattle.sheet.specs.declared.Element.{Element}
use Rattle.sheet.specs.declared.Constraint.{Constraint}
use Rattle.sheet.specs.Facts.{blank_constraint}
use Rattle.sheet.specs.Field.{refused}
use Rattle.sheet.specs.Answer.Laws.{rule-some}
use Rattle.writer.specs.Write.{write_field}
use Rattle.pattern_c.specs.Columns.{places_of, opening_by, kinds_listed, element_in, constraint_from, constraint_in, columns_fault, sheet_in_columns, columns_field}

-- ---- kinds

and-false : (b : Bool) → b && false ≡ false
and-false true = refl
and-false false = refl

module _ (kinds : List ℕ) where
  pub kinds-none-listed : kinds_listed kinds 0 ≡ true
  unfolding kinds_listed
  kinds-none-listed = refl

  pub kinds-more : (i : ℕ) → kinds_listed kinds i ≡ true → get_or kinds i 3 ≤ 2 → kinds_listed kinds (i + 1) ≡ true
  unfolding kinds_listed
  kinds-more i h l = rw (add-one, h, lt-ltb (get_or kinds i 3) 3 (omega (arith, l)))

  -- one that is not known is not listed, whatever follows it
  pub kinds-none : (n i : ℕ) → i < n → 2 < get_or kinds i 3 → kinds_listed kinds n ≡ false
  unfolding kinds_listed
  kinds-none zero i l h = absurd (omega arith)
  kinds-none (suc n) i l h = by (ltb i n) refl (λ q. kinds-none n i (ltb-true i n q) h)
    where
      by : (b : Bool) → ltb i n ≡ b → (ltb i n ≡ true → kinds_listed kinds n ≡ false) → kinds_listed kinds n && ltb (get_or kinds n 3) 3 ≡ false
      by true q before = rw (before q)
      by false q before =
          let s : i ≡ n = omega (arith, ltb-false i n q) in
          rw (← s, le-ltb (get_or kinds i 3) 3 h) (and-false (kinds_listed kinds i))

-- within a list it does not matter what would stand past the end
pub within-list : (xs : List ℕ) (i a b : ℕ) → i < length xs → get_or xs i a ≡ get_or xs i b
within-list [] i a b h = absurd (omega arith)
within-list (x ∷ xs) zero a b h = refl
within-list (x ∷ xs) (suc i) a b h = within-list xs i a b (le_of_suc-le-suc h)

-- ---- a constraint by its place, list after list

module _ (firsts seconds maps : List ℕ) (sizes : List ℤ) (i : ℕ) where
  pub short-firsts : length firsts ≤ i → constraint_in firsts seconds maps sizes i ≡ blank_constraint
  short-firsts f = rw (le-ltb _ _ f)

  pub short-seconds : i < length firsts → length seconds ≤ i → constraint_in firsts seconds maps sizes i ≡ blank_constraint
  short-seconds f s = rw (lt-ltb _ _ f, le-ltb _ _ s)

  pub short-maps : i < length firsts → i < length seconds → length maps ≤ i → constraint_in firsts seconds maps sizes i ≡ blank_constraint
  short-maps f s m = rw (lt-ltb _ _ f, lt-ltb _ _ s, le-ltb _ _ m)

  module _ (f : i < length firsts) (s : i < length seconds) (m : i < length maps) where
    pub without-size : get_or maps i 0 % 2 ≡ 0
        → constraint_in firsts seconds maps sizes i ≡ constraint_from (get_or firsts i 0) (get_or seconds i 0) (get_or maps i 0) (get_or sizes i (pos 0))
    without-size z = rw (lt-ltb _ _ f, lt-ltb _ _ s, lt-ltb _ _ m, eq-eqb _ _ z)

    pub short-sizes : (get_or maps i 0 % 2 ≡ 0 → ⊥) → length sizes ≤ i → constraint_in firsts seconds maps sizes i ≡ blank_constraint
    short-sizes z l = rw (lt-ltb _ _ f, lt-ltb _ _ s, lt-ltb _ _ m, ne_eqb _ _ z, le-ltb _ _ l)

    pub with_size : (get_or maps i 0 % 2 ≡ 0 → ⊥) → i < length sizes
        → constraint_in firsts seconds maps sizes i ≡ constraint_from (get_or firsts i 0) (get_or seconds i 0) (get_or maps i 0) (get_or sizes i (pos 0))
    with_size z l = rw (lt-ltb _ _ f, lt-ltb _ _ s, lt-ltb _ _ m, ne_eqb _ _ z, lt-ltb _ _ l)

-- ---- a block

module _ {A : Type 0} (what : ℕ → A) (most : ℕ) where
  -- the first i places hold what they should
  pub record Filling (i : ℕ) (block : List A) : Type 0 where
    pub within : i ≤ most
    pub long : length block ≡ most
    pub front : take i block ≡ places_of what i

  pub filling-none : (block : List A) → length block ≡ most → Filling 0 block
  unfolding places_of
  filling-none block h = record { within = omega arith; long = h; front = refl }

  pub filling-more : (i : ℕ) (block : List A) → i < most → Filling i block → Filling (i + 1) (set block i (what i))
  unfolding places_of
  filling-more i block l h =
      let q : i < length block = rw h.long l in
      record {
        within = omega arith;
        long = rw length-set h.long;
        front = rw (add-one, take-suc-set block i (what i) q, h.front);
      }

  pub filling-all : (i : ℕ) (block : List A) → most ≤ i → Filling i block → block ≡ places_of what most
  filling-all i block l h =
      let s : i ≡ most = omega (arith, h.within) in
      let q : length block ≤ i = rw h.long l in
      sym (take_all i block q) ∙ h.front ∙ ap (places_of what) s

-- ---- the sheet

module _ (opening n e : ℕ) (kinds radii firsts seconds maps : List ℕ) (sizes : List ℤ) where
  pub columns-refused : {k : ℕ} → k ≡ columns_fault opening n kinds → (k ≡ 0 → ⊥)
      → columns_field opening n e kinds radii firsts seconds maps sizes ≡ refused k
  unfolding columns_field
  columns-refused {k} is some = rule-some _ k is some

  pub columns-taken : {o : Opening} {es : List Element} {cs : List Constraint} → columns_fault opening n kinds ≡ 0 → o ≡ opening_by opening
      → es ≡ places_of (element_in kinds radii) 64 → cs ≡ places_of (constraint_in firsts seconds maps sizes) 200
      → write_field (record { opening = o; n = n; e = e; elements = es; constraints = cs })
      ≡ columns_field opening n e kinds radii firsts seconds maps sizes
  unfolding columns_field sheet_in_columns
  columns-taken none o_is es-are cs-are = rw (none, o_is, es-are, cs-are)
