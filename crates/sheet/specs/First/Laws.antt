-- Bytes that begin with PF01, and all that do not begin with PF02, are read as document 01 alone reads them. Assumes nothing.
use Rattle.std.specs.Prelude.{◌+◌, ◌/◌, ◌%◌, ◌^◌, ◌<◌, ◌≤◌, ◌≡◌, ◌&&◌, ◌∷◌, ◌++◌}
use Rattle.theory.specs.Prelude.{ℕ, zero, suc, arith, ne_eqb, le-ltb, refl, sym, ◌∙◌, Bool, true, false, cond}
use Rattle.theory.specs.Prelude.{List, [], eqb, ltb, drop}
use Rattle.sheet.specs.declared.Opening.TheVariants.{Pf01, Pf02}
use Rattle.sheet.specs.declared.Kind.{Kind}
use Rattle.sheet.specs.declared.Element.{Element}
use Rattle.sheet.specs.declared.Size.TheVariants.{Tangent, OtherTangent, Unfit}
use Rattle.sheet.specs.declared.Constraint.{Constraint}
use Rattle.sheet.specs.Facts.{is_circle, kinds_of, kind_at}
use Rattle.sheet.specs.Field.{Field, value, refused, next, demand, field, byte_by, opening_bytes, begins}
use Rattle.sheet.specs.Rules.{elements_in_range, constraints_in_range, kinds_known, pair_of, size_optional, without_bit1, size_by, size_allowed}
use Rattle.sheet.specs.Rules as rules
use Rattle.sheet.specs.Decode as now
use Rattle.sheet.specs.Decode.{read_sheet}
use Rattle.sheet.specs.First.{kind_of, elements_of, elements, size, dimension, constraint, constraints, read_constraints, read_first}

-- what follows a field is the same if it is so for each value
next-same : {A B : Type 0} (x : Field A) (f g : A → List ℕ → Field B) → ((a : A) (s : List ℕ) → f a s ≡ g a s) → next x f ≡ next x g
next-same (value a s) f g h = h a s
next-same (refused k) f g h = refl

-- ---- the kinds: no digit of a bit each is 2 or 3, and no radius follows

pub kinds-known : (n m : ℕ) → kinds_known (kinds_of Pf01 n m) ≡ true
unfolding kinds_known kinds_of
kinds-known zero m = refl
kinds-known (suc n) m = rw (kinds-known n (m / 2)) (go (m % 2) (omega arith))
  where
    go : (d : ℕ) → d < 2 → ltb d 3 && true ≡ true
    go zero l = refl
    go (suc zero) l = refl
    go (suc (suc d)) l = absurd (omega arith)

pub no-radii : (n m : ℕ) (s : List ℕ) → now.read_elements (kinds_of Pf01 n m) s ≡ value (elements_of n m) s
unfolding now.read_elements now.element kinds_of elements_of
no-radii zero m s = refl
no-radii (suc n) m s = rw (go (m % 2) (omega arith), no-radii n (m / 2) s)
  where
    go : (d : ℕ) → d < 2 → now.element d s ≡ value (record { kind = kind_of d }) s
    go zero l = refl
    go (suc zero) l = refl
    go (suc (suc d)) l = absurd (omega arith)

-- no element read so is a circle
abbrev pub Straight : List Element → Type 0
Straight es = (i : ℕ) → is_circle (kind_at es i) ≡ false

pub straight : (n m : ℕ) → Straight (elements_of n m)
unfolding elements_of
straight zero m i = refl
straight (suc n) m (suc i) = straight n (m / 2) i
straight (suc n) m zero = go (m % 2)
  where
    go : (d : ℕ) → is_circle (kind_of d) ≡ false
    go zero = refl
    go (suc d) = refl

-- ---- a map with one of bits 2 to 7 says a contact or nothing that fits, and without a circle rule 8 refuses both

high-map : (j k : Kind) (map : ℕ) → is_circle j ≡ false → is_circle k ≡ false → 4 ≤ map → rules.map_allowed j k map ≡ false
unfolding size_by
high-map j k map cj ck h =
    let zero-not : eqb (without_bit1 map) 0 ≡ false = ne_eqb (without_bit1 map) 0 (λ e. omega arith) in
    let one-not : eqb (without_bit1 map) 1 ≡ false = ne_eqb (without_bit1 map) 1 (λ e. omega arith) in
    rw (zero-not, one-not) (go (eqb (without_bit1 map) 4) (eqb (without_bit1 map) 12))
  where
    go : (a b : Bool) → size_allowed j k (cond a Tangent (cond b OtherTangent Unfit)) ≡ false
    go true b = rw (cj, ck)
    go false true = rw (cj, ck)
    go false false = refl

then_same : {A : Type 0} (b : Bool) (map : ℕ) (s : List ℕ) (f g : ℕ → List ℕ → Field A) → f map s ≡ g map s
    → next (demand b 8 (value map s)) f ≡ next (demand b 8 (value map s)) g
then_same true map s f g e = e
then_same false map s f g e = refl

-- the bit map and what it announces, between two that are no circles
dimension-same : (j k : Kind) (s : List ℕ) → is_circle j ≡ false → is_circle k ≡ false → now.dimension j k s ≡ dimension (pair_of j k) s
unfolding now.dimension now.size dimension size size_by
dimension-same j k [] cj ck = refl
dimension-same j k (zero ∷ s) cj ck = then_same (size_optional (pair_of j k)) 0 s _ _ refl
dimension-same j k (suc zero ∷ s) cj ck = refl
dimension-same j k (suc (suc zero) ∷ s) cj ck = then_same (size_optional (pair_of j k)) 2 s _ _ refl
dimension-same j k (suc (suc (suc zero)) ∷ s) cj ck = refl
dimension-same j k (suc (suc (suc (suc map))) ∷ s) cj ck =
    let high : 4 ≤ suc (suc (suc (suc map))) = omega arith in
    rw (high-map j k (suc (suc (suc (suc map)))) cj ck high, le-ltb (suc (suc (suc (suc map)))) 4 high)

constraint-same : (es : List Element) → Straight es → (done : List Constraint) (s : List ℕ) → now.constraint es done s ≡ constraint es done s
unfolding now.constraint constraint
constraint-same es h done [] = refl
constraint-same es h done (a ∷ []) = refl
constraint-same es h done (a ∷ b ∷ s) = rw (dimension-same (kind_at es a) (kind_at es b) s (h a) (h b))

constraints-same : (es : List Element) → Straight es → (k : ℕ) (done : List Constraint) (s : List ℕ)
    → now.constraints es k done s ≡ constraints es k done s
unfolding now.constraints constraints
constraints-same es h zero done [] = refl
constraints-same es h zero done (b ∷ s) = refl
constraints-same es h (suc k) done s =
    rw (constraint-same es h done s) (next-same (constraint es done s) _ _ (λ c s1. constraints-same es h k (done ++ c ∷ []) s1))

-- ---- the sheet

constraints-read : (n m : ℕ) (s : List ℕ) → now.read_constraints Pf01 (elements_of n m) s ≡ read_constraints (elements_of n m) s
unfolding now.read_constraints read_constraints
constraints-read n m s =
    next-same (byte_by constraints_in_range 5 s) _ _ (λ e s1. rw (constraints-same (elements_of n m) (straight n m) e [] s1))

-- the elements and what follows them
elements-read : (n : ℕ) (s : List ℕ)
    → next (now.read_kinds Pf01 n s) (λ ks s1. next (now.read_elements ks s1) (λ es s2. now.read_constraints Pf01 es s2))
    ≡ next (elements n s) (λ es s1. read_constraints es s1)
unfolding now.read_kinds elements
elements-read n s = go (field ((n + 7) / 8) s)
  where
    by : (b : Bool) (m : ℕ) (t : List ℕ)
        → next (demand b 4 (value (kinds_of Pf01 n m) t)) (λ ks s1. next (now.read_elements ks s1) (λ es s2. now.read_constraints Pf01 es s2))
        ≡ next (demand b 4 (value (elements_of n m) t)) (λ es s1. read_constraints es s1)
    by true m t = rw (no-radii n m t) (constraints-read n m t)
    by false m t = refl

    go : (x : Field ℕ)
        → next (next x (λ m t. demand (ltb m (2 ^ n)) 4 (demand (kinds_known (kinds_of Pf01 n m)) 18 (value (kinds_of Pf01 n m) t))))
        (λ ks s1. next (now.read_elements ks s1) (λ es s2. now.read_constraints Pf01 es s2))
        ≡ next (next x (λ m t. demand (ltb m (2 ^ n)) 4 (value (elements_of n m) t))) (λ es s1. read_constraints es s1)
    go (value m t) = rw (kinds-known n m) (by (ltb m (2 ^ n)) m t)
    go (refused k) = refl

-- bytes that begin with PF01 are read as document 01 alone reads them
pub pf01-reads : (s : List ℕ) → begins (opening_bytes Pf01) s ≡ true → read_sheet s ≡ read_first s
unfolding read_sheet read_first now.opening
pf01-reads s e = rw e (next-same (byte_by elements_in_range 3 (drop 4 s)) _ _ elements-read)

-- bytes that begin with neither are refused by 1 in both
pub others-refused : (s : List ℕ) → begins (opening_bytes Pf01) s ≡ false → begins (opening_bytes Pf02) s ≡ false
    → (read_sheet s ≡ refused 1) × (read_first s ≡ refused 1)
unfolding read_sheet read_first now.opening
others-refused s e d = (rw (e, d), rw e)

-- so PF02 alone moved
pub reads-as-before : (s : List ℕ) → begins (opening_bytes Pf02) s ≡ false → read_sheet s ≡ read_first s
reads-as-before s d = go (begins (opening_bytes Pf01) s) refl
  where
    go : (b : Bool) → begins (opening_bytes Pf01) s ≡ b → read_sheet s ≡ read_first s
    go true e = pf01-reads s e
    go false e = let h = others-refused s e d in h.0 ∙ sym h.1
