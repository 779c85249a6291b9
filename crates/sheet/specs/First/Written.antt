-- Accepted facts with the opening PF01 are written as document 01 alone writes them, in at most 1,414 bytes, and their graph has the sizes given.
-- Assumes nothing.
use Rattle.std.specs.Prelude.{◌≤◌, ◌≡◌, ◌∷◌, ◌++◌}
use Rattle.theory.specs.Prelude.{ℕ, zero, suc, arith, refl, sym, ap₂, subst, Bool, true, false, not, List, [], map, T, length}
use Rattle.theory.specs.Prelude.{length-append}
use Rattle.sheet.specs.declared.Opening.TheVariants.{Pf01}
use Rattle.sheet.specs.declared.Kind.{Kind}
use Rattle.sheet.specs.declared.Kind.TheVariants.{Point, Line, Circle}
use Rattle.sheet.specs.declared.Element.{Element}
use Rattle.sheet.specs.declared.Size.{Size}
use Rattle.sheet.specs.declared.Size.TheVariants.{Given, Missing, Tangent, OtherTangent, Unfit}
use Rattle.sheet.specs.declared.Constraint.{Constraint}
use Rattle.sheet.specs.Facts.{Facts, is_circle, radius_of, kind_at, kinds_number, set_of, lines_of}
use Rattle.sheet.specs.Facts.Laws.{and-true}
use Rattle.sheet.specs.Field.{kind_bytes}
use Rattle.sheet.specs.Field.Laws.{length_digits, opening-length}
use Rattle.sheet.specs.Rules.{kinds_allowed, size_fault, constraint_fault, constraints_fault}
use Rattle.sheet.specs.Rules.Laws.{none-else, constraints-most, elements-taken}
use Rattle.sheet.specs.Encode as now
use Rattle.sheet.specs.Encode.{radii_bytes, sheet_bytes, constraint_bytes}
use Rattle.sheet.specs.Encode.Laws.{constraints-length}
use Rattle.sheet.specs.Accepted.{Accepted}
use Rattle.sheet.specs.Accepted.Laws.{taken, accepted-most}
use Rattle.sheet.specs.Graph.{size_of, size_in, sized_of}
use Rattle.sheet.specs.First.{size_bit, size_bytes, size_given, constraints_bytes, first_bytes}
use Rattle.sheet.specs.First.Laws.{Straight}

-- ---- under PF01 no element is a circle

none-round : (x : Bool) → not x ≡ true → x ≡ false
none-round true e = absurd (subst T (sym e) tt)
none-round false e = refl

pub straight-allowed : (es : List Element) → kinds_allowed Pf01 es ≡ true → Straight es
unfolding kinds_allowed
straight-allowed [] e i = refl
straight-allowed (x ∷ xs) e zero = none-round (is_circle x.kind) (and-true (not (is_circle x.kind)) (kinds_allowed Pf01 xs) e).0
straight-allowed (x ∷ xs) e (suc i) = straight-allowed xs (and-true (not (is_circle x.kind)) (kinds_allowed Pf01 xs) e).1 i

-- so that the kinds are the set of lines, and there is no radius
record Plain (es : List Element) : Type 0 where
  kinds : kinds_number Pf01 es ≡ lines_of es
  radii : radii_bytes es ≡ []

plain : (es : List Element) → Straight es → Plain es
unfolding kinds_number set_of radii_bytes
plain [] h = record { kinds = refl; radii = refl }
plain (x ∷ xs) h = let p = plain xs (λ i. h (suc i)) in go x.kind (h 0) p
  where
    go : (k : Kind) → is_circle k ≡ false → Plain xs → Plain (record { kind = k } ∷ xs)
    go Point e p = record { kinds = rw p.kinds; radii = p.radii }
    go Line e p = record { kinds = rw p.kinds; radii = p.radii }
    go (Circle r) e p = absurd (subst T e tt)

-- ---- and no size a contact

plain_size : (j k : Kind) (z : Size) → is_circle j ≡ false → is_circle k ≡ false → size_fault j k z ≡ 0
    → (now.map_of z ≡ size_bit z) × (now.size_bytes z ≡ size_bytes z)
unfolding size_fault now.size_bytes
plain_size j k (Given z) cj ck e = (refl, refl)
plain_size j k Missing cj ck e = (refl, refl)
plain_size j k Tangent cj ck e = let q : ◌≡◌ {A = ℕ} 8 0 = rw (cj, ck) at e in absurd (omega arith)
plain_size j k OtherTangent cj ck e = let q : ◌≡◌ {A = ℕ} 8 0 = rw (cj, ck) at e in absurd (omega arith)
plain_size j k Unfit cj ck e = (refl, refl)

plain-constraints : (es : List Element) → Straight es → (cs done : List Constraint) → constraints_fault es done cs ≡ 0
    → now.constraints_bytes cs ≡ constraints_bytes cs
unfolding constraints_fault now.constraints_bytes constraint_bytes constraints_bytes
plain-constraints es h [] done e = refl
plain-constraints es h (c ∷ cs) done e =
    let n = none-else (constraint_fault es done c) _ e in
    let p = plain_size (kind_at es c.first) (kind_at es c.second) c.size (h c.first) (h c.second) (taken es done c n.0).size_fits in
    rw (p.0, p.1, plain-constraints es h cs (done ++ c ∷ []) n.1)

no-radius : (k : Kind) → is_circle k ≡ false → radius_of k ≡ 0
no-radius Point e = refl
no-radius Line e = refl
no-radius (Circle r) e = absurd (subst T e tt)

plain-given : (j k : Kind) (z : Size) → is_circle j ≡ false → is_circle k ≡ false → size_of j k z ≡ size_given z
plain-given j k (Given z) cj ck = refl
plain-given j k Missing cj ck = refl
plain-given j k Tangent cj ck = rw (no-radius j cj, no-radius k ck)
plain-given j k OtherTangent cj ck = rw (cj, no-radius j cj, no-radius k ck)
plain-given j k Unfit cj ck = refl

plain-sizes : (es : List Element) → Straight es → (cs : List Constraint) → map (size_in es) cs ≡ map (λ c. size_given c.size) cs
plain-sizes es h [] = refl
plain-sizes es h (c ∷ cs) =
    ap₂ ◌∷◌ (plain-given (kind_at es c.first) (kind_at es c.second) c.size (h c.first) (h c.second)) (plain-sizes es h cs)

module _ (f : Facts) (accepted : Accepted f) (pf01 : f.opening ≡ Pf01) where
  straight-facts : Straight f.elements
  straight-facts = straight-allowed f.elements (elements-taken Pf01 f.elements (rw pf01 at accepted.elements_allowed)).0

  pub pf01-writes : sheet_bytes f ≡ first_bytes f
  unfolding sheet_bytes first_bytes
  pf01-writes =
      let p = plain f.elements straight-facts in
      rw (pf01, p.kinds, p.radii, plain-constraints f.elements straight-facts f.constraints [] accepted.no_fault)

  pub pf01-written-most : length (sheet_bytes f) ≤ 1414
  unfolding sheet_bytes
  pf01-written-most =
      let kinds : kind_bytes f.opening (length f.elements) ≤ 8 = rw pf01 (omega (arith, accepted-most f accepted)) in
      let radii : length (radii_bytes f.elements) ≡ 0 = rw (plain f.elements straight-facts).radii in
      simp (length-append, length_digits, opening-length f.opening)
      (omega (arith, constraints-most (length f.constraints) accepted.constraints_fit, constraints-length f.constraints))

  -- the sizes are those given, 0 for a missing one
  pub pf01-sizes : (sized_of f).sizes ≡ map (λ c. size_given c.size) f.constraints
  pf01-sizes = plain-sizes f.elements straight-facts f.constraints
