-- The sketch of centres is a PF01 sheet itself where no derived distance is above 40,000: no rule refuses its facts. Assumes nothing.
use Rattle.std.specs.Prelude.{◌≤◌, ◌<◌, ◌≡◌, ◌∷◌, ◌++◌}
use Rattle.theory.specs.Prelude.{ℕ, zero, suc, arith, le-leb, refl, sym, ap, ap₂, ◌∙◌, subst, true, List, [], map, T, ℤ}
use Rattle.theory.specs.Prelude.{pos, neg_ℤ, nat_abs, length, get_or, length-map, List·getD-map}
use Rattle.sheet.specs.declared.Opening.TheVariants.{Pf01}
use Rattle.sheet.specs.declared.Kind.{Kind}
use Rattle.sheet.specs.declared.Kind.TheVariants.{Point, Line, Circle}
use Rattle.sheet.specs.declared.PairKind.TheVariants.{Points, PointLine}
use Rattle.sheet.specs.declared.Element.{Element}
use Rattle.sheet.specs.declared.Size.{Size}
use Rattle.sheet.specs.declared.Size.TheVariants.{Given, Missing, Tangent, OtherTangent, Unfit}
use Rattle.sheet.specs.declared.Constraint.{Constraint}
use Rattle.sheet.specs.Facts.{Facts, kind_at, blank_element, blank_constraint}
use Rattle.sheet.specs.Rules.{kinds_allowed, radii_in_range, elements_fault, stands, pair_by, pair_of, size_allowed, size_in_range, size_fault, constraint_fault}
use Rattle.sheet.specs.Rules.{constraints_fault}
use Rattle.sheet.specs.Rules.Laws.{unless-none, none-else, elements-taken}
use Rattle.sheet.specs.Accepted.{Accepted}
use Rattle.sheet.specs.Accepted.Laws.{Taken, taken, not-refused}
use Rattle.sheet.specs.Graph.{size_of, size_in}
use Rattle.sheet.specs.Centres.{centre, tangent, other, between, centre_element, centre_constraint, centres, is_contact}
use Rattle.sheet.specs.Centres.Laws.{tangent-is, other_is, centre-line}
use Rattle.sheet.specs.Centres.Contact.{Ranged, ranged-at, derived-by}

-- ---- ranges

points-range : (n : ℕ) → 1 ≤ n → n ≤ 40000 → size_in_range Points (pos n) ≡ true
points-range n h l = rw (le-leb 1 n h, le-leb n 40000 l)

line-range : (n : ℕ) → 1 ≤ n → n ≤ 40000 → size_in_range PointLine (pos n) ≡ true
line-range n h l = rw (le-leb 1 n h, le-leb n 40000 l)

minus-range : (n : ℕ) → 1 ≤ nat_abs (neg_ℤ (pos n)) → nat_abs (neg_ℤ (pos n)) ≤ 40000 → size_in_range PointLine (neg_ℤ (pos n)) ≡ true
minus-range zero h l = absurd (omega arith)
minus-range (suc n) h l = rw (le-leb n 39999 (omega arith), le-leb 0 n (omega arith))

-- a contact that rule 8 takes is a size that rule 9 takes, up to 40,000
tangent-range : (j k : Kind) → size_allowed j k Tangent ≡ true → 1 ≤ nat_abs (tangent j k) → nat_abs (tangent j k) ≤ 40000
    → size_in_range (pair_of j k) (tangent j k) ≡ true
tangent-range (Circle r) Line a h l = line-range r h l
tangent-range Line (Circle r) a h l = line-range r h l
tangent-range Point (Circle r) a h l = points-range r h l
tangent-range (Circle r) Point a h l = points-range r h l
tangent-range (Circle q) (Circle r) a h l = points-range _ h l
tangent-range Point Point a h l = absurd (subst T (sym a) tt)
tangent-range Point Line a h l = absurd (subst T (sym a) tt)
tangent-range Line Point a h l = absurd (subst T (sym a) tt)
tangent-range Line Line a h l = absurd (subst T (sym a) tt)

other-range : (j k : Kind) → size_allowed j k OtherTangent ≡ true → 1 ≤ nat_abs (other j k) → nat_abs (other j k) ≤ 40000
    → size_in_range (pair_of j k) (other j k) ≡ true
other-range (Circle r) Line a h l = minus-range r h l
other-range Line (Circle r) a h l = minus-range r h l
other-range (Circle q) (Circle r) a h l = points-range _ h l
other-range Point (Circle r) a h l = absurd (subst T (sym a) tt)
other-range (Circle r) Point a h l = absurd (subst T (sym a) tt)
other-range Point Point a h l = absurd (subst T (sym a) tt)
other-range Point Line a h l = absurd (subst T (sym a) tt)
other-range Line Point a h l = absurd (subst T (sym a) tt)
other-range Line Line a h l = absurd (subst T (sym a) tt)

-- ---- the pair counts as before

pair-centre : (j k : Kind) → pair_of (centre j) (centre k) ≡ pair_of j k
pair-centre j k = ap₂ pair_by (centre-line j) (centre-line k)

module _ (j k : Kind) (hj : Ranged j) (hk : Ranged k) where
  size-centre : (z : Size) → (is_contact z ≡ true → nat_abs (size_of j k z) ≤ 40000) → size_fault j k z ≡ 0
      → size_fault (centre j) (centre k) (between j k z) ≡ 0
  unfolding size_fault
  size-centre (Given z) small e = rw (pair-centre j k) e
  size-centre Missing small e = rw (pair-centre j k) e
  size-centre Unfit small e = e
  size-centre Tangent small e =
      let a = (unless-none (size_allowed j k Tangent) 7 _ e).0 in
      let d = derived-by j k Tangent hj hk refl e in
      rw (
        pair-centre j k,
        tangent-range j k a (subst (λ (x : ℤ). 1 ≤ nat_abs x) (tangent-is j k) d.some)
            (subst (λ (x : ℤ). nat_abs x ≤ 40000) (tangent-is j k) (small refl)),
      )
  size-centre OtherTangent small e =
      let a = (unless-none (size_allowed j k OtherTangent) 7 _ e).0 in
      let d = derived-by j k OtherTangent hj hk refl e in
      rw (
        pair-centre j k,
        other-range j k a (subst (λ (x : ℤ). 1 ≤ nat_abs x) (other_is j k) d.some)
            (subst (λ (x : ℤ). nat_abs x ≤ 40000) (other_is j k) (small refl)),
      )

-- ---- the elements

kinds-centre : (es : List Element) → kinds_allowed Pf01 (map centre_element es) ≡ true
unfolding kinds_allowed
kinds-centre [] = refl
kinds-centre (x ∷ xs) = rw (kinds-centre xs) (go x.kind)
  where
    go : (k : Kind) → kinds_allowed Pf01 (record { kind = centre k } ∷ []) ≡ true
    go Point = refl
    go Line = refl
    go (Circle r) = refl

radii-centre : (es : List Element) → radii_in_range (map centre_element es) ≡ true
unfolding radii_in_range
radii-centre [] = refl
radii-centre (x ∷ xs) = rw (radii-centre xs) (go x.kind)
  where
    go : (k : Kind) → radii_in_range (record { kind = centre k } ∷ []) ≡ true
    go Point = refl
    go Line = refl
    go (Circle r) = refl

kind-centre : (es : List Element) (i : ℕ) → kind_at (map centre_element es) i ≡ centre (kind_at es i)
kind-centre es i = ap (λ (x : Element). x.kind) (List·getD-map centre_element es i blank_element)

-- ---- the constraints

module _ (es : List Element) (in-range : radii_in_range es ≡ true) where
  stands-centre : (ds : List Constraint) (a b : ℕ) → stands (map (centre_constraint es) ds) a b ≡ stands ds a b
  unfolding stands
  stands-centre [] a b = refl
  stands-centre (d ∷ ds) a b = rw (stands-centre ds a b)

  map_more : (ds : List Constraint) (c : Constraint)
      → map (centre_constraint es) ds ++ centre_constraint es c ∷ [] ≡ map (centre_constraint es) (ds ++ c ∷ [])
  map_more [] c = refl
  map_more (d ∷ ds) c = ap (λ (l : List Constraint). centre_constraint es d ∷ l) (map_more ds c)

  abbrev Small : Constraint → Type 0
  Small c = is_contact c.size ≡ true → nat_abs (size_in es c) ≤ 40000

  taken-centre : (done : List Constraint) (c : Constraint) → Small c → Taken es done c
      → Taken (map centre_element es) (map (centre_constraint es) done) (centre_constraint es c)
  taken-centre done c small t = record {
    ends-ascend = rw (length-map es centre_element) t.ends-ascend;
    is_new = stands-centre done c.first c.second ∙ t.is_new;
    size_fits =
        rw (kind-centre es c.first, kind-centre es c.second)
        (size-centre (kind_at es c.first) (kind_at es c.second) (ranged-at es in-range c.first) (ranged-at es in-range c.second)
        c.size small t.size_fits);
  }

  faults-centre : (cs done : List Constraint) → ((i : ℕ) → i < length cs → Small (get_or cs i blank_constraint)) → constraints_fault es done cs ≡ 0
      → constraints_fault (map centre_element es) (map (centre_constraint es) done) (map (centre_constraint es) cs) ≡ 0
  unfolding constraints_fault
  faults-centre [] done small e = refl
  faults-centre (c ∷ cs) done small e =
      let n = none-else (constraint_fault es done c) _ e in
      let one = not-refused (map centre_element es) _ (centre_constraint es c) (taken-centre done c (small 0 (omega arith)) (taken es done c n.0)) in
      rw (one, map_more done c) (faults-centre cs (done ++ c ∷ []) (λ i l. small (suc i) (omega arith)) n.1)

-- no rule refuses the sketch of centres of an accepted sheet, if no derived distance is above 40,000
pub centres-accepted : (f : Facts) → Accepted f
    → ((i : ℕ) → i < length f.constraints → is_contact (get_or f.constraints i blank_constraint).size ≡ true
    → nat_abs (size_in f.elements (get_or f.constraints i blank_constraint)) ≤ 40000)
    → Accepted (centres f)
unfolding elements_fault
centres-accepted f a small = record {
  elements_fit = rw (length-map f.elements centre_element) a.elements_fit;
  elements_allowed = rw (kinds-centre f.elements, radii-centre f.elements);
  constraints_fit = rw (length-map f.constraints (centre_constraint f.elements)) a.constraints_fit;
  no_fault = faults-centre f.elements (elements-taken f.opening f.elements a.elements_allowed).1 f.constraints [] small a.no_fault;
}
