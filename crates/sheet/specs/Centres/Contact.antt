-- What a contact means, and that the distance derived from it is 1 to 80,000 in magnitude on a sheet that no rule refuses. Assumes nothing.
use Rattle.std.specs.Prelude.{◌+◌, ◌-◌, ◌≤◌, ◌<◌, ◌≡◌, ◌&&◌, ◌||◌, ◌∷◌, ◌++◌}
use Rattle.theory.specs.Prelude.{ℕ, zero, suc, arith, dec_lt, leb-true, eqb-false, not-true, refl, sym, ap, subst, inl, inr}
use Rattle.theory.specs.Prelude.{Bool, true, false, cond, not, List, [], T, eqb, leb, ℤ, pos, neg_ℤ, nat_abs, length, get_or}
use Rattle.sheet.specs.declared.Kind.{Kind}
use Rattle.sheet.specs.declared.Kind.TheVariants.{Point, Line, Circle}
use Rattle.sheet.specs.declared.Element.{Element}
use Rattle.sheet.specs.declared.Size.{Size}
use Rattle.sheet.specs.declared.Size.TheVariants.{Given, Missing, Tangent, OtherTangent, Unfit}
use Rattle.sheet.specs.declared.Constraint.{Constraint}
use Rattle.sheet.specs.Facts.{Facts, is_circle, radius_of, kind_at, blank_constraint}
use Rattle.sheet.specs.Facts.Laws.{and-true}
use Rattle.sheet.specs.Rules.{radius_in_range, radii_in_range, size_allowed, radii_differ, size_fault, constraint_fault, constraints_fault}
use Rattle.sheet.specs.Rules.Laws.{unless-none, none-else, elements-taken}
use Rattle.sheet.specs.Accepted.{Accepted}
use Rattle.sheet.specs.Accepted.Laws.{taken}
use Rattle.sheet.specs.Graph.{size_of, size_in}
use Rattle.sheet.specs.Centres.{Ends, Contacts, is_contact, Derived}
use Rattle.sheet.specs.Centres.Laws.{tangent-is, other_is}

-- ---- what a contact means

module _ (es : List Element) (c : Constraint) where
  -- the size of a constraint whose ends are of these kinds, whichever is first
  either : (j k : Kind) (z : Size) (d : ℤ) → Ends es c j k → c.size ≡ z → size_of j k z ≡ d → size_of k j z ≡ d → size_in es c ≡ d
  either j k z d (inl h) s a b = rw (s, h.0, h.1) a
  either j k z d (inr h) s a b = rw (s, h.0, h.1) b

  pub contacts : Contacts es c
  contacts = record {
    tangent_line = λ r h s. either (Circle r) Line Tangent (pos r) h s (tangent-is (Circle r) Line) (tangent-is Line (Circle r));
    tangent_point = λ r h s. either (Circle r) Point Tangent (pos r) h s (tangent-is (Circle r) Point) (tangent-is Point (Circle r));
    tangent_circles = λ q r h s. either (Circle q) (Circle r) Tangent (pos (q + r)) h s refl (ap pos (omega arith));
    other_line = λ r h s. either (Circle r) Line OtherTangent (neg_ℤ (pos r)) h s (other_is (Circle r) Line) (other_is Line (Circle r));
    other_circles = λ q r h l s. either (Circle q) (Circle r) OtherTangent (pos (q - r)) h s (ap pos (omega arith)) (ap pos (omega arith));
  }

-- ---- radii that no rule refuses

pub record Ranged (k : Kind) : Type 0 where
  pub least : is_circle k ≡ true → 1 ≤ radius_of k
  pub most : radius_of k ≤ 40000

ranged : (k : Kind) → not (is_circle k) || radius_in_range (radius_of k) ≡ true → Ranged k
ranged Point e = record { least = λ q. absurd (subst T (sym q) tt); most = omega arith }
ranged Line e = record { least = λ q. absurd (subst T (sym q) tt); most = omega arith }
ranged (Circle r) e =
    let h = and-true (leb 1 r) (leb r 40000) e in record { least = λ q. leb-true 1 r h.0; most = leb-true r 40000 h.1 }

pub ranged-at : (es : List Element) → radii_in_range es ≡ true → (i : ℕ) → Ranged (kind_at es i)
unfolding radii_in_range
ranged-at [] e i = record { least = λ q. absurd (subst T (sym q) tt); most = omega arith }
ranged-at (x ∷ xs) e zero =
    ranged x.kind (and-true (not (is_circle x.kind) || radius_in_range (radius_of x.kind)) (radii_in_range xs) e).0
ranged-at (x ∷ xs) e (suc i) =
    ranged-at xs (and-true (not (is_circle x.kind) || radius_in_range (radius_of x.kind)) (radii_in_range xs) e).1 i

-- ---- a derived distance

minus-size : (n : ℕ) → nat_abs (neg_ℤ (pos n)) ≡ n
minus-size zero = refl
minus-size (suc n) = refl

one-circle : (j k : Kind) → Ranged j → Ranged k → is_circle j || is_circle k ≡ true → 1 ≤ radius_of j + radius_of k
one-circle j k h l e = go (is_circle j) refl
  where
    go : (b : Bool) → is_circle j ≡ b → 1 ≤ radius_of j + radius_of k
    go true q = omega (arith, h.least q)
    go false q = let r : is_circle k ≡ true = rw q at e in omega (arith, l.least r)

difference-some : (q r : ℕ) → (q ≡ r → ⊥) → 1 ≤ (q - r) + (r - q)
difference-some q r h = go (dec_lt 0 ((q - r) + (r - q)))
  where
    go : Dec (0 < (q - r) + (r - q)) → 1 ≤ (q - r) + (r - q)
    go (yes l) = l
    go (no n) = absurd (h (omega arith))

pub derived-by : (j k : Kind) (z : Size) → Ranged j → Ranged k → is_contact z ≡ true → size_fault j k z ≡ 0 → Derived (size_of j k z)
unfolding size_fault
derived-by j k (Given z) h l c e = absurd (subst T (sym c) tt)
derived-by j k Missing h l c e = absurd (subst T (sym c) tt)
derived-by j k Unfit h l c e = absurd (subst T (sym c) tt)
derived-by j k Tangent h l c e =
    let a = unless-none (size_allowed j k Tangent) 7 _ e in
    record { some = one-circle j k h l a.0; most = omega (arith, h.most, l.most) }
derived-by j k OtherTangent h l c e =
    let a = unless-none (size_allowed j k OtherTangent) 7 _ e in
    let b = unless-none (radii_differ j k OtherTangent) 19 _ a.1 in
    go (is_circle j && is_circle k) (and-true (is_circle j || is_circle k) _ a.0).0 b.0
  where
    go : (both : Bool) → is_circle j || is_circle k ≡ true → not (both && eqb (radius_of j) (radius_of k)) ≡ true
        → Derived (cond both (pos ((radius_of j - radius_of k) + (radius_of k - radius_of j))) (neg_ℤ (pos (radius_of j + radius_of k))))
    go true any differ =
        let apart : (radius_of j ≡ radius_of k) → ⊥ = eqb-false (radius_of j) (radius_of k) (not-true _ differ) in
        record { some = difference-some (radius_of j) (radius_of k) apart; most = omega (arith, h.most, l.most) }
    go false any differ =
        let m = minus-size (radius_of j + radius_of k) in
        record { some = rw m (one-circle j k h l any); most = rw m (omega (arith, h.most, l.most)) }

each : (es : List Element) (cs done : List Constraint) → constraints_fault es done cs ≡ 0 → (i : ℕ) → i < length cs
    → let c = get_or cs i blank_constraint in size_fault (kind_at es c.first) (kind_at es c.second) c.size ≡ 0
unfolding constraints_fault
each es [] done e i l = absurd (omega arith)
each es (c ∷ cs) done e zero l = (taken es done c (none-else (constraint_fault es done c) _ e).0).size_fits
each es (c ∷ cs) done e (suc i) l = each es cs (done ++ c ∷ []) (none-else (constraint_fault es done c) _ e).1 i (omega arith)

-- the contacts of a sheet that no rule refuses
pub derived : (f : Facts) → Accepted f → (i : ℕ) → i < length f.constraints
    → is_contact (get_or f.constraints i blank_constraint).size ≡ true → Derived (size_in f.elements (get_or f.constraints i blank_constraint))
derived f a i l c =
    let in-range = (elements-taken f.opening f.elements a.elements_allowed).1 in
    let d = get_or f.constraints i blank_constraint in
    derived-by _ _ d.size (ranged-at f.elements in-range d.first) (ranged-at f.elements in-range d.second) c
    (each f.elements f.constraints [] a.no_fault i l)
