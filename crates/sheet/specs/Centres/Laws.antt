-- The graph of the sketch of centres is the sheet's own, and so are the sizes, so that all that is found of the graph is the same. Assumes nothing.
use Rattle.std.specs.Prelude.{◌+◌, ◌-◌, ◌≤◌, ◌≡◌, ◌∷◌}
use Rattle.theory.specs.Prelude.{ℕ, arith, refl, sym, ap, ap₂, Bool, true, false, cond, List, [], map, leb-true, leb-false}
use Rattle.theory.specs.Prelude.{leb, pos, neg_ℤ, length-map}
use Rattle.sheet.specs.declared.Kind.{Kind}
use Rattle.sheet.specs.declared.Kind.TheVariants.{Point, Line, Circle}
use Rattle.sheet.specs.declared.Element.{Element}
use Rattle.sheet.specs.declared.Size.{Size}
use Rattle.sheet.specs.declared.Size.TheVariants.{Given, Missing, Tangent, OtherTangent, Unfit}
use Rattle.sheet.specs.declared.Constraint.{Constraint}
use Rattle.sheet.specs.Facts.{Facts, is_line, set_of, lines_of, kind_at}
use Rattle.sheet.specs.Graph.{cluster_of, size_of, size_in, graph_of, sized_of}
use Rattle.sheet.specs.Centres.{centre, tangent, difference, other, between, centre_element, centre_constraint, centres}

-- a contact is the size that the table says

pub tangent-is : (j k : Kind) → size_of j k Tangent ≡ tangent j k
tangent-is (Circle r) Line = ap pos (omega arith)
tangent-is Line (Circle r) = ap pos (omega arith)
tangent-is Point (Circle r) = ap pos (omega arith)
tangent-is (Circle r) Point = ap pos (omega arith)
tangent-is (Circle q) (Circle r) = refl
tangent-is Point Point = refl
tangent-is Point Line = refl
tangent-is Line Point = refl
tangent-is Line Line = refl

difference-is : (q r : ℕ) → (q - r) + (r - q) ≡ difference q r
difference-is q r = go (leb q r) refl
  where
    go : (b : Bool) → leb q r ≡ b → (q - r) + (r - q) ≡ cond b (r - q) (q - r)
    go true e = let h : q ≤ r = leb-true q r e in omega arith
    go false e = omega (arith, leb-false q r e)

minus : (q r : ℕ) → q ≡ r → neg_ℤ (pos q) ≡ neg_ℤ (pos r)
minus q r e = rw e

pub other_is : (j k : Kind) → size_of j k OtherTangent ≡ other j k
other_is (Circle r) Line = minus (r + 0) r (omega arith)
other_is Line (Circle r) = minus (0 + r) r (omega arith)
other_is Point (Circle r) = minus (0 + r) r (omega arith)
other_is (Circle r) Point = minus (r + 0) r (omega arith)
other_is (Circle q) (Circle r) = ap pos (difference-is q r)
other_is Point Point = refl
other_is Point Line = refl
other_is Line Point = refl
other_is Line Line = refl

-- between centres the size is as before
between-size : (i l j k : Kind) (z : Size) → size_of i l (between j k z) ≡ size_of j k z
between-size i l j k (Given z) = refl
between-size i l j k Missing = refl
between-size i l j k Tangent = sym (tangent-is j k)
between-size i l j k OtherTangent = sym (other_is j k)
between-size i l j k Unfit = refl

-- no circle is a line
pub centre-line : (k : Kind) → is_line (centre k) ≡ is_line k
centre-line Point = refl
centre-line Line = refl
centre-line (Circle r) = refl

centre-lines : (es : List Element) → lines_of (map centre_element es) ≡ lines_of es
unfolding set_of
centre-lines [] = refl
centre-lines (x ∷ xs) = rw (centre-line x.kind, centre-lines xs)

centre-clusters : (es : List Element) (cs : List Constraint) → map cluster_of (map (centre_constraint es) cs) ≡ map cluster_of cs
centre-clusters es [] = refl
centre-clusters es (c ∷ cs) = ap (λ (l : List ℕ). cluster_of c ∷ l) (centre-clusters es cs)

centre-sizes : (es : List Element) (cs : List Constraint) → map (size_in (map centre_element es)) (map (centre_constraint es) cs) ≡ map (size_in es) cs
centre-sizes es [] = refl
centre-sizes es (c ∷ cs) =
    let kind = kind_at (map centre_element es) in
    ap₂ ◌∷◌ (between-size (kind c.first) (kind c.second) (kind_at es c.first) (kind_at es c.second) c.size) (centre-sizes es cs)

pub graph-centres : (f : Facts) → graph_of (centres f) ≡ graph_of f
graph-centres f =
    let es = f.elements in rw (length-map es centre_element, centre-lines es, centre-clusters es f.constraints)

pub sized-centres : (f : Facts) → sized_of (centres f) ≡ sized_of f
sized-centres f = λ z. record { graph = graph-centres f z; sizes = centre-sizes f.elements f.constraints z }
