-- The sketch of centres (document 02, 2026-01: "A round light must get the verdict and plan of the sketch of its centres"): circles are their centre
-- points, and a contact is the distance that it means. `Centres/Laws` shows that its graph is the sheet's own. Assumes nothing.
use Rattle.std.specs.Prelude.{◌+◌, ◌-◌, ◌≤◌, ◌<◌, ◌≡◌, ◌⊎◌}
use Rattle.theory.specs.Prelude.{ℕ, Bool, true, false, cond, List, map, leb, ℤ, pos, neg_ℤ, nat_abs}
use Rattle.sheet.specs.declared.Opening.TheVariants.{Pf01}
use Rattle.sheet.specs.declared.Kind.{Kind}
use Rattle.sheet.specs.declared.Kind.TheVariants.{Point, Line, Circle}
use Rattle.sheet.specs.declared.Element.{Element}
use Rattle.sheet.specs.declared.Size.{Size}
use Rattle.sheet.specs.declared.Size.TheVariants.{Given, Missing, Tangent, OtherTangent, Unfit}
use Rattle.sheet.specs.declared.Constraint.{Constraint}
use Rattle.sheet.specs.Facts.{Facts, kind_at}
use Rattle.sheet.specs.Graph.{size_in}
pub mod Laws
pub mod Contact
pub mod Sheet
pub mod Same

-- "a circle counts as its centre point"
abbrev pub centre : Kind → Kind
centre Point = Point
centre Line = Line
centre (Circle r) = Point

-- "centre to line is +r, point to circle is r, two circles are the sum of radii"; rule 8 refuses it without a circle
abbrev pub tangent : Kind → Kind → ℤ
tangent (Circle r) Line = pos r
tangent Line (Circle r) = pos r
tangent Point (Circle r) = pos r
tangent (Circle r) Point = pos r
tangent (Circle q) (Circle r) = pos (q + r)
tangent Point Point = pos 0
tangent Point Line = pos 0
tangent Line Point = pos 0
tangent Line Line = pos 0

abbrev pub difference : ℕ → ℕ → ℕ
difference q r = cond (leb q r) (r - q) (q - r)

-- "the other contact: -r, or the larger radius less the smaller"; rule 8 refuses it without a circle, and for point and circle
abbrev pub other : Kind → Kind → ℤ
other (Circle r) Line = neg_ℤ (pos r)
other Line (Circle r) = neg_ℤ (pos r)
other Point (Circle r) = neg_ℤ (pos r)
other (Circle r) Point = neg_ℤ (pos r)
other (Circle q) (Circle r) = pos (difference q r)
other Point Point = pos 0
other Point Line = pos 0
other Line Point = pos 0
other Line Line = pos 0

-- a contact becomes a size that is given
abbrev pub between : Kind → Kind → Size → Size
between j k (Given z) = Given z
between j k Missing = Missing
between j k Tangent = Given (tangent j k)
between j k OtherTangent = Given (other j k)
between j k Unfit = Unfit

abbrev pub centre_element : Element → Element
centre_element x = record { kind = centre x.kind }

abbrev pub centre_constraint : List Element → Constraint → Constraint
centre_constraint es c = record {
  first = c.first;
  second = c.second;
  size = between (kind_at es c.first) (kind_at es c.second) c.size;
}

abbrev pub centres : Facts → Facts
centres f = record {
  opening = Pf01;
  elements = map centre_element f.elements;
  constraints = map (centre_constraint f.elements) f.constraints;
}

-- ---- what a contact means, whichever end is first

abbrev pub Ends : List Element → Constraint → Kind → Kind → Type 0
Ends es c j k =
    ((kind_at es c.first ≡ j) × (kind_at es c.second ≡ k)) ⊎ ((kind_at es c.first ≡ k) × (kind_at es c.second ≡ j))

pub record Contacts (es : List Element) (c : Constraint) : Type 0 where
  pub tangent_line : (r : ℕ) → Ends es c (Circle r) Line → c.size ≡ Tangent → size_in es c ≡ pos r
  pub tangent_point : (r : ℕ) → Ends es c (Circle r) Point → c.size ≡ Tangent → size_in es c ≡ pos r
  pub tangent_circles : (q r : ℕ) → Ends es c (Circle q) (Circle r) → c.size ≡ Tangent → size_in es c ≡ pos (q + r)
  pub other_line : (r : ℕ) → Ends es c (Circle r) Line → c.size ≡ OtherTangent → size_in es c ≡ neg_ℤ (pos r)
  pub other_circles : (q r : ℕ) → Ends es c (Circle q) (Circle r) → r < q → c.size ≡ OtherTangent → size_in es c ≡ pos (q - r)

abbrev pub is_contact : Size → Bool
is_contact (Given z) = false
is_contact Missing = false
is_contact Tangent = true
is_contact OtherTangent = true
is_contact Unfit = false

-- a derived distance is never 0 and may reach 80,000
pub record Derived (d : ℤ) : Type 0 where
  pub some : 1 ≤ nat_abs d
  pub most : nat_abs d ≤ 80000
