-- The elements of a sheet as the code holds them: the lines and the circles as sets, the radii of the circles in a list.
use Rattle.std.specs.Prelude.{◌≡◌}
use Rattle.theory.specs.Prelude.{ℕ, true, cond, List, eqb, get_or}
use Rattle.theory.specs.Set.{at}
use Rattle.sheet.specs.declared.Kind.{Kind}
use Rattle.sheet.specs.declared.Kind.TheVariants.{Point, Line, Circle}
use Rattle.sheet.specs.declared.Kinds.{Kinds}
use Rattle.sheet.specs.declared.Element.{Element}
use Rattle.sheet.specs.Facts.{is_circle, radius_of, set_of, lines_of, kind_at}

abbrev pub circles_of : List Element → ℕ
circles_of xs = set_of is_circle xs

-- the kind of element i
abbrev pub kind_in : Kinds → List ℕ → ℕ → Kind
kind_in k radii i = cond (eqb (at i k.circles) 1) (Circle (get_or radii i 0)) (cond (eqb (at i k.lines) 1) Line Point)

pub record KindsIn (es : List Element) (k : Kinds) (radii : List ℕ) : Type 0 where
  pub lines_are : k.lines ≡ lines_of es
  pub circles_are : k.circles ≡ circles_of es
  pub radii_are : (i : ℕ) → is_circle (kind_at es i) ≡ true → get_or radii i 0 ≡ radius_of (kind_at es i)
