-- `sheet::kinds_of` meets its contract: the bits from the last element down, and the radii from i on; the numbers stay below 2 ^ 64.
-- Assumes nothing.
use Rattle.std.specs.Prelude.{◌≤◌, ◌≡◌}
use Rattle.theory.specs.Prelude.{ℕ, true, List, length, drop, get_or}
use Rattle.sheet.specs.declared.Element.{Element}
use Rattle.sheet.specs.Facts.{is_line, is_circle, radius_of, set_of, kind_at}
use Rattle.sheet.proofs.kinds_of.Given as goal

-- the elements from i on in numbers
pub record From (es : List Element) (i lines circles : ℕ) (radii : List ℕ) : Type 0 where
  pub lines_are : lines ≡ set_of is_line (drop i es)
  pub circles_are : circles ≡ set_of is_circle (drop i es)
  pub places : length radii ≡ 64
  pub radii_are : (k : ℕ) → i ≤ k → is_circle (kind_at es k) ≡ true → get_or radii k 0 ≡ radius_of (kind_at es k)

abbrev pub invariant-loop-i : goal.invariant-loop-i
invariant-loop-i l = From l.elements l.i l.lines l.circles l.radii
