-- Laws of the rules on elements: which openings allow which circles, and the radii of all. Assumes nothing.
use Rattle.std.specs.List.{list_all}
use Rattle.std.specs.Prelude.{◌+◌, ◌*◌, ◌≡◌, ◌&&◌, ◌||◌, ◌∷◌}
use Rattle.theory.specs.Prelude.{ℕ, zero, suc, arith, refl, sym, ◌∙◌, Bool, true, false, not, List, []}
use Rattle.theory.specs.Prelude.{ne_eqb, eqb}
use Rattle.sheet.specs.declared.Opening.TheVariants.{Pf01, Pf02}
use Rattle.sheet.specs.declared.Element.{Element}
use Rattle.sheet.specs.Facts.{is_circle, radius_of, bit_of, set_of}
use Rattle.sheet.specs.Facts.Kinds.{circles_of}
use Rattle.sheet.specs.Rules.{kinds_allowed, radius_in_range, radii_in_range}

-- PF01 allows elements of which none is a circle
pub straight-allowed : (es : List Element) → eqb (circles_of es) 0 ≡ kinds_allowed Pf01 es
unfolding set_of kinds_allowed
straight-allowed [] = refl
straight-allowed (x ∷ xs) = by (is_circle x.kind) (set_of is_circle xs) (straight-allowed xs)
  where
    by : (b : Bool) (m : ℕ) → eqb m 0 ≡ kinds_allowed Pf01 xs → eqb (bit_of b + 2 * m) 0 ≡ not b && kinds_allowed Pf01 xs
    by true m h = ne_eqb (1 + 2 * m) 0 (λ e. omega arith)
    by false m h = double m ∙ h
      where
        double : (m : ℕ) → eqb (0 + 2 * m) 0 ≡ eqb m 0
        double zero = refl
        double (suc m) = ne_eqb (0 + 2 * suc m) 0 (λ e. omega arith) ∙ sym (ne_eqb (suc m) 0 (λ e. omega arith))

-- PF02 allows all
pub all-allowed : (es : List Element) → kinds_allowed Pf02 es ≡ true
unfolding kinds_allowed
all-allowed [] = refl
all-allowed (x ∷ xs) = all-allowed xs

-- the circles' radii, one after another
pub all-radii : (es : List Element) → list_all (λ x. not (is_circle x.kind) || radius_in_range (radius_of x.kind)) es ≡ radii_in_range es
unfolding radii_in_range
all-radii [] = refl
all-radii (x ∷ xs) = rw (all-radii xs)
