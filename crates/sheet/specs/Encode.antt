-- The bytes of a sheet's facts (document 01, "The sheet in bytes"; document 02, 2026-11: bit 1 is clear, and no tag stands; 2026-01: radii, contacts).
use Rattle.std.specs.Prelude.{ℕ, List, [], ◌∷◌, ◌++◌, length}
use Rattle.sheet.specs.declared.Kind.{Kind}
use Rattle.sheet.specs.declared.Kind.TheVariants.{Point, Line, Circle}
use Rattle.sheet.specs.declared.Element.{Element}
use Rattle.sheet.specs.declared.Size.{Size}
use Rattle.sheet.specs.declared.Size.TheVariants.{Given, Missing, Tangent, OtherTangent, Unfit}
use Rattle.sheet.specs.declared.Constraint.{Constraint}
use Rattle.sheet.specs.Facts.{Facts, kinds_number}
use Rattle.sheet.specs.Field.{digits, unsigned32, kind_bytes, opening_bytes}
pub mod Laws

-- the radius of a circle, in four bytes
abbrev pub radius_bytes : Kind → List ℕ
radius_bytes Point = []
radius_bytes Line = []
radius_bytes (Circle r) = digits 4 r

unfoldable pub radii_bytes : List Element → List ℕ
radii_bytes [] = []
radii_bytes (x ∷ xs) = radius_bytes x.kind ++ radii_bytes xs

-- the bit map; no map says what is unfit, which rule 8 refuses
abbrev pub map_of : Size → ℕ
map_of (Given z) = 1
map_of Missing = 0
map_of Tangent = 4
map_of OtherTangent = 12
map_of Unfit = 0

unfoldable pub size_bytes : Size → List ℕ
size_bytes (Given z) = digits 4 (unsigned32 z)
size_bytes Missing = []
size_bytes Tangent = []
size_bytes OtherTangent = []
size_bytes Unfit = []

-- first end, second end, bit map, then the size where its bit stands
unfoldable pub constraint_bytes : Constraint → List ℕ
constraint_bytes c = c.first ∷ c.second ∷ map_of c.size ∷ size_bytes c.size

unfoldable pub constraints_bytes : List Constraint → List ℕ
constraints_bytes [] = []
constraints_bytes (c ∷ cs) = constraint_bytes c ++ constraints_bytes cs

unfoldable pub sheet_bytes : Facts → List ℕ
sheet_bytes f =
    opening_bytes f.opening ++ (length f.elements
    ∷ digits (kind_bytes f.opening (length f.elements)) (kinds_number f.opening f.elements)
    ++ (radii_bytes f.elements ++ (length f.constraints ∷ constraints_bytes f.constraints)))
