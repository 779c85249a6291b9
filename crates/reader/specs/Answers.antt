-- What each answer of the reader says, over the bytes s that it reads: the value with the bytes from the next cursor on, or the refusal
-- (document 01, "Where each form goes": each field read answers a value with the next cursor or a refusal number).
use Rattle.std.specs.Prelude.{Result, Ok, Err, ℕ, ◌/◌, ◌%◌, ◌≤◌, ◌≡◌, Bool, List, [], eqb, ℤ, pos, length, drop}
use Rattle.sheet.specs.declared.Opening.{Opening}
use Rattle.sheet.specs.declared.Opening.TheVariants.{Pf01}
use Rattle.sheet.specs.declared.Kind.{Kind}
use Rattle.sheet.specs.declared.Element.{Element}
use Rattle.sheet.specs.declared.Size.{Size}
use Rattle.sheet.specs.declared.Constraint.{Constraint}
use Rattle.sheet.specs.Facts.{Facts, kind_at, sheet_of}
use Rattle.sheet.specs.Facts.Kinds.{KindsIn}
use Rattle.sheet.specs.Field.{Field, value, refused, next, demand}
use Rattle.sheet.specs.Rules.{pair_of, size_by, map_allowed, radii_differ}
use Rattle.sheet.specs.Decode.{size, tag, dimension, constraints}
use Rattle.theory.specs.Rule.{rule_number}
use Rattle.theory.specs.declared.Rule.{Rule}
use Rattle.sheet.specs.declared.Sheet.{Sheet}
use Rattle.elements.specs.declared.fields.Cursor.{Cursor}
use Rattle.elements.specs.Fields.{Read}
use Rattle.graph.specs.declared.Front.{Front}
use Rattle.graph.specs.declared.Head.{Head}
use Rattle.graph.specs.Lent.{code_of, InArrays, SheetIn, Stands, sizes_of}

-- ---- one constraint

-- a constraint of these ends
abbrev pub between : ℕ → ℕ → Field Size → Field Constraint
between a b f = next f (λ z s. value (record { first = a; second = b; size = z }) s)

-- the two ends: the rest of the constraint follows them
abbrev pub as_ends : List Element → List ℕ → Read (ℕ × ℕ) → Field Constraint
as_ends es s (Ok ((a, b), c)) = between a b (dimension (kind_at es a) (kind_at es b) (drop c.at s))
as_ends es s (Err r) = refused (rule_number r)

-- what follows the map
unfoldable pub dimension_by : Kind → Kind → ℕ → List ℕ → Field Size
dimension_by j k map s =
    demand (map_allowed j k map) 8 (demand (radii_differ j k (size_by map (pos 0))) 20
    (next (size (pair_of j k) (size_by map (pos 0)) s) (λ z s1. next (tag (eqb (map / 2 % 2) 1) s1) (λ t s2. value z s2))))

-- the tag after a size, which is a number
abbrev pub tagged : ℤ → Bool → List ℕ → Field ℤ
tagged z bit s = next (tag bit s) (λ t s1. value z s1)

-- a size as a number
abbrev pub code_in : Field Size → Field ℤ
code_in f = next f (λ z s. value (code_of z) s)

-- ---- all before the constraints, and the constraints

-- the facts of this opening, these elements and of the constraints that are read
abbrev pub facts_with : Opening → List Element → Field (List Constraint) → Field Facts
facts_with o es f = next f (λ cs s. value (record { opening = o; elements = es; constraints = cs }) s)

-- what is read of a front: the constraints follow it, and the rules 3 to 5 take its counts
pub record Follows (x : Field Facts) (s radii : List ℕ) (h : Front) (c : Cursor) : Type 0 where
  pub elements : List Element
  pub rest : x ≡ facts_with h.opening elements (constraints elements h.e [] (drop c.at s))
  pub count : length elements ≡ h.n
  pub kinds_in : KindsIn elements h.kinds radii
  pub most : h.n ≤ 64
  pub few : h.e ≤ 200

abbrev pub Fronted : Field Facts → List ℕ → List ℕ → Read Front → Type 0
Fronted x s radii (Ok (h, c)) = Follows x s radii h c
Fronted x s radii (Err r) = x ≡ refused (rule_number r)

-- the constraints that are read stand in the arrays, or the rule that refuses them is answered
abbrev pub ListRead : Field (List Constraint) → Result (Unit {0}) Rule → List ℕ → List ℕ → List ℤ → Type 0
ListRead x (Ok u) near start codes =
    (cs : List Constraint) × (rest : List ℕ) × (x ≡ value cs rest) × InArrays cs near start codes
ListRead x (Err r) near start codes = x ≡ refused (rule_number r)

-- ---- a sheet in arrays: its facts, or the rule that refuses it

abbrev pub SheetRead : Field Facts → Result Front Rule → List ℕ → List ℕ → List ℤ → List ℕ → Type 0
SheetRead x (Ok h) near start codes radii =
    (f : Facts) × (rest : List ℕ) × (x ≡ value f rest) × SheetIn f h near start codes radii
SheetRead x (Err r) near start codes radii = x ≡ refused (rule_number r)

abbrev pub GraphIs : Field Facts → Result Head Rule → List ℕ → List ℕ → List ℤ → Type 0
GraphIs x (Ok h) near start sizes =
    (f : Facts) × (rest : List ℕ) × (x ≡ value f rest) × Stands f h near start × (sizes ≡ sizes_of f)
GraphIs x (Err r) near start sizes = x ≡ refused (rule_number r)

-- ---- a sheet by value

-- the facts of the blank sheet, which stands in the place of one that is refused
abbrev pub no_facts : Facts
no_facts = record { opening = Pf01; elements = []; constraints = [] }

abbrev pub as_reading : Field Facts → Result Sheet ℕ
as_reading (value f s) = Ok (sheet_of f)
as_reading (refused k) = Err k
