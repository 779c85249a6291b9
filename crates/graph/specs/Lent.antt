-- The constraint graph of a sheet's facts in lent arrays of numbers: its adjacency, the initial clusters and the sizes,
-- 0 beyond them. As they are read, a missing size is 0 and a contact a number that no size is (document 01, rule 9);
-- sizes are measured from them and the radii.
use Rattle.std.specs.Prelude.{◌<◌, ◌≤◌, ◌≡◌, ◌≢◌}
use Rattle.theory.specs.Prelude.{ℕ, List, map, ℤ, pos, negsuc, length, take}
use Rattle.sheet.specs.declared.Constraint.{Constraint}
use Rattle.sheet.specs.declared.Size.{Size}
use Rattle.sheet.specs.declared.Size.TheVariants.{Given, Missing, Tangent, OtherTangent, Unfit}
use Rattle.theory.specs.Block.{block}
use Rattle.theory.specs.Constraints.{Below}
use Rattle.theory.specs.Graph.{Graph, SizedGraph}
use Rattle.theory.specs.Near.{Simple, Near}
use Rattle.sheet.specs.Facts.{Facts, lines_of}
use Rattle.sheet.specs.Facts.Kinds.{KindsIn}
use Rattle.sheet.specs.Graph.{cluster_of, sized_of}
use Rattle.sheet.specs.Accepted.{Accepted}
use Rattle.sheet.specs.Noted.{Noted}
use Rattle.graph.specs.declared.Head.{Head}
use Rattle.graph.specs.declared.Front.{Front}
pub mod Laws
pub mod Sheets
pub mod Plain

-- the graph that a head and the arrays hold
abbrev pub graph_in : Head → List ℕ → Graph
graph_in h start = record { n = h.n; lines = h.lines; clusters = take h.e start }

-- with the sizes
abbrev pub sized_in : Head → List ℕ → List ℤ → SizedGraph
sized_in h start sizes = record { graph = graph_in h start; sizes = take h.e sizes }

abbrev pub head_of : Facts → Head
head_of f = record { n = length f.elements; e = length f.constraints; lines = lines_of f.elements }

abbrev pub head_in : Front → Head
head_in h = record { n = h.n; e = h.e; lines = h.kinds.lines }

-- ---- a size as one number

abbrev pub code_of : Size → ℤ
code_of (Given z) = z
code_of Missing = pos 0
code_of Tangent = pos 100000
code_of OtherTangent = negsuc 99999
code_of Unfit = pos 0

-- it comes out again
pub record Fits (s : Size) : Type 0 where
  pub not_zero : s ≢ Given (pos 0)
  pub not_tangent : s ≢ Given (pos 100000)
  pub not_other : s ≢ Given (negsuc 99999)
  pub fit : s ≢ Unfit

-- ---- the arrays hold the constraints

pub record InArrays (cs : List Constraint) (near start : List ℕ) (codes : List ℤ) : Type 0 where
  pub noted : Noted near cs
  pub start_is : start ≡ block 200 0 (map cluster_of cs)
  pub codes_are : codes ≡ block 200 (pos 0) (map (λ c. code_of c.size) cs)

-- two of them hold the ends, the third the numbers of the sizes
pub record EndsIn (cs : List Constraint) (near start : List ℕ) : Type 0 where
  pub ends_noted : Noted near cs
  pub ends_start : start ≡ block 200 0 (map cluster_of cs)

pub record CodesIn (cs : List Constraint) (codes : List ℤ) : Type 0 where
  pub codes_stand : codes ≡ block 200 (pos 0) (map (λ c. code_of c.size) cs)

-- all that precedes the constraints, and the arrays, hold a sheet's facts, which no rule refuses
pub record SheetIn (f : Facts) (h : Front) (near start : List ℕ) (codes : List ℤ) (radii : List ℕ) : Type 0 where
  pub accepted : Accepted f
  pub opening_is : h.opening ≡ f.opening
  pub head_is : head_in h ≡ head_of f
  pub kinds_in : KindsIn f.elements h.kinds radii
  pub arrays : InArrays f.constraints near start codes

-- ---- head and arrays hold the graph of a sheet's facts

pub record Stands (f : Facts) (h : Head) (near start : List ℕ) : Type 0 where
  pub accepted : Accepted f
  pub head_is : h ≡ head_of f
  pub noted : Noted near f.constraints
  pub start_is : start ≡ block 200 0 (map cluster_of f.constraints)

-- the sizes of a sheet's constraints, 0 beyond them
abbrev pub sizes_of : Facts → List ℤ
sizes_of f = block 200 (pos 0) (sized_of f).sizes

-- ---- what judging asks of a graph and of the arrays that hold it: that no rule of 3 and 5 to 7 refuses it

pub record Sound (n : ℕ) (clusters : List ℕ) : Type 0 where
  pub two : 2 ≤ n
  pub most : n ≤ 64
  pub simple : Simple clusters
  pub below : Below n clusters

pub record Drawn (h : Head) (near start : List ℕ) : Type 0 where
  pub sound : Sound h.n (take h.e start)
  pub few : h.e ≤ 200
  pub places : length start ≡ 200
  pub near_is : Near (take h.e start) near

-- ---- one constraint

-- a constraint between a and b whose size is the number z
pub record Packed (c : Constraint) (a b : ℕ) (z : ℤ) : Type 0 where
  pub first_is : c.first ≡ a
  pub second_is : c.second ≡ b
  pub code_is : code_of c.size ≡ z

-- it comes out again: its ends ascend, below 64, and so does its size
pub record Unpacks (c : Constraint) : Type 0 where
  pub ascend : c.first < c.second
  pub below : c.second < 64
  pub fits : Fits c.size
