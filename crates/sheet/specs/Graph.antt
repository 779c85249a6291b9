-- The constraint graph of a sheet's facts: what theory is about. Document 01, "Clusters and merges": constraint i, counted from 0, begins as cluster
-- i, the set of its two ends.
use Rattle.std.specs.Prelude.{ℕ, ◌+◌, ◌-◌, ◌&&◌, cond, ◌≢◌, List, map, ℤ, pos, neg_ℤ, length}
use Rattle.theory.specs.Constraints.{pair, Perm}
use Rattle.theory.specs.Merge.{Merge, Maximal}
use Rattle.theory.specs.Graph.{Graph, SizedGraph, finding_of, verdict_of}
use Rattle.theory.specs.Demand.{Agree, Demand3}
use Rattle.theory.specs.Finding.{Finding}
use Rattle.theory.specs.Finding.{Fine, First}
use Rattle.theory.specs.declared.Verdict.TheVariants.{Over}
use Rattle.sheet.specs.declared.Size.{Size}
use Rattle.sheet.specs.declared.Size.TheVariants.{Given, Missing, Tangent, OtherTangent, Unfit}
use Rattle.sheet.specs.declared.Kind.{Kind}
use Rattle.sheet.specs.declared.Element.{Element}
use Rattle.sheet.specs.declared.Constraint.{Constraint}
use Rattle.sheet.specs.Facts.{Facts, is_circle, radius_of, kind_at, lines_of}
use Rattle.sheet.specs.Accepted.{Accepted}
pub mod Laws

abbrev pub cluster_of : Constraint → ℕ
cluster_of c = pair c.first c.second

-- the size of a constraint between elements of these kinds: a missing size means 0. A contact (document 02, 2026-01): centre to line is +r, point to
-- circle r, two circles the sum of radii; the other contact -r, or the larger radius less the smaller. (Rule 8 refuses it for point and circle.)
abbrev pub size_of : Kind → Kind → Size → ℤ
size_of j k (Given z) = z
size_of j k Missing = pos 0
size_of j k Tangent = pos (radius_of j + radius_of k)
size_of j k OtherTangent =
    cond (is_circle j && is_circle k) (pos ((radius_of j - radius_of k) + (radius_of k - radius_of j))) (neg_ℤ (pos (radius_of j + radius_of k)))
size_of j k Unfit = pos 0

abbrev pub size_in : List Element → Constraint → ℤ
size_in elements c = size_of (kind_at elements c.first) (kind_at elements c.second) c.size

abbrev pub graph_of : Facts → Graph
graph_of f =
    record { n = length f.elements; lines = lines_of f.elements; clusters = map cluster_of f.constraints }

-- with the sizes
abbrev pub sized_of : Facts → SizedGraph
sized_of f = record { graph = graph_of f; sizes = map (size_in f.elements) f.constraints }

-- ---- rule 11 (document 01, "Refused"): the graph is over. Its number, 0 where it does not refuse

abbrev pub over_rule : Finding → ℕ
over_rule Fine = 0
over_rule (First c x) = 11

unfoldable pub over_fault : Graph → ℕ
over_fault g = over_rule (finding_of g)

-- ---- demand 3 of a sheet (document 01, "Every order of merging")

-- the sheet that lists its constraints in this order: what precedes them, and each constraint's own fields, stay
abbrev pub reordered : Facts → List Constraint → Facts
reordered f ds = record { opening = f.opening; elements = f.elements; constraints = ds }

pub record SheetDemand3 (f : Facts) : Type 0 where
  -- in every order it is accepted, and its verdict isn't over
  pub orders : (ds : List Constraint) → Perm f.constraints ds → Accepted (reordered f ds) × (verdict_of (graph_of (reordered f ds)) ≢ Over)
  -- every two maximal lists of merges, one from each order, have the same final clusters, joints, verdict and number of steps
  pub every : (ds : List Constraint) → Perm f.constraints ds → (p q : List Merge) → Maximal (graph_of f).clusters p
      → Maximal (graph_of (reordered f ds)).clusters q → Agree (graph_of f) (graph_of (reordered f ds)) p q
  -- and all that theory's statement says of the sheet's own order: either way round, the counts, the engine's plan
  pub whole : Demand3 (graph_of f)
