-- A sheet with more dimensions that isn't over: the parts of the old sheet stay whole. Assumes nothing.
use Rattle.std.specs.Prelude.{◌≢◌}
use Rattle.theory.specs.Prelude.{sym, ◌∙◌, List}
use Rattle.theory.specs.Merge.{Merge, Valid, Maximal}
use Rattle.theory.specs.Graph.{verdict_of}
use Rattle.theory.specs.Demand as demand
use Rattle.theory.specs.declared.Verdict.TheVariants.{Over}
use Rattle.theory.specs.Growth.{GraphGrown}
use Rattle.theory.specs.Growth.Laws.{more-map, numbered-map, numbered-slot}
use Rattle.theory.specs.Growth.Proof.{grown-accepted, whole}
use Rattle.sheet.specs.Facts.{Facts}
use Rattle.sheet.specs.Accepted.{Accepted}
use Rattle.sheet.specs.Accepted.Laws.{accepted-two}
use Rattle.sheet.specs.Graph.{cluster_of, graph_of}
use Rattle.sheet.specs.Graph.Laws.{length-clusters, clusters-pairs, clusters-below}
use Rattle.sheet.specs.Growth.{Grown, SheetWhole, NeverSmaller}

graph-grown : {f g : Facts} → Grown f g → GraphGrown (graph_of f) (graph_of g)
graph-grown w = record { count = cc; kinds = cc; more = more-map cluster_of w.more }

module _ {f g : Facts} (a : Accepted g) (v : verdict_of (graph_of g) ≢ Over) (w : Grown f g) where
  accepted : demand.Accepted (graph_of g)
  accepted = record { two = accepted-two g a; pairs = clusters-pairs g a.no_fault; below = clusters-below g a.no_fault; not_over = v }

  -- after any merges of the old sheet, and at the end of every maximal list of the new
  pub sheet-whole : (p q : List Merge) → Valid (graph_of f).clusters p → Maximal (graph_of g).clusters q → SheetWhole f g p q
  sheet-whole p q valid m =
      whole accepted (graph-grown w) p q valid m w.more (sym (length-clusters f)) (sym (length-clusters g))
      (λ i j c x y. numbered-slot (graph_of g).clusters j (cluster_of c) (numbered-map cluster_of g.constraints j c y)
      ∙ sym (numbered-slot (graph_of f).clusters i (cluster_of c) (numbered-map cluster_of f.constraints i c x)))

  pub never-smaller : NeverSmaller f g
  never-smaller = record { not_over = (grown-accepted accepted (graph-grown w)).not_over; whole = λ p q m n. sheet-whole p q m.valid n }
