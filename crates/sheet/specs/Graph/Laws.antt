-- The graph of a sheet that no rule refuses, and rule 11. An accepted sheet whose verdict isn't over meets demand 3. Assumes nothing.
use Rattle.std.specs.Prelude.{◌^◌, ◌<◌, ◌≢◌, ◌≡◌, ◌∷◌, ◌++◌}
use Rattle.theory.specs.Prelude.{ℕ, arith, inl, inr, refl, sym, ap, ◌∙◌, subst, List, [], map, ones, length}
use Rattle.theory.specs.Prelude.{length-map}
use Rattle.theory.specs.Constraints.{Among, Pairs, Below, Perm}
use Rattle.theory.specs.Constraints.Laws.{perm-map, size-pair, pair-below}
use Rattle.theory.specs.Graph.{Graph, finding_of, verdict_of}
use Rattle.theory.specs.Demand as demand
use Rattle.theory.specs.Demand.Proof.{demand3}
use Rattle.theory.specs.Finding.{Finding}
use Rattle.theory.specs.Finding.{Fine, First}
use Rattle.theory.specs.declared.Verdict.TheVariants.{Over}
use Rattle.sheet.specs.declared.Element.{Element}
use Rattle.sheet.specs.declared.Constraint.{Constraint}
use Rattle.sheet.specs.Facts.{Facts}
use Rattle.sheet.specs.Rules.{constraint_fault, constraints_fault}
use Rattle.sheet.specs.Rules.Laws.{ends-true, none-else}
use Rattle.sheet.specs.Accepted.{Accepted}
use Rattle.sheet.specs.Accepted.Laws.{taken, accepted-perm, accepted-two}
use Rattle.sheet.specs.Graph.{cluster_of, graph_of, over_rule, over_fault, reordered, SheetDemand3}

pub length-clusters : (f : Facts) → length (graph_of f).clusters ≡ length f.constraints
length-clusters f = simp length-map

-- constraints that no rule refuses are sets of two of the elements
clusters-sound : (es : List Element) (cs done : List Constraint) → constraints_fault es done cs ≡ 0 → (x : ℕ) → Among x (map cluster_of cs)
    → (ones x ≡ 2) × (x < 2 ^ length es)
unfolding constraints_fault
clusters-sound es [] done e x i = absurd i
clusters-sound es (c ∷ cs) done e x (inl q) =
    let h = none-else (constraint_fault es done c) _ e in
    let l = ends-true (length es) c.first c.second (taken es done c h.0).ends-ascend in (
      ap ones q ∙ size-pair c.first c.second l.0,
      subst (λ (z : ℕ). z < 2 ^ length es) (sym q) (pair-below (length es) c.first c.second (omega arith) l.1),
    )
clusters-sound es (c ∷ cs) done e x (inr i) =
    clusters-sound es cs (done ++ c ∷ []) (none-else (constraint_fault es done c) _ e).1 x i

module _ (f : Facts) (none : constraints_fault f.elements [] f.constraints ≡ 0) where
  pub clusters-pairs : Pairs (graph_of f).clusters
  unfolding Pairs
  clusters-pairs x i = (clusters-sound f.elements f.constraints [] none x i).0

  pub clusters-below : Below (graph_of f).n (graph_of f).clusters
  unfolding Below
  clusters-below x i = (clusters-sound f.elements f.constraints [] none x i).1

-- ---- rule 11

module _ (g : Graph) where
  pub fault-none : over_fault g ≡ 0 → finding_of g ≡ Fine
  unfolding over_fault
  fault-none e = go (finding_of g) refl
    where
      go : (o : Finding) → finding_of g ≡ o → finding_of g ≡ Fine
      go Fine q = q
      go (First c x) q = absurd (let z : ◌≡◌ {A = ℕ} 11 0 = sym (ap over_rule q) ∙ e in omega arith)

  pub fine-fault : finding_of g ≡ Fine → over_fault g ≡ 0
  unfolding over_fault
  fine-fault q = ap over_rule q

  pub first-fault : {c x : ℕ} → finding_of g ≡ First c x → over_fault g ≡ 11
  unfolding over_fault
  first-fault q = ap over_rule q

-- ---- accepted sheets

-- what theory calls accepted
in-theory : (f : Facts) → Accepted f → verdict_of (graph_of f) ≢ Over → demand.Accepted (graph_of f)
in-theory f h v = record {
  two = accepted-two f h;
  pairs = clusters-pairs f h.no_fault;
  below = clusters-below f h.no_fault;
  not_over = v;
}

pub sheet-demand3 : (f : Facts) → Accepted f → verdict_of (graph_of f) ≢ Over → SheetDemand3 f
sheet-demand3 f h v =
    let d = demand3 (graph_of f) (in-theory f h v) in
    let r : (ds : List Constraint) → Perm f.constraints ds → demand.Reordered (graph_of f) (graph_of (reordered f ds)) =
    λ ds p. record { count = refl; kinds = refl; constraints = perm-map cluster_of p } in
    record {
      orders = λ ds p. (accepted-perm f.opening f.elements f.constraints ds p h, (d.orders (graph_of (reordered f ds)) (r ds p)).not_over);
      every = λ ds p a b m n. d.every (graph_of (reordered f ds)) (r ds p) a b m n;
      whole = d;
    }
