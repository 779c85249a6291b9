-- The arrays that hold an accepted sheet's facts are drawn, and hold its constraint graph: rules 6 and 7 make its constraints a simple graph. Assumes
-- nothing.
use Rattle.std.specs.Prelude.{◌<◌, ◌≤◌, ◌≡◌, ◌&&◌, ◌||◌, ◌∷◌, ◌++◌}
use Rattle.theory.specs.Prelude.{ℕ, arith, eq-eqb, refl, sym, ap, ap₂, ◌∙◌, subst, inl, inr, Bool, true, false, List, []}
use Rattle.theory.specs.Prelude.{map, T, eqb, ℤ, pos, length, take, length-map, pow_mono, length-take-le}
use Rattle.theory.specs.Block.Laws.{length-block, take-block}
use Rattle.theory.specs.Constraints.{pair, Among, Below, NotOver}
use Rattle.theory.specs.Constraints.Laws.{pair_one}
use Rattle.theory.specs.Graph.{Graph}
use Rattle.theory.specs.Near.{Once, Near, Standing}
use Rattle.theory.specs.Over.{over_of}
use Rattle.theory.specs.Over.Laws.{fine-most, over_of-fine}
use Rattle.theory.specs.Finding.{Fine}
use Rattle.sheet.specs.declared.Element.{Element}
use Rattle.sheet.specs.declared.Constraint.{Constraint}
use Rattle.sheet.specs.Facts.{Facts}
use Rattle.sheet.specs.Rules.{stands, constraint_fault, constraints_fault}
use Rattle.sheet.specs.Rules.Laws.{ends-true, stands-more, none-else, constraints-most}
use Rattle.sheet.specs.Accepted.{Accepted}
use Rattle.sheet.specs.Accepted.Laws.{taken, accepted-two, accepted-most}
use Rattle.sheet.specs.Graph.{cluster_of, graph_of, sized_of}
use Rattle.sheet.specs.Graph.Laws.{clusters-pairs, clusters-below}
use Rattle.graph.specs.declared.Head.{Head}
use Rattle.graph.specs.declared.Front.{Front}
use Rattle.graph.specs.Lent.{graph_in, sized_in, head_in, SheetIn, Stands, sizes_of, Sound, Drawn}

-- ---- no constraint stands twice

-- what stands before a list stands in it
stands-before : (done : List Constraint) (c : Constraint) (a b : ℕ) → stands done a b ≡ true → stands (done ++ c ∷ []) a b ≡ true
stands-before done c a b e = stands-more done c a b ∙ ap (λ (t : Bool). t || (eqb c.first a && eqb c.second b)) e

or-true : (x : Bool) → x || true ≡ true
or-true true = refl
or-true false = refl

stands_here : (done : List Constraint) (c : Constraint) → stands (done ++ c ∷ []) c.first c.second ≡ true
stands_here done c =
    stands-more done c c.first c.second
    ∙ ap₂ (λ (x y : Bool). stands done c.first c.second || (x && y)) (eq-eqb c.first c.first refl) (eq-eqb c.second c.second refl)
    ∙ or-true (stands done c.first c.second)

module _ (es : List Element) where
  -- a pair that stands before is none of the list's
  fresh : (cs done : List Constraint) → constraints_fault es done cs ≡ 0 → (a b : ℕ) → a < b → stands done a b ≡ true
      → Among (pair a b) (map cluster_of cs) → ⊥
  unfolding constraints_fault
  fresh [] done e a b h s i = elim i [ ]
  fresh (c ∷ cs) done e a b h s (inl q) =
      let t = taken es done c (none-else (constraint_fault es done c) (constraints_fault es (done ++ c ∷ []) cs) e).0 in
      let p = pair_one a b c.first c.second h (ends-true (length es) c.first c.second t.ends-ascend).0 q in
      subst T (sym s ∙ ap₂ (stands done) p.0 p.1 ∙ t.is_new) tt
  fresh (c ∷ cs) done e a b h s (inr i) =
      fresh cs (done ++ c ∷ []) (none-else (constraint_fault es done c) (constraints_fault es (done ++ c ∷ []) cs) e).1 a b h
      (stands-before done c a b s) i

  each-once : (cs done : List Constraint) → constraints_fault es done cs ≡ 0 → Once (map cluster_of cs)
  unfolding constraints_fault
  each-once [] done e = tt
  each-once (c ∷ cs) done e =
      let h = none-else (constraint_fault es done c) (constraints_fault es (done ++ c ∷ []) cs) e in
      let l = ends-true (length es) c.first c.second (taken es done c h.0).ends-ascend in
      (fresh cs (done ++ c ∷ []) h.1 c.first c.second l.0 (stands_here done c), each-once cs (done ++ c ∷ []) h.1)

-- ---- an accepted sheet

pub accepted-sound : (f : Facts) → Accepted f → Sound (graph_of f).n (graph_of f).clusters
unfolding Below
accepted-sound f a = record {
  two = accepted-two f a;
  most = accepted-most f a;
  simple = record {
    pairs = clusters-pairs f a.no_fault;
    below = λ x i. omega (arith, clusters-below f a.no_fault x i, pow_mono (accepted-most f a));
    once = each-once f.elements f.constraints [] a.no_fault;
  };
  below = clusters-below f a.no_fault;
}

module _ {n : ℕ} {cs : List ℕ} (s : Sound n cs) where
  pub found-fine : over_of n cs ≡ Fine → NotOver cs
  found-fine e = over_of-fine n cs s.simple.pairs s.below e

  -- one that is not over has few constraints
  pub fine-few : NotOver cs → length cs ≤ 125
  fine-few fine = omega (arith, fine-most n cs s.two s.below fine, s.most)

-- ---- in arrays

module _ {f : Facts} {h : Head} {near start : List ℕ} (a : Stands f h near start) where
  most : length f.constraints ≤ 200
  most = constraints-most (length f.constraints) a.accepted.constraints_fit

  clusters-are : take h.e start ≡ (graph_of f).clusters
  clusters-are =
      ap₂ take (ap (λ (x : Head). x.e) a.head_is) a.start_is
      ∙ take-block 200 0 (map cluster_of f.constraints) (length f.constraints) (sym (length-map f.constraints _))

  pub graph-stands : graph_in h start ≡ graph_of f
  graph-stands = λ z. record { n = (a.head_is z).n; lines = (a.head_is z).lines; clusters = clusters-are z }

  pub sized-stands : {sizes : List ℤ} → sizes ≡ sizes_of f → sized_in h start sizes ≡ sized_of f
  sized-stands {sizes} is =
      let sizes-are : take h.e sizes ≡ (sized_of f).sizes = ap₂ take (ap (λ (x : Head). x.e) a.head_is) is
      ∙ take-block 200 (pos 0) (sized_of f).sizes (length f.constraints) (sym (length-map f.constraints _)) in
      λ z. record { graph = graph-stands z; sizes = sizes-are z }

  pub drawn : Drawn h near start
  drawn = record {
    sound = subst (λ (g : Graph). Sound g.n g.clusters) (sym graph-stands) (accepted-sound f a.accepted);
    few = rw a.head_is most;
    places = ap length a.start_is ∙ length-block 200 0 (map cluster_of f.constraints) (rw length-map most);
    near_is = subst (λ (cs : List ℕ). Near cs near) (sym clusters-are) a.noted.pairs;
  }

-- the arrays that hold a sheet hold its graph
module _ {f : Facts} {h : Front} {near start : List ℕ} {codes : List ℤ} {radii : List ℕ} (a : SheetIn f h near start codes radii) where
  pub stands-in : Stands f (head_in h) near start
  stands-in = record { accepted = a.accepted; head_is = a.head_is; noted = a.arrays.noted; start_is = a.arrays.start_is }

  pub drawn-in : Drawn (head_in h) near start
  drawn-in = drawn stands-in

  pub graph_is : graph_in (head_in h) start ≡ graph_of f
  graph_is = graph-stands stands-in

module _ {h : Head} {near start : List ℕ} (d : Drawn h near start) where
  pub counted : length (take h.e start) ≡ h.e
  counted = length-take-le h.e start (rw d.places d.few)

  pub standing : Standing start h.e
  standing = record { places = d.places; few = d.few; simple = d.sound.simple }
