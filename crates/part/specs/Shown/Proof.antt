-- The steps of a cluster are those from which it is made, in order. Assumes nothing.
use Rattle.std.specs.Prelude.{◌+◌, ◌-◌, ◌≤◌, ◌<◌, ◌≡◌, ◌⊎◌, ◌∷◌, ◌++◌}
use Rattle.theory.specs.Prelude.{ℕ, zero, suc, dec_lt, arith, refl, sym, ap, ◌∙◌, subst, inl, inr, List, []}
use Rattle.theory.specs.Prelude.{length}
use Rattle.theory.specs.Constraints.{Pairs, Among, Perm, then}
use Rattle.theory.specs.Graph.{SizedGraph, steps_of}
use Rattle.theory.specs.Graph.Laws.{length-steps}
use Rattle.theory.specs.Merge.{final}
use Rattle.theory.specs.Plan.{plan_of}
use Rattle.theory.specs.declared.Step.{Step}
use Rattle.merges.specs.Run.Laws.{length-final}
use Rattle.part.specs.Part.{part_steps_of, plan_step, cluster_steps}
use Rattle.part.specs.Part.Laws.{joined, Parts, parts-of, part-initial, part-made}
use Rattle.part.specs.Part.Gather.{firsts, firsts-all, gather, gather-one}
use Rattle.part.specs.Tallies.{Lower}
use Rattle.part.specs.Tallies.Plan.{counted-plan, lower-plan, steps_elements}
use Rattle.part.specs.Shown.{MadeFrom, itself, by_i, by_j, by_k, In, Ready, Ordered, Shown}

-- ---- one of two lists

in_left : (s : Step) (xs ys : List Step) → In s xs → In s (xs ++ ys)
in_left s [] ys h = elim h [ ]
in_left s (x ∷ xs) ys (inl e) = inl e
in_left s (x ∷ xs) ys (inr h) = inr (in_left s xs ys h)

in_right : (s : Step) (xs ys : List Step) → In s ys → In s (xs ++ ys)
in_right s [] ys h = h
in_right s (x ∷ xs) ys h = inr (in_right s xs ys h)

in_either : (s : Step) (xs ys : List Step) → In s (xs ++ ys) → In s xs ⊎ In s ys
in_either s [] ys h = inr h
in_either s (x ∷ xs) ys (inl e) = inl (inl e)
in_either s (x ∷ xs) ys (inr h) = by (in_either s xs ys h)
  where
    by : In s xs ⊎ In s ys → In s (x ∷ xs) ⊎ In s ys
    by (inl i) = inl (inr i)
    by (inr i) = inr i

-- ---- made before

-- what the steps of a list have made, after `done`
unfoldable seen : List Step → List ℕ → List ℕ
seen [] done = done
seen (s ∷ l) done = seen l (s.made ∷ done)

seen-append : (xs ys : List Step) (done : List ℕ) → seen (xs ++ ys) done ≡ seen ys (seen xs done)
unfolding seen
seen-append [] ys done = refl
seen-append (x ∷ xs) ys done = seen-append xs ys (x.made ∷ done)

seen_more : (l : List Step) (done : List ℕ) (n : ℕ) → Among n done → Among n (seen l done)
unfolding seen
seen_more [] done n h = h
seen_more (s ∷ l) done n h = seen_more l (s.made ∷ done) n (inr h)

module _ (e : ℕ) where
  ready-more : (l : List Step) (done : List ℕ) (n : ℕ) → Ready e done n → Ready e (seen l done) n
  ready-more l done n (inl h) = inl h
  ready-more l done n (inr h) = inr (seen_more l done n h)

  ordered-then : (xs ys : List Step) (done : List ℕ) → Ordered e done xs → Ordered e (seen xs done) ys → Ordered e done (xs ++ ys)
  unfolding seen
  ordered-then [] ys done a b = b
  ordered-then (x ∷ xs) ys done (i, j, k, a) b = (i, j, k, ordered-then xs ys (x.made ∷ done) a b)

-- ---- the steps of cluster c

module _ (e : ℕ) (step : ℕ → Step) where
  abbrev of : ℕ → List Step
  of = part_steps_of e step

  -- s is the step of a cluster from which c is made
  abbrev Made : Step → ℕ → Type 0
  Made s c = (d : ℕ) × MadeFrom e step d c × (s ≡ step (d - e))

  to-list : (d c : ℕ) → Lower e step c → MadeFrom e step d c → In (step (d - e)) (of c)
  to-list d c l (itself h q) =
      subst (In (step (d - e))) (sym (part-made e step c h l))
      (in_right _ (of (step (c - e)).i) _ (in_right _ (of (step (c - e)).j) _
      (in_right _ (of (step (c - e)).k) _ (inl (ap (λ (n : ℕ). step (n - e)) q)))))
  to-list d c l (by_i h m) =
      subst (In (step (d - e))) (sym (part-made e step c h l))
      (in_left _ (of (step (c - e)).i) _ (to-list d _ (parts-of e step c h l).i_parts m))
  to-list d c l (by_j h m) =
      subst (In (step (d - e))) (sym (part-made e step c h l))
      (in_right _ (of (step (c - e)).i) _ (in_left _ (of (step (c - e)).j) _ (to-list d _ (parts-of e step c h l).j_parts m)))
  to-list d c l (by_k h m) =
      subst (In (step (d - e))) (sym (part-made e step c h l))
      (in_right _ (of (step (c - e)).i) _ (in_right _ (of (step (c - e)).j) _
      (in_left _ (of (step (c - e)).k) _ (to-list d _ (parts-of e step c h l).k_parts m))))

  -- through the part that has it
  from_parts : (s : Step) (c : ℕ) → e ≤ c → ((n : ℕ) → n < c → Lower e step n → In s (of n) → Made s n) → Lower e step c → In s (joined e step of c)
      → Made s c
  from_parts s c h below l x = by_first (in_either s (of (step (c - e)).i) _ x)
    where
      p : Parts e step c
      p = parts-of e step c h l

      by_last : In s (of (step (c - e)).k) ⊎ In s (step (c - e) ∷ []) → Made s c
      by_last (inl y) = let (d, m, q) = below _ p.k_below p.k_parts y in (d, by_k h m, q)
      by_last (inr (inl q)) = (c, itself h refl, q)
      by_last (inr (inr y)) = elim y [ ]

      by-second : In s (of (step (c - e)).j) ⊎ In s (of (step (c - e)).k ++ (step (c - e) ∷ [])) → Made s c
      by-second (inl y) = let (d, m, q) = below _ p.j_below p.j_parts y in (d, by_j h m, q)
      by-second (inr y) = by_last (in_either s (of (step (c - e)).k) _ y)

      by_first : In s (of (step (c - e)).i) ⊎ In s (of (step (c - e)).j ++ (of (step (c - e)).k ++ (step (c - e) ∷ []))) → Made s c
      by_first (inl y) = let (d, m, q) = below _ p.i_below p.i_parts y in (d, by_i h m, q)
      by_first (inr y) = by-second (in_either s (of (step (c - e)).j) _ y)

  from_list : (s : Step) (f c : ℕ) → c < f → Lower e step c → In s (of c) → Made s c
  from_list s zero c b l x = absurd (omega arith)
  from_list s (suc f) c b l x = by (λ n k m y. from_list s f n (omega arith) m y) (dec_lt c e)
    where
      by : ((n : ℕ) → n < c → Lower e step n → In s (of n) → Made s n) → Dec (c < e) → Made s c
      by below (yes h) = absurd (subst (In s) (part-initial e step c h) x)
      by below (no h) =
          let made : e ≤ c = omega arith in
          from_parts s c made below l (subst (In s) (part-made e step c made l) x)

  -- ---- in order

  module _ (top : ℕ) (own : (t : ℕ) → e + t < top → (step t).made ≡ e + t) where
    made-last : (c : ℕ) (done : List ℕ) → c < top → Lower e step c → Ready e (seen (of c) done) c
    unfolding seen
    made-last c done b l = by (dec_lt c e)
      where
        by : Dec (c < e) → Ready e (seen (of c) done) c
        by (yes h) = inl h
        by (no h) =
            let made : e ≤ c = omega arith in
            inr
            (subst (λ (x : List Step). Among c (seen x done)) (sym (part-made e step c made l))
            (rw (seen-append (of (step (c - e)).i) _ done, seen-append (of (step (c - e)).j) _ _, seen-append (of (step (c - e)).k) _ _)
            (inl (omega (arith, own (c - e) (omega arith))))))

    from-order : (c : ℕ) (done : List ℕ) → e ≤ c → c < top → ((n : ℕ) (before : List ℕ) → n < c → Lower e step n → Ordered e before (of n))
        → Lower e step c → Ordered e done (joined e step of c)
    from-order c done made b below l =
        let p = parts-of e step c made l in
        let s = step (c - e) in
        let d1 = seen (of s.i) done in
        let d2 = seen (of s.j) d1 in
        ordered-then e (of s.i) _ done (below s.i done p.i_below p.i_parts)
        (ordered-then e (of s.j) _ d1 (below s.j d1 p.j_below p.j_parts)
        (ordered-then e (of s.k) _ d2 (below s.k d2 p.k_below p.k_parts) (
          ready-more e (of s.k) d2 s.i (ready-more e (of s.j) d1 s.i (made-last s.i done (omega (arith, p.i_below)) p.i_parts)),
          ready-more e (of s.k) d2 s.j (made-last s.j d1 (omega (arith, p.j_below)) p.j_parts),
          made-last s.k d2 (omega (arith, p.k_below)) p.k_parts,
          tt,
        )))

    in_order : (f c : ℕ) (done : List ℕ) → c < f → c < top → Lower e step c → Ordered e done (of c)
    in_order zero c done b h l = absurd (omega arith)
    in_order (suc f) c done b h l = by (λ n before k m. in_order f n before (omega arith) (omega arith) m) (dec_lt c e)
      where
        by : ((n : ℕ) (before : List ℕ) → n < c → Lower e step n → Ordered e before (of n)) → Dec (c < e) → Ordered e done (of c)
        by below (yes i) = subst (Ordered e done) (sym (part-initial e step c i)) tt
        by below (no i) =
            let made : e ≤ c = omega arith in
            subst (Ordered e done) (sym (part-made e step c made l)) (from-order c done made h below l)

-- ---- of a graph's plan

module _ (g : SizedGraph) (pairs : Pairs g.graph.clusters) (c : ℕ) (below : c < length g.graph.clusters + length (plan_of g.graph.clusters)) where
  abbrev e : ℕ
  e = length g.graph.clusters

  pub shown : Shown g c
  unfolding cluster_steps
  shown =
      let n = counted-plan g pairs in
      let p = plan_of g.graph.clusters in
      let l = lower-plan g pairs c below in
      let long : length (final g.graph.clusters p) ≡ e + length p = length-final p g.graph.clusters in
      let all : firsts (plan_step g) (length (final g.graph.clusters p) - e) ≡ steps_of g p =
      let z : length (final g.graph.clusters p) - e ≡ length (steps_of g p) = omega (arith, long, length-steps g g.graph.clusters p) in
      ap (firsts (plan_step g)) z ∙ firsts-all (steps_of g p) in
      record {
        exactly = λ s. (
          from_list e (plan_step g) s (suc c) c (omega arith) l,
          λ x. let (d, m, q) = x in subst (λ (y : Step). In y (cluster_steps g c)) (sym q) (to-list e (plan_step g) d c l m),
        );
        once = n.once c (omega (arith, long));
        ordered = in_order e (plan_step g) (length (final g.graph.clusters p)) n.makes (suc c) c [] (omega arith) (omega (arith, long)) l;
        whole = λ one z. then (gather-one (part_steps_of e (plan_step g)) (final g.graph.clusters p) c one z)
            (subst (Perm (gather (part_steps_of e (plan_step g)) 0 (final g.graph.clusters p))) all n.gathers);
        steps_elements = steps_elements g pairs c below;
      }
