-- What is found of a graph with one constraint more says whether it was over without it. Assumes nothing.
use Rattle.std.specs.Prelude.{◌+◌, ◌*◌, ◌≤◌, ◌<◌, ◌≡◌, ◌∷◌, ◌++◌}
use Rattle.theory.specs.Prelude.{ℕ, zero, suc, ℕ_discrete, add-one, arith, refl, sym, ap, ◌∙◌, subst, List, []}
use Rattle.theory.specs.Prelude.{map-append, eq-eqb, ne_eqb, ℤ, length, take, length-append, take-append_seam, take-length}
use Rattle.std.proofs.lemmas.List.{take-append-le}
use Rattle.theory.specs.Constraints.{NotOver}
use Rattle.theory.specs.Over.{IsOver, FirstOver}
use Rattle.theory.specs.Over.Laws.{more-over, over-longer, fine-shorter, over_of-first}
use Rattle.theory.specs.Finding.{Finding}
use Rattle.theory.specs.Finding.{Fine, First}
use Rattle.theory.specs.declared.Verdict.{Verdict}
use Rattle.theory.specs.declared.Verdict.TheVariants.{Over}
use Rattle.theory.specs.Graph.{Graph, finding_of, verdict_of}
use Rattle.theory.specs.Graph.Laws.{fine-not-over, not-over-fine, fine-finding, over-verdict}
use Rattle.sheet.specs.declared.Constraint.{Constraint}
use Rattle.sheet.specs.Facts.{Facts}
use Rattle.sheet.specs.Rules.{or_else, constraint_fault}
use Rattle.sheet.specs.Rules.Laws.{or_else_some}
use Rattle.sheet.specs.Accepted.{Accepted}
use Rattle.sheet.specs.Graph.{graph_of, cluster_of, over_fault}
use Rattle.sheet.specs.Graph.Laws.{fine-fault, first-fault, length-clusters}
use Rattle.graph.specs.declared.Front.{Front}
use Rattle.graph.specs.declared.Head.{Head}
use Rattle.graph.specs.Lent.{graph_in, head_in, SheetIn, Sound, Drawn}
use Rattle.graph.specs.Lent.Sheets.{accepted-sound, found-fine, graph_is, counted}
use Rattle.sketch.specs.Judgement.{Is, Refused}
use Rattle.sketch.specs.Sketch.{extended, next_fault, by27, ask_fault, place_fault, as_judged}
use Rattle.sketch.specs.Sketch.Laws.{extended-accepted, judged-refused, ask-place}
use Rattle.sketch.specs.Placing.{last_by, last_rule, last_answer, PlacedIn}

-- ---- over by the verdict

module _ (g : Graph) where
  pub over-fault : verdict_of g ≡ Over → over_fault g ≡ 11
  over-fault v = go (finding_of g) refl
    where
      go : (o : Finding) → finding_of g ≡ o → over_fault g ≡ 11
      go Fine q = absurd (fine-not-over g q v)
      go (First c x) q = first-fault g q

  pub no-over-fault : (verdict_of g ≡ Over → ⊥) → over_fault g ≡ 0
  no-over-fault n = fine-fault g (not-over-fine g n)

-- ---- one constraint more

module _ (f : Facts) (c : Constraint) (a : Accepted f) (few : length f.constraints < 200)
    (none : constraint_fault f.elements f.constraints c ≡ 0) where
  abbrev cs : List ℕ
  cs = (graph_of f).clusters

  abbrev more : List ℕ
  more = (graph_of (extended f c)).clusters

  sound : Sound (graph_of f).n cs
  sound = accepted-sound f a

  more-sound : Sound (graph_of f).n more
  more-sound = accepted-sound (extended f c) (extended-accepted f c a few none)

  more-is : more ≡ cs ++ cluster_of c ∷ []
  more-is = map-append cluster_of f.constraints (c ∷ [])

  longer : length more ≡ suc (length cs)
  longer = ap length more-is ∙ length-append cs (cluster_of c ∷ []) ∙ add-one (length cs)

  front : (k : ℕ) → k ≤ length cs → take k more ≡ take k cs
  front k l = ap (take k) more-is ∙ take-append-le k cs (cluster_of c ∷ []) l

  whole : take (length cs) more ≡ cs
  whole = ap (take (length cs)) more-is ∙ take-append_seam cs (cluster_of c ∷ [])

  fault-fine : NotOver cs → over_fault (graph_of f) ≡ 0
  fault-fine n = fine-fault (graph_of f) (fine-finding (graph_of f) sound.simple.pairs sound.below n)

  fault-over : IsOver cs → over_fault (graph_of f) ≡ 11
  fault-over o = over-fault (graph_of f) (over-verdict (graph_of f) sound.simple.pairs sound.below o)

  ask-is : {k j : ℕ} → over_fault (graph_of f) ≡ k → over_fault (graph_of (extended f c)) ≡ j → ask_fault f c ≡ or_else (by27 k) j
  unfolding ask_fault next_fault
  ask-is e n = rw (e, none, n)

  -- what is found of both decides
  pub last-asked : last_answer (graph_of (extended f c)) ≡ as_judged (ask_fault f c) (verdict_of (graph_of (extended f c)))
  unfolding last_answer
  last-asked = go (finding_of (graph_of (extended f c))) refl
    where
      v : Verdict
      v = verdict_of (graph_of (extended f c))

      first : (k x : ℕ) → finding_of (graph_of (extended f c)) ≡ First k x → FirstOver more k x → Dec (k + 1 ≡ length more)
          → Refused (last_rule k (length more)) ≡ as_judged (ask_fault f c) v
      first k x q o (yes e) =
          let n : NotOver cs = subst NotOver whole (fine-shorter more (length cs) k (omega (arith, longer)) o.earlier) in
          rw (ask-is (fault-fine n) (first-fault (graph_of (extended f c)) q), eq-eqb _ _ e)
      first k x q o (no e) =
          let l : suc k ≤ length cs = omega (arith, longer, o.listed, e) in
          let n : IsOver cs =
          subst IsOver (take-length cs) (over-longer cs (suc k) (length cs) l (subst IsOver (front (suc k) l) o.over)) in
          rw (ask-is (fault-over n) (first-fault (graph_of (extended f c)) q), ne_eqb _ _ e)

      go : (o : Finding) → finding_of (graph_of (extended f c)) ≡ o → last_by (graph_of (extended f c)) o ≡ as_judged (ask_fault f c) v
      go Fine q =
          let n : NotOver more = found-fine more-sound q in
          let m : NotOver cs =
          subst NotOver whole (fine-shorter more (length cs) (length more) (omega (arith, longer)) (subst NotOver (sym (take-length more)) n)) in
          rw (ask-is (fault-fine m) (fine-fault (graph_of (extended f c)) q))
      go (First k x) q = first k x q (over_of-first _ more more-sound.simple.pairs more-sound.below k x q) (ℕ_discrete (k + 1) (length more))

-- ---- what is found of the last constraint

module _ (g : Graph) where
  pub last-fine : {v : Verdict} → v ≡ verdict_of g → finding_of g ≡ Fine → Is v ≡ last_answer g
  unfolding last_answer
  last-fine v q = ap Is v ∙ sym (ap (last_by g) q)

module _ {h : Head} {near start : List ℕ} (d : Drawn h near start) {k x : ℕ} where
  pub first-listed : finding_of (graph_in h start) ≡ First k x → k < h.e
  first-listed q = let o = over_of-first _ _ d.sound.simple.pairs d.sound.below k x q in omega (arith, o.listed, counted d)

  pub last-first : {r : ℕ} → r ≡ last_rule k h.e → finding_of (graph_in h start) ≡ First k x → Refused r ≡ last_answer (graph_in h start)
  unfolding last_answer
  last-first e q = ap Refused (e ∙ ap (last_rule k) (sym (counted d))) ∙ sym (ap (last_by (graph_in h start)) q)

-- ---- the rules in their order

-- a sheet with more than 2n-3 constraints is over
pub more-fault : (f : Facts) → Accepted f → 2 * length f.elements < length f.constraints + 3 → over_fault (graph_of f) ≡ 11
more-fault f a m =
    let s = accepted-sound f a in
    let o : IsOver (graph_of f).clusters = more-over _ _ s.two s.below (omega (arith, length-clusters f)) in
    over-fault (graph_of f) (over-verdict (graph_of f) s.simple.pairs s.below o)

module _ (f : Facts) (c : Constraint) (held : ℕ) where
  pub place-over : over_fault (graph_of f) ≡ 11 → place_fault f c held ≡ 27
  unfolding place_fault
  place-over e = rw e

  pub place-stale : (held ≡ length f.constraints → ⊥) → place_fault f c held ≡ or_else (by27 (over_fault (graph_of f))) 24
  unfolding place_fault
  place-stale n = rw (ne_eqb held (length f.constraints) n)

  pub place-asked : held ≡ length f.constraints → place_fault f c held ≡ ask_fault f c
  place-asked e = ap (place_fault f c) e ∙ ask-place f c

  module _ (e : held ≡ length f.constraints) where
    -- a rule of 6 to 9 or 20
    pub place-fault : (k : ℕ) → k ≡ constraint_fault f.elements f.constraints c → (k ≡ 0 → ⊥)
        → place_fault f c held ≡ or_else (by27 (over_fault (graph_of f))) k
    unfolding ask_fault next_fault
    place-fault k is n =
        place-asked e ∙ ap (or_else (by27 (over_fault (graph_of f)))) (or_else_some _ _ (λ z. n (is ∙ z)) ∙ sym is)

    -- none of them, and 2n-3 constraints
    pub place-full : Accepted f → length f.constraints < 200 → constraint_fault f.elements f.constraints c ≡ 0
        → length f.constraints + 3 ≡ 2 * length f.elements
        → place_fault f c held ≡ or_else (by27 (over_fault (graph_of f))) 11
    unfolding ask_fault next_fault
    place-full a few none full =
        let o = more-fault (extended f c) (extended-accepted f c a few none) (omega (arith, length-append f.constraints (c ∷ []))) in
        place-asked e ∙ rw (none, o)

  -- a refusal: nothing is asked of the arrays
  pub refused-in : {h : Front} {near start : List ℕ} {codes : List ℤ} {radii : List ℕ} (k : ℕ) → place_fault f c held ≡ k → (k ≡ 0 → ⊥)
      → PlacedIn f c held h (Refused k) near start codes radii
  refused-in k e n = record {
    answer_is = sym (judged-refused k _ n) ∙ ap (λ (i : ℕ). as_judged i (verdict_of (graph_of (extended f c)))) (sym e);
    holds = λ z. absurd (n (sym e ∙ z));
  }

-- 27 or a rule is a rule
pub some-rule : (i k : ℕ) → (k ≡ 0 → ⊥) → or_else (by27 i) k ≡ 0 → ⊥
some-rule zero k n e = n e
some-rule (suc i) k n e = omega arith

-- that rule, unless the sheet in the arrays is over
pub unless-in : {f : Facts} {h : Front} {near start near' start' radii : List ℕ} {codes codes' : List ℤ} → SheetIn f h near start codes radii
    → (c : Constraint) (held rule : ℕ) {r : ℕ} → r ≡ or_else (by27 (over_fault (graph_in (head_in h) start))) rule
    → (rule ≡ 0 → ⊥)
    → place_fault f c held ≡ or_else (by27 (over_fault (graph_of f))) rule → PlacedIn f c held h (Refused r) near' start' codes' radii
unless-in {f} a c held rule {r} told n e =
    let is = told ∙ ap (λ (g : Graph). or_else (by27 (over_fault g)) rule) (graph_is a) in
    refused-in f c held r (e ∙ sym is) (λ z. some-rule (over_fault (graph_of f)) rule n (sym is ∙ z))
