-- Laws of a cluster's steps: none of an initial one; those of the three parts and then its own; they depend on lower steps alone. Assumes nothing.
use Rattle.std.specs.Prelude.{◌+◌, ◌-◌, ◌≤◌, ◌<◌, ◌≡◌, ◌∷◌, ◌++◌}
use Rattle.theory.specs.Prelude.{ℕ, zero, suc, arith, lt-ltb, le-ltb, ltb-false, refl, ap, ◌∙◌, Bool, true, false, List, []}
use Rattle.theory.specs.Prelude.{ltb}
use Rattle.theory.specs.declared.Step.{Step}
use Rattle.part.specs.Part.{under, part_steps_of}
use Rattle.part.specs.Tallies.{Lower}

abbrev unless : Bool → List Step → List Step
unless b l = elim b [ true ↦ [] | false ↦ l ]

module _ (e : ℕ) (step : ℕ → Step) where
  pub lower-at : (c d : ℕ) → d ≤ c → Lower e step c → Lower e step d
  lower-at c d h l = record {
    i_lower = λ t b. l.i_lower t (omega arith);
    j_lower = λ t b. l.j_lower t (omega arith);
    k_lower = λ t b. l.k_lower t (omega arith);
  }

  -- the parts of a made cluster
  pub record Parts (c : ℕ) : Type 0 where
    pub i_below : (step (c - e)).i < c
    pub j_below : (step (c - e)).j < c
    pub k_below : (step (c - e)).k < c
    pub i_parts : Lower e step (step (c - e)).i
    pub j_parts : Lower e step (step (c - e)).j
    pub k_parts : Lower e step (step (c - e)).k

  pub parts-of : (c : ℕ) → e ≤ c → Lower e step c → Parts c
  parts-of c h l =
      let i : (step (c - e)).i < c = omega (arith, l.i_lower (c - e) (omega arith)) in
      let j : (step (c - e)).j < c = omega (arith, l.j_lower (c - e) (omega arith)) in
      let k : (step (c - e)).k < c = omega (arith, l.k_lower (c - e) (omega arith)) in
      record {
        i_below = i;
        j_below = j;
        k_below = k;
        i_parts = lower-at c _ (omega arith) l;
        j_parts = lower-at c _ (omega arith) l;
        k_parts = lower-at c _ (omega arith) l;
      }

  -- the lists of the three parts, and the step
  abbrev pub joined : (ℕ → List Step) → ℕ → List Step
  joined of c = of (step (c - e)).i ++ (of (step (c - e)).j ++ (of (step (c - e)).k ++ (step (c - e) ∷ [])))

  joined_same : (p q : ℕ → List Step) (c : ℕ) → p (step (c - e)).i ≡ q (step (c - e)).i → p (step (c - e)).j ≡ q (step (c - e)).j
      → p (step (c - e)).k ≡ q (step (c - e)).k → joined p c ≡ joined q c
  joined_same p q c i j k = λ z. i z ++ (j z ++ (k z ++ (step (c - e) ∷ [])))

  -- more depth changes nothing
  enough : (f g c : ℕ) → c < f → c < g → Lower e step c → under f e step c ≡ under g e step c
  unfolding under
  enough zero g c hf hg l = absurd (omega arith)
  enough (suc f) zero c hf hg l = absurd (omega arith)
  enough (suc f) (suc g) c hf hg l = go (λ d x y z. enough f g d x y z) (ltb c e) refl
    where
      go : ((d : ℕ) → d < f → d < g → Lower e step d → under f e step d ≡ under g e step d) → (b : Bool) → ltb c e ≡ b
          → unless b (joined (under f e step) c) ≡ unless b (joined (under g e step) c)
      go ih true q = refl
      go ih false q =
          let p = parts-of c (ltb-false c e q) l in
          joined_same (under f e step) (under g e step) c
          (ih _ (omega (arith, p.i_below)) (omega (arith, p.i_below)) p.i_parts)
          (ih _ (omega (arith, p.j_below)) (omega (arith, p.j_below)) p.j_parts)
          (ih _ (omega (arith, p.k_below)) (omega (arith, p.k_below)) p.k_parts)

  -- an initial cluster gives none
  pub part-initial : (c : ℕ) → c < e → part_steps_of e step c ≡ []
  unfolding part_steps_of under
  part-initial c h = ap (λ (b : Bool). unless b (joined (under c e step) c)) (lt-ltb c e h)

  -- a made one: the steps of its parts, lowest first, and then its own
  pub part-made : (c : ℕ) → e ≤ c → Lower e step c → part_steps_of e step c ≡ joined (part_steps_of e step) c
  unfolding part_steps_of under
  part-made c h l =
      let p = parts-of c h l in
      ap (λ (b : Bool). unless b (joined (under c e step) c)) (le-ltb c e h)
      ∙ joined_same (under c e step) (λ d. under (suc d) e step d) c
      (enough c (suc (step (c - e)).i) (step (c - e)).i p.i_below (omega arith) p.i_parts)
      (enough c (suc (step (c - e)).j) (step (c - e)).j p.j_below (omega arith) p.j_parts)
      (enough c (suc (step (c - e)).k) (step (c - e)).k p.k_below (omega arith) p.k_parts)

-- steps that are the same up to c
module _ (e : ℕ) (step other : ℕ → Step) where
  under_same : (f c : ℕ) → ((t : ℕ) → e + t ≤ c → step t ≡ other t) → Lower e step c → under f e step c ≡ under f e other c
  unfolding under
  under_same zero c s l = refl
  under_same (suc f) c s l = go (λ d x y. under_same f d x y) (ltb c e) refl
    where
      go : ((d : ℕ) → ((t : ℕ) → e + t ≤ d → step t ≡ other t) → Lower e step d → under f e step d ≡ under f e other d) → (b : Bool) → ltb c e ≡ b
          → unless b (joined e step (under f e step) c) ≡ unless b (joined e other (under f e other) c)
      go ih true q = refl
      go ih false q =
          let p = parts-of e step c (ltb-false c e q) l in
          let h : e ≤ c = ltb-false c e q in
          joined_same e step (under f e step) (under f e other) c
          (ih _ (λ t x. s t (omega (arith, p.i_below))) p.i_parts)
          (ih _ (λ t x. s t (omega (arith, p.j_below))) p.j_parts)
          (ih _ (λ t x. s t (omega (arith, p.k_below))) p.k_parts)
          ∙ ap (λ (x : Step). under f e other x.i ++ (under f e other x.j ++ (under f e other x.k ++ (x ∷ [])))) (s (c - e) (omega arith))

  pub part_same : (c : ℕ) → ((t : ℕ) → e + t ≤ c → step t ≡ other t) → Lower e step c → part_steps_of e step c ≡ part_steps_of e other c
  unfolding part_steps_of
  part_same c s l = under_same (suc c) c s l

-- what holds of each step up to c, and of two lists together where it holds of each, holds of a cluster's steps
module _ (e : ℕ) (step : ℕ → Step) (Q : List Step → Type 0) (none : Q []) (both : (xs ys : List Step) → Q xs → Q ys → Q (xs ++ ys)) where
  under_all : (f c : ℕ) → ((t : ℕ) → e + t ≤ c → Q (step t ∷ [])) → Lower e step c → Q (under f e step c)
  unfolding under
  under_all zero c s l = none
  under_all (suc f) c s l = go (λ d x y. under_all f d x y) (ltb c e) refl
    where
      go : ((d : ℕ) → ((t : ℕ) → e + t ≤ d → Q (step t ∷ [])) → Lower e step d → Q (under f e step d)) → (b : Bool) → ltb c e ≡ b
          → Q (unless b (joined e step (under f e step) c))
      go ih true q = none
      go ih false q =
          let h : e ≤ c = ltb-false c e q in
          let p = parts-of e step c h l in
          both _ _ (ih _ (λ t x. s t (omega (arith, p.i_below))) p.i_parts)
          (both _ _ (ih _ (λ t x. s t (omega (arith, p.j_below))) p.j_parts)
          (both _ _ (ih _ (λ t x. s t (omega (arith, p.k_below))) p.k_parts) (s (c - e) (omega arith))))

  pub part-all : (c : ℕ) → ((t : ℕ) → e + t ≤ c → Q (step t ∷ [])) → Lower e step c → Q (part_steps_of e step c)
  unfolding part_steps_of
  part-all c s l = under_all (suc c) c s l
