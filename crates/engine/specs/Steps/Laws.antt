-- The steps that the arrays give are those of the list of merges they hold. Assumes nothing.
use Rattle.std.specs.Prelude.{◌≡◌, ◌≢◌, ◌&&◌, ◌∷◌, ◌+◌, ◌*◌, ◌≤◌, ◌<◌}
use Rattle.theory.specs.Prelude.{refl, sym, ap, ap₂, ◌∙◌, Bool, true, false, List, [], map, ℕ, zero, suc}
use Rattle.theory.specs.Prelude.{arith, ltb, ℤ, pos, length, get_or, take, length-take, ext_get_or, get_or-take, ltb-true}
use Rattle.theory.specs.Block.{block}
use Rattle.theory.specs.Block.Laws.{get_or-block}
use Rattle.theory.specs.Merge.{slot, Merge, merge, three, joint, OpenAt, put, Valid, joints}
use Rattle.theory.specs.Merge.Numbered.{Place, new, old, place, length-put}
use Rattle.theory.specs.Plan.{ascending}
use Rattle.theory.specs.Plan.Order.{open-ascending, joint-ascending}
use Rattle.theory.specs.Placement.{placed, joint_kind, ways}
use Rattle.theory.specs.Graph.{SizedGraph, step_of, steps_from, steps_of}
use Rattle.theory.specs.Graph.Laws.{length-steps}
use Rattle.theory.specs.declared.JointKind.{JointKind}
use Rattle.theory.specs.declared.Ways.{Ways}
use Rattle.theory.specs.declared.Ways.TheVariants.{Unknown}
use Rattle.theory.specs.declared.Step.{Step}
use Rattle.merges.specs.Run.{Run, flat, run_of}
use Rattle.engine.specs.Steps.{ways_by, step_from, step_at, steps_for, steps_in, blank_step, Stepped}

-- ---- placements go by initial clusters only

-- the clusters below e are those of cs as long as they live
abbrev pub Initial : ℕ → List ℕ → List ℕ → Type 0
Initial e cs s = (n : ℕ) → n < e → slot s n ≢ 0 → slot s n ≡ slot cs n

initial-put : (e : ℕ) (cs s : List ℕ) (m : Merge) → e ≤ length s → Initial e cs s → Initial e cs (put s m)
initial-put e cs s m h k n l z = go (place s m n z)
  where
    go : Place s m n → slot (put s m) n ≡ slot cs n
    go (new q f) = absurd (omega arith)
    go (old q f) = f ∙ k n l (λ y. z (f ∙ y))

-- so the sizes of the constraints below e
abbrev pub Sized : ℕ → List ℤ → List ℤ → Type 0
Sized e sizes of = (n : ℕ) → n < e → get_or sizes n (pos 0) ≡ get_or of n (pos 0)

module _ (lines e : ℕ) (sizes of : List ℤ) (cs s : List ℕ) (k : Initial e cs s) (same : Sized e sizes of) where
  ways-same : (kind : JointKind) (m : Merge) → slot s m.i ≢ 0 → slot s m.j ≢ 0
      → ways_by lines kind e sizes cs m
      ≡ elim (ltb m.i e && (ltb m.j e && ltb m.k e)) [
        | true ↦ placed lines kind (slot s m.i) (slot s m.j) (get_or of m.i (pos 0)) (get_or of m.j (pos 0)) (get_or of m.k (pos 0))
        | false ↦ Unknown
      ]
  unfolding ways_by
  ways-same kind m li lj = by_tests (ltb m.i e) refl (ltb m.j e) refl (ltb m.k e) refl
    where
      at : List ℤ → List ℕ → Ways
      at l c = placed lines kind (slot c m.i) (slot c m.j) (get_or l m.i (pos 0)) (get_or l m.j (pos 0)) (get_or l m.k (pos 0))

      by_tests : (a : Bool) → ltb m.i e ≡ a → (b : Bool) → ltb m.j e ≡ b → (c : Bool) → ltb m.k e ≡ c
          → ◌≡◌ {A = Ways} (elim (a && (b && c)) [ true ↦ at sizes cs | false ↦ Unknown ]) (elim (a && (b && c)) [ true ↦ at of s | false ↦ Unknown ])
      by_tests false p b q c r = refl
      by_tests true p false q c r = refl
      by_tests true p true q false r = refl
      by_tests true p true q true r =
          let i = ltb-true m.i e p in
          let j = ltb-true m.j e q in
          let ci = k m.i i li in
          let cj = k m.j j lj in
          let zi = same m.i i in
          let zj = same m.j j in
          let zk = same m.k (ltb-true m.k e r) in
          λ z. placed lines kind (sym ci z) (sym cj z) (zi z) (zj z) (zk z)

-- one step
module _ (g : SizedGraph) (start : List ℕ) (sizes : List ℤ) (same : Sized (length g.graph.clusters) sizes g.sizes) where
  step_same : (s : List ℕ) → Initial (length g.graph.clusters) start s → (m : Merge) → OpenAt s m → (base : ℕ) (parts knots : List ℕ)
      → base ≡ length s
      → step_from g.graph.lines (length g.graph.clusters) sizes start base ((ascending m).i ∷ (ascending m).j ∷ (ascending m).k ∷ parts)
      (joint (three s m) ∷ knots) 0
      ≡ step_of g s m
  unfolding step_from step_of ways
  step_same s k m o base parts knots b =
      let a = open-ascending s m o in
      let e = length g.graph.clusters in
      let j : joint (three s m) ≡ joint (three s (ascending m)) = sym (joint-ascending s m) in
      let made : base + 0 ≡ length s = omega arith in
      let w = ap (λ (x : ℕ). ways_by g.graph.lines (joint_kind g.graph.lines x) e sizes start (ascending m)) j
      ∙ ways-same g.graph.lines e sizes g.sizes start s k same
      (joint_kind g.graph.lines (joint (three s (ascending m)))) (ascending m) a.livei a.livej in
      λ z. record {
        made = made z;
        i = (ascending m).i;
        j = (ascending m).j;
        k = (ascending m).k;
        joint = j z;
        kind = joint_kind g.graph.lines (j z);
        ways = w z;
      }

-- ---- all steps

-- a later step is a step of the rest
later : (lines e : ℕ) (sizes : List ℤ) (cs : List ℕ) (made x i j k : ℕ) (parts knots : List ℕ) (t : ℕ)
    → step_from lines e sizes cs made (i ∷ j ∷ k ∷ parts) (x ∷ knots) (suc t) ≡ step_from lines e sizes cs (suc made) parts knots t
unfolding step_from
later lines e sizes cs made x i j k parts knots t =
    let p0 : 3 * suc t ≡ suc (suc (suc (3 * t))) = omega arith in
    let p1 : 3 * suc t + 1 ≡ suc (suc (suc (3 * t + 1))) = omega arith in
    let p2 : 3 * suc t + 2 ≡ suc (suc (suc (3 * t + 2))) = omega arith in
    let l = i ∷ j ∷ k ∷ parts in
    let m : made + suc t ≡ suc made + t = omega arith in
    λ z. record {
      made = m z;
      i = get_or l (p0 z) 0;
      j = get_or l (p1 z) 0;
      k = get_or l (p2 z) 0;
      joint = get_or knots t 0;
      kind = joint_kind lines (get_or knots t 0);
      ways = ways_by lines (joint_kind lines (get_or knots t 0)) e sizes cs (merge (get_or l (p0 z) 0) (get_or l (p1 z) 0) (get_or l (p2 z) 0));
    }

pub steps-from : (g : SizedGraph) (start : List ℕ) (sizes : List ℤ) → Sized (length g.graph.clusters) sizes g.sizes
    → (p : List Merge) (s : List ℕ) (base t : ℕ)
    → Valid s p → Initial (length g.graph.clusters) start s → length g.graph.clusters ≤ length s → base ≡ length s → t < length p
    → step_from g.graph.lines (length g.graph.clusters) sizes start base (flat (map ascending p)) (joints s p) t ≡ get_or (steps_from g s p) t blank_step
unfolding flat joints steps_from
steps-from g start sizes same [] s base t v k h b l = absurd (omega arith)
steps-from g start sizes same (m ∷ p) s base zero v k h b l =
    step_same g start sizes same s k m v.0 base (flat (map ascending p)) (joints (put s m) p) b
steps-from g start sizes same (m ∷ p) s base (suc t) v k h b l =
    later g.graph.lines (length g.graph.clusters) sizes start base (joint (three s m)) (ascending m).i (ascending m).j
    (ascending m).k (flat (map ascending p))
    (joints (put s m) p) t
    ∙ steps-from g start sizes same p (put s m) (suc base) t v.1 (initial-put (length g.graph.clusters) start s m h k)
    (omega (arith, length-put s m)) (omega (arith, length-put s m)) (omega arith)

-- reading the arrays is reading the lists
pub read-lists : (lines e : ℕ) (sizes : List ℤ) (cs parts knots : List ℕ) (t : ℕ)
    → step_from lines e sizes cs e (block 192 0 parts) (block 64 0 knots) t ≡ step_from lines e sizes cs e parts knots t
unfolding step_from
read-lists lines e sizes cs parts knots t =
    let i = get_or-block 192 0 parts (3 * t) in
    let j = get_or-block 192 0 parts (3 * t + 1) in
    let k = get_or-block 192 0 parts (3 * t + 2) in
    let x = get_or-block 64 0 knots t in
    λ z. record {
      made = e + t;
      i = i z;
      j = j z;
      k = k z;
      joint = x z;
      kind = joint_kind lines (x z);
      ways = ways_by lines (joint_kind lines (x z)) e sizes cs (merge (i z) (j z) (k z));
    }

-- steps listed one by one
steps-for : (at : ℕ → Step) (l : List Step) (b : ℕ) → ((t : ℕ) → t < length l → at (b + t) ≡ get_or l t blank_step) → steps_for at b (length l) ≡ l
unfolding steps_for
steps-for at [] b h = refl
steps-for at (s ∷ l) b h =
    ap₂ (λ (x : Step) (r : List Step). x ∷ r) (ap at {x = b} {y = b + 0} (omega arith) ∙ h 0 (omega arith))
    (steps-for at l (suc b) (λ t k. ap at {x = suc b + t} {y = b + suc t} (omega arith) ∙ h (suc t) (omega arith)))

module _ (g : SizedGraph) (p : List Merge) (run : Run) (start : List ℕ) (sizes : List ℤ) (v : Valid g.graph.clusters p) (h : run ≡ run_of g.graph.clusters p)
    (b : take (length g.graph.clusters) start ≡ g.graph.clusters) (d : take (length g.graph.clusters) sizes ≡ g.sizes) where
  -- each step that the arrays of a run give is that of its list of merges
  step_is : (t : ℕ) → t < length p
      → step_at g.graph.lines (length g.graph.clusters) sizes start run.parts run.joints t ≡ get_or (steps_of g p) t blank_step
  unfolding run_of
  step_is t l =
      let e = length g.graph.clusters in
      (λ z. step_from g.graph.lines e sizes start e (h z).parts (h z).joints t)
      ∙ read-lists g.graph.lines e sizes start (flat (map ascending p)) (joints g.graph.clusters p) t
      ∙ steps-from g start sizes same p g.graph.clusters e t v initial (omega arith) refl l
    where
      initial : Initial (length g.graph.clusters) start g.graph.clusters
      initial n m z = sym (ap (λ (l : List ℕ). slot l n) b) ∙ get_or-take (length g.graph.clusters) start n 0 m

      same : Sized (length g.graph.clusters) sizes g.sizes
      same n m = sym (get_or-take (length g.graph.clusters) sizes n (pos 0) m) ∙ ap (λ (l : List ℤ). get_or l n (pos 0)) d

  steps-counted : run.steps ≡ length p
  unfolding run_of
  steps-counted = ap (λ (r : Run). r.steps) h

  -- so the steps in the arrays are those of the list
  pub steps-in-are : steps_in g.graph.lines (length g.graph.clusters) sizes start run.parts run.joints run.steps ≡ steps_of g p
  steps-in-are =
      ap (steps_in g.graph.lines (length g.graph.clusters) sizes start run.parts run.joints) (steps-counted ∙ sym (length-steps g g.graph.clusters p))
      ∙ steps-for (step_at g.graph.lines (length g.graph.clusters) sizes start run.parts run.joints) (steps_of g p) 0
      (λ t l. ap (step_at g.graph.lines (length g.graph.clusters) sizes start run.parts run.joints) {x = 0 + t} {y = t} (omega arith)
      ∙ step_is t (omega (arith, length-steps g g.graph.clusters p)))

-- the steps that are made of the arrays of a run are those of its list of merges
pub stepped-are : (g : SizedGraph) (p : List Merge) (run : Run) (start : List ℕ) (sizes : List ℤ) (steps : List Step) → Valid g.graph.clusters p
    → run ≡ run_of g.graph.clusters p → take (length g.graph.clusters) start ≡ g.graph.clusters → take (length g.graph.clusters) sizes ≡ g.sizes
    → length p ≤ 62 → Stepped g.graph.lines (length g.graph.clusters) sizes start run.parts run.joints run.steps steps → take run.steps steps ≡ steps_of g p
stepped-are g p run start sizes steps v h b d f w =
    let count = steps-counted g p run start sizes v h b d in
    ext_get_or blank_step (take run.steps steps) (steps_of g p)
    (length-take run.steps steps ∙ omega (arith, w.long, count, f) ∙ sym (length-steps g g.graph.clusters p))
    (λ t l. let q : t < run.steps = omega (arith, length-take run.steps steps) in
    get_or-take run.steps steps t blank_step q ∙ w.each t q ∙ step_is g p run start sizes v h b d t (omega (arith, count)))
