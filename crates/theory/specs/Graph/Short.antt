-- Verdicts that need no list of merges. Assumes nothing.
use Rattle.std.specs.Prelude.{◌≡◌, ◌≢◌, ◌||◌, ◌∷◌, ◌+◌, ◌*◌, ◌≤◌, ◌<◌}
use Rattle.theory.specs.Prelude.{refl, sym, ap, ap₂, ◌∙◌, subst, inl, inr, Bool, true, false, List, [], ℕ}
use Rattle.theory.specs.Prelude.{arith, ones, T, eqb, eqb→eq, length}
use Rattle.theory.specs.Tests.{eq_test}
use Rattle.theory.specs.Set.Laws.{⊑⇒size≤}
use Rattle.theory.specs.Constraints.{Among, Pairs, Below}
use Rattle.theory.specs.Merge.{Merge, three, put, final, joints, left, Valid}
use Rattle.theory.specs.Merge.Threes.{size-joint}
use Rattle.theory.specs.Plan.{plan_of}
use Rattle.theory.specs.Over.Laws.{more-over}
use Rattle.theory.specs.Ring.{ringed}
use Rattle.theory.specs.Verdict.{angled, judged}
use Rattle.theory.specs.Verdict.Laws.{angled-is}
use Rattle.theory.specs.Graph.{Graph, finding_of, list_verdict, verdict_of}
use Rattle.theory.specs.Graph.Laws.{fine-verdict, over-verdict}
use Rattle.theory.specs.Finding.{Fine}
use Rattle.theory.specs.declared.Verdict.TheVariants.{Over, Angle, Well, Stuck, Under}

-- every joint has three elements
pub joint_three : (p : List Merge) (s : List ℕ) → Valid s p → (j : ℕ) → Among j (joints s p) → ones j ≡ 3
unfolding joints
joint_three [] s v j i = absurd i
joint_three (m ∷ p) s v j (inl e) = ap ones e ∙ size-joint (three s m) v.0.open3
joint_three (m ∷ p) s v j (inr i) = joint_three p (put s m) v.1 j i

-- two lines or fewer make no joint of three
pub not-angled : (lines : ℕ) → ones lines ≤ 2 → (s : List ℕ) (p : List Merge) → Valid s p → angled lines (joints s p) ≡ false
not-angled lines few s p v = elim (angled lines (joints s p)) as (λ (b : Bool). angled lines (joints s p) ≡ b → angled lines (joints s p) ≡ false) [
  | true ↦ λ e. let a = angled-is lines (joints s p) (subst T (sym e) tt) in
      absurd (omega (arith, joint_three p s v a.0 a.1, ⊑⇒size≤ lines a.0 a.2))
  | false ↦ λ e. e
] refl

module _ (g : Graph) where
  -- more constraints than 2n-3
  pub verdict-more : 2 ≤ g.n → Pairs g.clusters → Below g.n g.clusters → 2 * g.n < length g.clusters + 3 → verdict_of g ≡ Over
  verdict-more two pairs below more = over-verdict g pairs below (more-over g.n g.clusters two below more)

  module _ (fine : finding_of g ≡ Fine) where
    abbrev cs : List ℕ
    cs = g.clusters

    -- some joint of the plan is three lines
    pub verdict-angle : angled g.lines (joints cs (plan_of cs)) ≡ true → verdict_of g ≡ Angle
    unfolding list_verdict judged
    verdict-angle e =
        let l = eqb (left (final cs (plan_of cs))) 1 in
        fine-verdict g fine
        ∙ ap (λ (a : Bool). elim (a || ringed g.lines (final cs (plan_of cs)))
        [ true ↦ Angle | false ↦ elim (eqb (length cs + 3) (2 * g.n)) [ true ↦ elim l [ true ↦ Well | false ↦ Stuck ] | false ↦ Under ] ]) e

    -- none is, and no ring runs round
    module _ (none : angled g.lines (joints cs (plan_of cs)) ≡ false) (open-ended : ringed g.lines (final cs (plan_of cs)) ≡ false) where
      -- what the count of constraints and of clusters left decides
      counted : (b : Bool) → eqb (length cs + 3) (2 * g.n) ≡ b
          → verdict_of g ≡ elim b [ true ↦ elim (eqb (left (final cs (plan_of cs))) 1) [ true ↦ Well | false ↦ Stuck ] | false ↦ Under ]
      unfolding list_verdict judged
      counted b e =
          let l = eqb (left (final cs (plan_of cs))) 1 in
          fine-verdict g fine
          ∙ ap (λ (a : Bool). elim a
          [ true ↦ Angle | false ↦ elim (eqb (length cs + 3) (2 * g.n)) [ true ↦ elim l [ true ↦ Well | false ↦ Stuck ] | false ↦ Under ] ]) (ap₂ ◌||◌ none open-ended)
          ∙ ap (λ (a : Bool). elim a [ true ↦ elim l [ true ↦ Well | false ↦ Stuck ] | false ↦ Under ]) e

      -- fewer constraints than 2n-3
      pub verdict-fewer : length cs + 3 ≢ 2 * g.n → verdict_of g ≡ Under
      verdict-fewer ne = counted false (go (eqb (length cs + 3) (2 * g.n)) refl)
        where
          go : (b : Bool) → eqb (length cs + 3) (2 * g.n) ≡ b → eqb (length cs + 3) (2 * g.n) ≡ false
          go true e = absurd (ne (eqb→eq (length cs + 3) (2 * g.n) (subst T (sym e) tt)))
          go false e = e

      -- 2n-3 constraints, and one cluster is left
      pub verdict-one : length cs + 3 ≡ 2 * g.n → left (final cs (plan_of cs)) ≡ 1 → verdict_of g ≡ Well
      verdict-one full one =
          counted true (holds (length cs + 3) (2 * g.n) full)
          ∙ ap (λ (l : Bool). elim l [ true ↦ Well | false ↦ Stuck ]) (holds (left (final cs (plan_of cs))) 1 one)
        where
          holds : (x y : ℕ) → x ≡ y → eqb x y ≡ true
          holds x y e = elim (eqb x y) as (λ (b : Bool). T b → b ≡ true) [ true ↦ λ t. refl | false ↦ λ t. absurd t ] (eq_test x y e)
