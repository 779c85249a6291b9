-- More dimensions, never a smaller part, of what the entry points answer (document 02, 2026-13): `sheet` Growth and `sketch`
-- Runs/Growth brought to bytes. Assumes nothing.
use Rattle.std.specs.Prelude.{◌≡◌, ◌≢◌, ◌↔◌}
use Rattle.theory.specs.Prelude.{ℕ, refl, sym, ap, ◌∙◌, subst, List, []}
use Rattle.theory.specs.Set.{◌⊑◌}
use Rattle.theory.specs.Constraints.{Among}
use Rattle.theory.specs.Merge.{final, live, slot}
use Rattle.theory.specs.Plan.{plan_of}
use Rattle.theory.specs.Plan.Laws.{plan-of-maximal}
use Rattle.theory.specs.Graph.{verdict_of}
use Rattle.theory.specs.Graph.Laws.{not-over-fine}
use Rattle.theory.specs.Finding.{Finding}
use Rattle.theory.specs.declared.Verdict.TheVariants.{Over}
use Rattle.sheet.specs.Facts.{Facts, sheet_of, facts_of}
use Rattle.sheet.specs.Field.{Field, value}
use Rattle.sheet.specs.Decode.{read_sheet}
use Rattle.sheet.specs.Accepted.{Accepted}
use Rattle.sheet.specs.Accepted.Laws.{facts_of-sheet_of}
use Rattle.sheet.specs.Graph.{graph_of}
use Rattle.sheet.specs.Graph.Laws.{clusters-pairs, fine-fault}
use Rattle.engine.specs.Lists.{living_of}
use Rattle.engine.specs.Lists.Laws.{living-live}
use Rattle.judge.specs.Judged.{finals_by, final_clusters}
use Rattle.sketch.specs.Runs.{Event, after_all}
use Rattle.sketch.specs.Runs.Proof.{sheet-held}
use Rattle.sketch.specs.Runs.Growth.{placed-never-smaller}
use Rattle.sheet.specs.Growth.{Grown, NeverSmaller}
use Rattle.sheet.specs.Growth.Proof.{never-smaller}
use Rattle.pattern.specs.Entries.{items_field}
use Rattle.pattern.specs.Promises.{HeldRuns, GrownTold, PlacedTold}

same-value : {A : Type 0} {a b : A} → ◌≡◌ {A = Field A} (value a []) (value b []) → a ≡ b
same-value e = cc

-- the clusters at the end of the engine's plan
abbrev ends : Facts → List ℕ
ends f = final (graph_of f).clusters (plan_of (graph_of f).clusters)

-- of a sheet that isn't over `clusters` answers those that live there
answered : (bytes rest : List ℕ) (f : Facts) → read_sheet bytes ≡ value f rest → verdict_of (graph_of f) ≢ Over → (finals : List ℕ)
    → items_field final_clusters bytes ≡ value finals [] → (x : ℕ) → Among x finals ↔ live (ends f) x
unfolding final_clusters
answered bytes rest f reads v finals e x =
    let is : items_field final_clusters bytes ≡ value (living_of (ends f)) [] =
    rw reads (ap (λ (o : Finding). value (finals_by (graph_of f) o) []) (not-over-fine (graph_of f) v)) in
    subst (λ (l : List ℕ). Among x l ↔ live (ends f) x) (same-value (sym is ∙ e)) (living-live (ends f) x)

module _ (bytes rest : List ℕ) (f : Facts) (a : Accepted f) (reads : read_sheet bytes ≡ value f rest) where
  pub grown-told : (new left : List ℕ) (g : Facts) → Accepted g → read_sheet new ≡ value g left → Grown f g → verdict_of (graph_of g) ≢ Over
      → GrownTold bytes new f g
  grown-told new left g b reads' w v = record { parts = parts; clusters = clusters }
    where
      parts : NeverSmaller f g
      parts = never-smaller b v w

      clusters : (olds news : List ℕ) → items_field final_clusters bytes ≡ value olds [] → items_field final_clusters new ≡ value news []
          → (x : ℕ) → Among x olds → (y : ℕ) × Among y news × (x ⊑ y) × ((z : ℕ) → Among z news → x ⊑ z → z ≡ y)
      clusters olds news eo en x i =
          let there = answered new left g reads' v news en in
          let (n, is, lives) = (answered bytes rest f reads parts.not_over olds eo x).0 i in
          let m =
          (parts.whole (plan_of (graph_of f).clusters) (plan_of (graph_of g).clusters) (plan-of-maximal _ (clusters-pairs f a.no_fault))
          (plan-of-maximal _ (clusters-pairs g b.no_fault))).inside n (λ z. lives (sym is ∙ z)) in (
            slot (ends g) m.number,
            (there _).1 (m.number, refl, m.lives),
            subst (λ (y : ℕ). y ⊑ slot (ends g) m.number) is m.holds,
            λ z j h. let (k, at, alive) = (there z).0 j in sym at ∙ ap (slot (ends g)) (m.only k (λ e. alive (sym at ∙ e)) (rw (at, is) h)),
          )

  pub placed-told : verdict_of (graph_of f) ≢ Over → HeldRuns bytes f → (events : List Event) → PlacedTold bytes f events
  placed-told v runs events = record {
    by_value = whole;
    lent = λ space long. (facts_of (after_all (sheet_of f) events), (runs.lent_runs space long events).1, whole);
  }
    where
      whole : NeverSmaller f (facts_of (after_all (sheet_of f) events))
      whole =
          subst (λ (x : Facts). NeverSmaller x (facts_of (after_all (sheet_of f) events))) (facts_of-sheet_of f)
          (placed-never-smaller (sheet_of f) (sheet-held f a (fine-fault (graph_of f) (not-over-fine (graph_of f) v))) events)
