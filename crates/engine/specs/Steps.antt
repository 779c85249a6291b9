-- The steps of a list of merges, from what the arrays hold. Assumes nothing.
use Rattle.std.specs.Prelude.{◌≡◌, true, false, ◌&&◌, List, [], ◌∷◌, ℕ, zero, suc, ◌+◌, ◌*◌, ◌≤◌, ◌<◌, ltb, ℤ, pos, length, get_or}
use Rattle.theory.specs.Merge.{Merge, merge, slot}
use Rattle.theory.specs.Placement.{placed, joint_kind}
use Rattle.theory.specs.declared.JointKind.{JointKind}
use Rattle.theory.specs.declared.JointKind.TheVariants.{Ppp}
use Rattle.theory.specs.declared.Ways.{Ways}
use Rattle.theory.specs.declared.Ways.TheVariants.{Unknown}
use Rattle.theory.specs.declared.Step.{Step}
pub mod Laws

-- the placements of a step m of the given kind, from the initial clusters
unfoldable pub ways_by : ℕ → JointKind → ℕ → List ℤ → List ℕ → Merge → Ways
ways_by lines kind e sizes cs m =
    elim (ltb m.i e && (ltb m.j e && ltb m.k e)) [
      | true ↦ placed lines kind (slot cs m.i) (slot cs m.j) (get_or sizes m.i (pos 0)) (get_or sizes m.j (pos 0)) (get_or sizes m.k (pos 0))
      | false ↦ Unknown
    ]

-- step t, from the parts and joints of a list of merges; the first makes cluster `made`
unfoldable pub step_from : ℕ → ℕ → List ℤ → List ℕ → ℕ → List ℕ → List ℕ → ℕ → Step
step_from lines e sizes cs made parts joints t = record {
  made = made + t;
  i = get_or parts (3 * t) 0;
  j = get_or parts (3 * t + 1) 0;
  k = get_or parts (3 * t + 2) 0;
  joint = get_or joints t 0;
  kind = joint_kind lines (get_or joints t 0);
  ways =
      ways_by lines (joint_kind lines (get_or joints t 0)) e sizes cs
      (merge (get_or parts (3 * t) 0) (get_or parts (3 * t + 1) 0) (get_or parts (3 * t + 2) 0));
}

abbrev pub step_at : ℕ → ℕ → List ℤ → List ℕ → List ℕ → List ℕ → ℕ → Step
step_at lines e sizes cs parts joints t = step_from lines e sizes cs e parts joints t

-- those of k steps, from t on
unfoldable pub steps_for : (ℕ → Step) → ℕ → ℕ → List Step
steps_for at t zero = []
steps_for at t (suc k) = at t ∷ steps_for at (suc t) k

-- the steps in the arrays
abbrev pub steps_in : ℕ → ℕ → List ℤ → List ℕ → List ℕ → List ℕ → ℕ → List Step
steps_in lines e sizes cs parts joints count = steps_for (step_at lines e sizes cs parts joints) 0 count

abbrev pub blank_step : Step
blank_step = record { made = 0; i = 0; j = 0; k = 0; joint = 0; kind = Ppp; ways = Unknown }

-- the steps in the arrays, blank beyond them
pub record Stepped (lines e : ℕ) (sizes : List ℤ) (cs parts joints : List ℕ) (count : ℕ) (steps : List Step) : Type 0 where
  pub long : length steps ≡ 62
  pub each : (t : ℕ) → t < count → get_or steps t blank_step ≡ step_at lines e sizes cs parts joints t
  pub blank : (t : ℕ) → count ≤ t → get_or steps t blank_step ≡ blank_step
