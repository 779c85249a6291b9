-- A list of merges in arrays: how many steps it has, and its own verdict from what they hold. Assumes nothing.
use Rattle.std.specs.Prelude.{◌+◌, ◌*◌, ◌≤◌, ◌≡◌}
use Rattle.theory.specs.Prelude.{ℕ, arith, sym, ap, ◌∙◌, List, [], length, take}
use Rattle.theory.specs.Block.{block}
use Rattle.theory.specs.Block.Laws.{length-block, take-block}
use Rattle.theory.specs.Constraints.{Pairs, NotOver}
use Rattle.theory.specs.Merge.{final, joints, left}
use Rattle.theory.specs.Merge.Count.{steps-left}
use Rattle.theory.specs.Verdict.{judged}
use Rattle.theory.specs.declared.Verdict.{Verdict}
use Rattle.theory.specs.Graph.{Graph, list_verdict}
use Rattle.graph.specs.declared.Head.{Head}
use Rattle.merges.specs.Run.{Run, flat, run_of, run_in, Blank, Start, Merged}
use Rattle.merges.specs.Run.Laws.{length-joints, length-final}
use Rattle.graph.specs.Lent.{Drawn}
use Rattle.graph.specs.Lent.Sheets.{counted, fine-few}

-- where the merging begins
pub starts : {h : Head} {near start : List ℕ} → Drawn h near start → h.e ≤ 125 → Start start h.e
starts d few = record { few = few; count = counted d; pairs = d.sound.simple.pairs }

pub fine-starts : {h : Head} {near start : List ℕ} → Drawn h near start → NotOver (take h.e start) → Start start h.e
fine-starts d fine = starts d (omega (arith, fine-few d.sound fine, counted d))

-- no merge: the constraints stand in the slots, and all else is blank
pub laid : (cs : List ℕ) {slots₀ parts held slots : List ℕ} → Blank slots₀ parts held → slots ≡ block 192 0 cs → run_in 0 parts held slots ≡ run_of cs []
unfolding run_of flat joints
laid cs blank is = rw (blank.parts_blank, blank.joints_blank, is)

module _ (cs : List ℕ) (paired : Pairs cs) {run : Run} (m : Merged cs run) where
  pub steps_are : left (final cs m.p) + 2 * run.steps ≡ length cs
  unfolding run_of
  steps_are = omega (arith, steps-left cs paired m.p m.valid, ap (λ (r : Run). r.steps) m.is)

  -- two clusters fewer at each step
  pub steps-few : 2 * run.steps ≤ length cs
  steps-few = omega (arith, steps_are)

  -- the places of its arrays
  pub arrays-long : length cs ≤ 125 → (length run.joints ≡ 64) × (length run.slots ≡ 192)
  unfolding run_of
  arrays-long few =
      let count = ap (λ (r : Run). r.steps) m.is in (
        ap (λ (r : Run). length r.joints) m.is
            ∙ length-block 64 0 (joints cs m.p) (omega (arith, length-joints m.p cs, steps-few, few, count)),
        ap (λ (r : Run). length r.slots) m.is
            ∙ length-block 192 0 (final cs m.p) (omega (arith, length-final m.p cs, steps-few, few, count)),
      )

  pub finals_are : {e : ℕ} → length cs ≡ e → take (e + run.steps) run.slots ≡ final cs m.p
  unfolding run_of
  finals_are {e} count =
      let steps-is = ap (λ (r : Run). r.steps) m.is in
      ap (λ (r : Run). take (e + run.steps) r.slots) m.is
      ∙ take-block 192 0 (final cs m.p) (e + run.steps) (omega (arith, length-final m.p cs, count, steps-is))

-- the verdict is that of the joints and final clusters in a run's arrays
abbrev pub Settled : Head → Run → Verdict → Type 0
Settled h run v = (finals : List ℕ) → take (h.e + run.steps) run.slots ≡ finals → left finals + 2 * run.steps ≡ h.e
    → v ≡ judged h.lines h.n h.e (take run.steps run.joints) finals

pub listed-verdict : (g : Graph) → Pairs g.clusters → {run : Run} (m : Merged g.clusters run) {h : Head} {v : Verdict}
    → g.n ≡ h.n → g.lines ≡ h.lines → length g.clusters ≡ h.e → Settled h run v → v ≡ list_verdict g m.p
unfolding run_of list_verdict
listed-verdict g paired m n lines e is =
    let cs = g.clusters in
    is (final cs m.p) (finals_are cs paired m e) (steps_are cs paired m ∙ e)
    ∙ rw (m.is, ← lines, ← n, ← e, take-block 64 0 (joints cs m.p) (length m.p) (sym (length-joints m.p cs)))
