-- `engine::rings::strip_lines` meets its contract: the clusters are taken from the last to the first, as the definition goes. Assumes nothing.
use Rattle.std.specs.Prelude.{◌≡◌, ◌∷◌, ◌++◌, ◌+◌, ◌-◌}
use Rattle.std.proofs.Math.Seq.{get_or-append_seam}
use Rattle.std.proofs.lemmas.Nat.{or_comm}
use Rattle.theory.specs.Prelude.{sym, ap, ap₂, ◌∙◌, List, [], ℕ, arith, bit_and, bit_or, length, length-append, get_or, append_assoc, append-nil}
use Rattle.theory.specs.Ring.{linked}
use Rattle.engine.specs.Turns.{Swept}
use Rattle.engine.specs.Turns.Laws.{sweep-start, sweep, sweep-end}
use Rattle.engine.proofs.rings.strip_lines.Goals as goal

-- x was the last that was left
module _ (l : ℕ) (s left rest passed : List ℕ) (x : ℕ) (last : left ≡ rest ++ x ∷ []) (split : s ≡ left ++ passed) where
  split_last : s ≡ rest ++ (x ∷ passed)
  split_last = split ∙ ap (λ (l : List ℕ). l ++ passed) last ∙ append_assoc rest (x ∷ []) passed

  swept_last : {some two m : ℕ} → Swept l s (length left) some two → m ≡ linked l x
      → Swept l s (length rest) (bit_or some m) (bit_or two (bit_and m some))
  swept_last {some} {two} {m} w e =
      let long : length left ≡ length rest + 1 = ap length last ∙ length-append rest (x ∷ []) in
      let before : length rest ≡ length left - 1 = omega (arith, long) in
      let here : get_or s (length left - 1) 0 ≡ x =
      ap₂ (λ (t : List ℕ) (i : ℕ). get_or t i 0) split_last (sym before) ∙ get_or-append_seam rest x passed 0 in
      rw (before, or_comm some m, or_comm two (bit_and m some))
      (sweep l s (length left) some two w (omega (arith, long)) (e ∙ ap (linked l) (sym here)))

pub loop-cluster-init : goal.loop-cluster-init
loop-cluster-init c =
    let all : c.into_iter-cluster-iterator.result.iter.rest.now ≡ c.args.clusters.now = cc in
    record { can_next = tt; is_finite = tt; split = ([], sym all ∙ sym (append-nil _)); swept = rw all (sweep-start c.args.l c.args.clusters.now) }

pub loop-cluster-preserved : goal.loop-cluster-preserved
loop-cluster-preserved c =
    let w = c.loop-cluster.invariant in
    let (passed, split) = w.split in
    let last = c.in-Some.ensures.steps in
    record {
      can_next = tt;
      is_finite = tt;
      split = (c.in-Some.cluster.now ∷ passed, split_last c.args.l _ _ _ passed _ last split);
      swept = swept_last c.args.l _ _ _ passed _ last split w.swept c.linked-m.ensures;
    }

pub returns : goal.returns
returns c = let l = c.loop-cluster in sweep-end _ _ _ l.once l.twice l.invariant.swept (omega (arith, c.in-None.ensures.steps))
