-- `sheet::check_constraint` meets its contract: the rules in their order, the kinds of the ends by sets and radii. Assumes nothing.
use Rattle.std.specs.Prelude.{◌<◌, ◌≤◌, ◌≡◌}
use Rattle.theory.specs.Prelude.{arith, sym, ◌∙◌, true, ℕ}
use Rattle.sheet.specs.Facts.Laws.{kind-in}
use Rattle.sheet.specs.Rules.{ends_ascend, constraint_fault}
use Rattle.sheet.specs.Rules.Laws.{ends-true}
use Rattle.sheet.proofs.check_constraint.Goals as goal

-- ends that ascend stand below 64
below : (n a b : ℕ) → n ≤ 64 → ends_ascend n a b ≡ true → (a < b) × (b < 64)
below n a b few e = let h = ends-true n a b e in (h.0, omega arith)

pub returns-then-not-ends_ascend : goal.returns-then-not-ends_ascend
unfolding constraint_fault
returns-then-not-ends_ascend c = λ es cs en ks h. rw (rw en at (sym c.ends_ascend.ensures ∙ c.if-not-ends_ascend.true))

pub pair_stands-requires : goal.pair_stands-requires
pair_stands-requires c = below _ _ _ c.requires (sym c.ends_ascend.ensures ∙ c.if-not-ends_ascend.false)

pub returns-then-pair_stands : goal.returns-then-pair_stands
unfolding constraint_fault
returns-then-pair_stands c =
    let fine : ends_ascend c.args.n c.args.c.first c.args.c.second ≡ true = sym c.ends_ascend.ensures ∙ c.if-not-ends_ascend.false in
    λ es cs en ks h. rw (rw en at fine, sym (c.pair_stands.ensures cs h) ∙ c.if-pair_stands.true)

pub kind_at-requires : goal.kind_at-requires
kind_at-requires c =
    let both = below c.args.n c.args.c.first c.args.c.second c.requires (sym c.ends_ascend.ensures ∙ c.if-not-ends_ascend.false) in
    omega arith

pub kind_at-requires-2 : goal.kind_at-requires-2
kind_at-requires-2 c =
    let both = below c.args.n c.args.c.first c.args.c.second c.requires (sym c.ends_ascend.ensures ∙ c.if-not-ends_ascend.false) in
    omega arith

pub returns : goal.returns
unfolding constraint_fault
returns c =
    let fine : ends_ascend c.args.n c.args.c.first c.args.c.second ≡ true = sym c.ends_ascend.ensures ∙ c.if-not-ends_ascend.false in
    λ es cs en ks h.
    let k = c.args.c in
    c.check_size.ensures
    ∙ rw (
      c.kind_at-2.ensures,
      c.kind_at.ensures,
      kind-in ks k.first,
      kind-in ks k.second,
      rw en at fine,
      sym (c.pair_stands.ensures cs h) ∙ c.if-pair_stands.false,
    )
