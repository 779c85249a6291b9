-- `core_of` meets its contract. Assumes nothing.
use Rattle.std.specs.Prelude.{◌≡◌}
use Rattle.theory.specs.Prelude.{ap, ◌∙◌, min, arith}
use Rattle.theory.specs.Set.{full}
use Rattle.peeling.specs.Core.{Peeled}
use Rattle.peeling.specs.Core.Peeling.{peeled-start, core-peeled, peeled-largest}
use Rattle.peeling.proofs.core_of.Goals as goal

pub returns : goal.returns
returns c =
    let near = c.args.near.now in
    let n = c.used in
    let most : min n.result 64 ≡ n.result = omega (arith, n.ensures.0) in
    let start : Peeled near c.below-all.result = rw (c.below-all.ensures ∙ ap full most) (peeled-start near n.result n.ensures.0 n.ensures.1) in
    let p = (c.peel.ensures.0 near (record { shows = λ x y i j k. k }) start).0 in
    let u = c.peel.result in (
      p,
      λ cs simple is_near. (
        core-peeled cs near simple is_near u p,
        peeled-largest cs near simple is_near u p (λ m. c.peel.ensures.1 m c.light_of.ensures.1),
      ),
    )
