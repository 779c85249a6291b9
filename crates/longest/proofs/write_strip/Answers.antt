-- `longest::write_strip` meets its contract: the blocks hold the facts of the sheet, which no rule refuses. Assumes nothing.
use Rattle.std.specs.Prelude.{◌*◌, ◌-◌}
use Rattle.theory.specs.Prelude.{refl, ap, ◌∙◌, arith, rules}
use Rattle.space.specs.Space.{answer, after}
use Rattle.sheet.specs.declared.Opening.TheVariants.{Pf01}
use Rattle.sheet.specs.Facts.{Facts}
use Rattle.sheet.specs.Encode.{sheet_bytes}
use Rattle.longest.specs.Longest.{points}
use Rattle.longest.specs.Longest.Block.{facts_are, no_fault}
use Rattle.longest.proofs.write_strip.Goals as goal

pub write_accepted-requires : goal.write_accepted-requires
write_accepted-requires c = no_fault _ (search rules) (search rules) refl refl refl c.strip.ensures

pub returns : goal.returns
returns c =
    let n = c.args.n in
    let e = facts_are (record { opening = Pf01; n = n; e = 2 * n - 3; elements = points 64; constraints = c.strip.result })
    (omega arith) (omega arith) refl refl refl c.strip.ensures in (
      c.write_accepted.ensures.0 ∙ ap (λ (f : Facts). answer (sheet_bytes f) c.args.out.now) e,
      c.write_accepted.ensures.1 ∙ ap (λ (f : Facts). after (sheet_bytes f) c.args.out.now) e,
    )
