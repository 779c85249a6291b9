-- `reader::pass_tag` meets its contract: a tag is twice the bit's bytes, all there or cut. Assumes nothing.
use Rattle.std.specs.Prelude.{◌+◌, ◌*◌, ◌-◌, ◌<◌, ◌≤◌, ◌≡◌}
use Rattle.std.specs.Int.{from_bool}
use Rattle.theory.specs.Prelude.{ℕ, add-zero, arith, Bool, true, false, List, rules, length, drop}
use mir.Facts.{to_z-of_z}
use mir.Syntax.{w32}
use Rattle.sheet.specs.Field.{value, refused}
use Rattle.sheet.specs.Decode.{tag}
use Rattle.elements.specs.Fields.Numbers.{field-short, field-whole}
use Rattle.reader.proofs.pass_tag.Goals as goal

module _ (s : List ℕ) (at : ℕ) where
  cut : (bit : Bool) → length s - at < 2 * from_bool bit → tag bit (drop at s) ≡ refused 2
  unfolding tag
  cut false h = absurd (omega arith)
  cut true h = rw (field-short s at 2 h)

  whole : (bit : Bool) → 2 * from_bool bit ≤ length s - at → tag bit (drop at s) ≡ value tt (drop (at + 2 * from_bool bit) s)
  unfolding tag
  whole false h = rw (add-zero at)
  whole true h = rw (field-whole s at 2 h)

pub returns-then-saturating_sub-width : goal.returns-then-saturating_sub-width
returns-then-saturating_sub-width c = rw (cut c.args.s.now c.args.c.at c.args.bit (omega arith))

pub returns : goal.returns
returns c =
    rw (
      c.from-width.ensures,
      whole c.args.s.now c.args.c.at c.args.bit (omega arith),
      to_z-of_z {w = w32} {z = c.args.z} (search rules),
    )
