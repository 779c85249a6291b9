-- `reader::read_announced` meets its contract: only a given size has bytes. Assumes nothing.
use Rattle.std.specs.Prelude.{◌≡◌}
use Rattle.theory.specs.Prelude.{refl, List, ℕ, ℤ, drop}
use mir.Facts.{to_z-of_z}
use mir.Syntax.{w32}
use Rattle.sheet.specs.declared.PairKind.{PairKind}
use Rattle.sheet.specs.declared.Size.{Size}
use Rattle.sheet.specs.declared.Size.TheVariants.{Given, Missing, Tangent, OtherTangent, Unfit}
use Rattle.sheet.specs.Field.{value}
use Rattle.sheet.specs.Decode.{size}
use Rattle.reader.proofs.read_announced.Goals as goal

no_bytes : (p : PairKind) (z : Size) (t : List ℕ) → ((x : ℤ) → z ≡ Given x → ⊥) → size p z t ≡ value z t
unfolding size
no_bytes p (Given x) t other = absurd (other x refl)
no_bytes p Missing t other = refl
no_bytes p Tangent t other = refl
no_bytes p OtherTangent t other = refl
no_bytes p Unfit t other = refl

pub returns-in-Given : goal.returns-in-Given
unfolding size
returns-in-Given c = rw c.in-Given.is c.read_size.ensures

pub returns-in_default : goal.returns-in_default
returns-in_default c = rw (
  no_bytes c.args.p c.args.z (drop c.args.c.at c.args.s.now) c.in_default.not-Given,
  to_z-of_z {w = w32} {z = c.code_of.result} (record { sfits = c.code_of.type_inv }),
  c.code_of.ensures,
)
