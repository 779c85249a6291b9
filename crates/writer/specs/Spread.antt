-- The kinds of a sheet's elements as the code writes them (document 01, "The sheet in bytes"; document 02, 2026-01): up to 64 kinds of two bits make
-- a number of 16 bytes, which goes out as two of eight.
use Rattle.std.specs.Prelude.{◌≡◌}
use Rattle.theory.specs.Prelude.{ℕ, List, take, drop}
use Rattle.sheet.specs.declared.Opening.{Opening}
use Rattle.sheet.specs.declared.Opening.TheVariants.{Pf01, Pf02}
use Rattle.sheet.specs.declared.Element.{Element}
use Rattle.sheet.specs.Facts.{kinds_number}
use Rattle.writer.specs.declared.KindNumbers.{KindNumbers}

abbrev pub kinds_in_eight : Opening → ℕ
kinds_in_eight Pf01 = 64
kinds_in_eight Pf02 = 32

pub record Spread (o : Opening) (es : List Element) (k : KindNumbers) : Type 0 where
  pub low_is : k.low ≡ kinds_number o (take (kinds_in_eight o) es)
  pub high_is : k.high ≡ kinds_number o (drop (kinds_in_eight o) es)
