-- The writer on the blocks of a sheet (document 01, "Refused": the writer tries 3, 5, each constraint by 6 to 9, then 17).
use Rattle.std.specs.Prelude.{ℕ, List, []}
use Rattle.sheet.specs.declared.Sheet.{Sheet}
use Rattle.sheet.specs.Facts.{facts_of}
use Rattle.sheet.specs.Field.{Field, value}
use Rattle.sheet.specs.Rules.{sheet_fault}
use Rattle.sheet.specs.Encode.{sheet_bytes}
use Rattle.sheet.specs.Answer.{by_rule}

abbrev pub write_field : Sheet → Field (List ℕ)
write_field s = by_rule (sheet_fault s) (value (sheet_bytes (facts_of s)) [])
