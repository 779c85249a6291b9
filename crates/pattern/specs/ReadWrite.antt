-- Reading and writing, of what is called (demand 2). Document 01: "reading a written sheet gives its facts, writing an
-- accepted sheet's facts gives its bytes"; document 02, 2026-11: a sheet with tags, once read and written, is the same
-- sheet with bit 1 clear and the tag bytes gone.
use Rattle.std.specs.Prelude.{◌≡◌, Ok}
use Rattle.theory.specs.Prelude.{ℕ, true, List, [], length}
use Rattle.sheet.specs.declared.Sheet.{Sheet}
use Rattle.sheet.specs.Facts.{Facts, facts_of}
use Rattle.sheet.specs.Field.{value, Bytes}
use Rattle.sheet.specs.Decode.{read_sheet}
use Rattle.sheet.specs.WithoutTags.{without_tags, untagged}
use Rattle.reader.specs.Answers.{as_reading}
use Rattle.writer.specs.Write.{write_field}
use Rattle.pattern.specs.Entries.{rewrite_field}
pub mod Proof

-- what `write` gives of the blocks of a sheet
pub record Written (s : Sheet) (bytes : List ℕ) : Type 0 where
  -- it is read as those facts
  pub reads : read_sheet bytes ≡ value (facts_of s) []
  -- it carries no tag
  pub none : untagged bytes ≡ true

-- what `read` gives of accepted bytes, written again
pub record Returned (bytes : List ℕ) : Type 0 where
  pub sheet : Sheet
  pub is_read : as_reading (read_sheet bytes) ≡ Ok sheet
  pub written : write_field sheet ≡ value (without_tags bytes) []
  -- as `rewrite` gives it
  pub rewritten : rewrite_field bytes ≡ value (without_tags bytes) []
  -- without tags, every byte as before
  pub same : untagged bytes ≡ true → write_field sheet ≡ value bytes []

pub record ReadWrite : Type 0 where
  pub written : (s : Sheet) (bytes rest : List ℕ) → length s.elements ≡ 64 → length s.constraints ≡ 200
      → write_field s ≡ value bytes rest → Written s bytes
  pub returned : (bytes rest : List ℕ) (f : Facts) → Bytes bytes → read_sheet bytes ≡ value f rest → Returned bytes
