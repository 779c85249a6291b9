-- The promises of reading and writing hold. Assumes nothing.
use Rattle.std.specs.Prelude.{◌≡◌}
use Rattle.theory.specs.Prelude.{ℕ, zero, suc, refl, ap, ◌∙◌, List, [], length}
use Rattle.sheet.specs.declared.Sheet.{Sheet}
use Rattle.sheet.specs.Facts.{Facts, sheet_of, facts_of}
use Rattle.sheet.specs.Field.{value, Bytes}
use Rattle.sheet.specs.Field.Laws.{refused-value, value-with}
use Rattle.sheet.specs.Rules.{sheet_fault}
use Rattle.sheet.specs.Decode.{read_sheet}
use Rattle.sheet.specs.Encode.{sheet_bytes}
use Rattle.sheet.specs.WithoutTags.Laws.{untagged-same}
use Rattle.sheet.specs.Accepted.Laws.{facts_of-accepted, facts_of-sheet_of, sheet_of-fault}
use Rattle.sheet.specs.Answer.{by_rule}
use Rattle.sheet.specs.RoundTrip.{read-written, written_read, written-untagged}
use Rattle.writer.specs.Write.{write_field}
use Rattle.pattern.specs.ReadWrite.{Written, Returned, ReadWrite}

written : (s : Sheet) (bytes rest : List ℕ) → length s.elements ≡ 64 → length s.constraints ≡ 200
    → write_field s ≡ value bytes rest → Written s bytes
written s bytes rest elements constraints e = by (sheet_fault s) refl e
  where
    by : (k : ℕ) → sheet_fault s ≡ k → by_rule k (value (sheet_bytes (facts_of s)) []) ≡ value bytes rest → Written s bytes
    by zero z q =
        let a = facts_of-accepted s elements constraints z in
        value-with (λ b t. Written s b) q
        (record { reads = read-written (facts_of s) a; none = written-untagged (facts_of s) a })
    by (suc k) z q = refused-value q

module _ (bytes rest : List ℕ) (f : Facts) (all : Bytes bytes) (reads : read_sheet bytes ≡ value f rest) where
  facts-written : write_field (sheet_of f) ≡ value (sheet_bytes f) []
  facts-written = rw (sheet_of-fault f (written_read bytes f rest all reads).2, facts_of-sheet_of f)

  returned : Returned bytes
  returned =
      let w = facts-written ∙ ap (λ (b : List ℕ). value b []) (written_read bytes f rest all reads).1 in
      record {
        sheet = sheet_of f;
        is_read = rw reads;
        written = w;
        rewritten = rw reads;
        same = λ u. w ∙ ap (λ (b : List ℕ). value b []) (untagged-same bytes u);
      }

pub read-write : ReadWrite
read-write = record { written = written; returned = returned }
