-- Reading and writing a sheet (document 01, "The sheet in bytes" and "Refused"; document 02, 2026-11). The definitions are `read_sheet` (Decode),
-- `sheet_bytes` (Encode), `without_tags`, `untagged` (WithoutTags) and `Accepted`; what the reader and the writer answer is said by these, so that the
-- theorems hold of them. Assumes nothing.
use Rattle.std.specs.Prelude.{◌≤◌, ◌≡◌}
use Rattle.theory.specs.Prelude.{ℕ, ◌∙◌, true, List, [], length}
use Rattle.sheet.specs.Facts.{Facts}
use Rattle.sheet.specs.Field.{value, Bytes}
use Rattle.sheet.specs.Decode.{read_sheet}
use Rattle.sheet.specs.Encode.{sheet_bytes}
use Rattle.sheet.specs.WithoutTags.{without_tags, untagged}
use Rattle.sheet.specs.WithoutTags.Laws.{untagged-same}
use Rattle.sheet.specs.Accepted.{Accepted}
use Rattle.sheet.specs.RoundTrip.Written.{sheet-back, sheet-untagged}
use Rattle.sheet.specs.RoundTrip.Read.{sheet_read}
use Rattle.sheet.specs.Accepted.Laws.{accepted-most}
use Rattle.sheet.specs.Rules.Laws.{constraints-most}
use Rattle.sheet.specs.Encode.Laws.{sheet-length}
pub mod Written
pub mod Read

-- reading a written sheet gives its facts
pub read-written : (f : Facts) → Accepted f → read_sheet (sheet_bytes f) ≡ value f []
read-written f h = sheet-back f h

-- a sheet read and written is the same sheet with bit 1 clear and the tag bytes gone; reading leaves no byte, and no rule refuses the facts
pub written_read : (s : List ℕ) (f : Facts) (t : List ℕ) → Bytes s → read_sheet s ≡ value f t → (t ≡ []) × (sheet_bytes f ≡ without_tags s) × Accepted f
written_read s f t h e = let r = sheet_read s h e in (r.spent, r.same, r.accepted)

-- for a sheet without tags, every byte returns
pub untagged-returns : (s : List ℕ) (f : Facts) (t : List ℕ) → Bytes s → read_sheet s ≡ value f t → untagged s ≡ true → sheet_bytes f ≡ s
untagged-returns s f t h e u = (written_read s f t h e).1 ∙ untagged-same s u

-- a written sheet carries no tag
pub written-untagged : (f : Facts) → Accepted f → untagged (sheet_bytes f) ≡ true
written-untagged f h = sheet-untagged f h

-- a sheet says the same without its tags
pub read-without-tags : (s : List ℕ) (f : Facts) (t : List ℕ) → Bytes s → read_sheet s ≡ value f t → read_sheet (without_tags s) ≡ read_sheet s
read-without-tags s f t h e = let r = sheet_read s h e in rw (← r.same, e, r.spent) (read-written f r.accepted)

pub without-tags-again : (s : List ℕ) (f : Facts) (t : List ℕ) → Bytes s → read_sheet s ≡ value f t → without_tags (without_tags s) ≡ without_tags s
without-tags-again s f t h e =
    let r = written_read s f t h e in rw (← r.1) (untagged-same (sheet_bytes f) (written-untagged f r.2))

-- a sheet that is read has at most 2,078 bytes, a written one at most 1,678
pub read-most : (s : List ℕ) (f : Facts) (t : List ℕ) → Bytes s → read_sheet s ≡ value f t → length s ≤ 2078
read-most s f t h e = (sheet_read s h e).most

pub written-most : (f : Facts) → Accepted f → length (sheet_bytes f) ≤ 1678
written-most f h = sheet-length f (accepted-most f h) (constraints-most _ h.constraints_fit)
