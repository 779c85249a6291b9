-- Every entry point goes through `read_sheet`, so that sheets which read alike are answered alike. Assumes nothing.
use Rattle.std.specs.Prelude.{◌≡◌}
use Rattle.theory.specs.Prelude.{ℕ, sym, List}
use Rattle.sheet.specs.Decode.{read_sheet}
use Rattle.sheet.specs.WithoutTags.{without_tags}
use Rattle.sheet.specs.RoundTrip.{read-without-tags, without-tags-again}
use Rattle.pattern.specs.Entries.{held_sheet}
use Rattle.pattern.specs.Untagged.{SameAnswers, Untagged}

-- sheets that read alike, and that are alike without their tags
same-answers : (a b : List ℕ) → read_sheet a ≡ read_sheet b → without_tags a ≡ without_tags b → SameAnswers a b
unfolding held_sheet
same-answers a b reads same = record {
  read = reads;
  verdict = rw reads;
  items = λ what. rw reads;
  report = rw reads;
  rewrite = rw (reads, same);
  check = λ plan. rw reads;
  steps = rw reads;
  saved_steps = λ plan. rw reads;
  hold = rw reads;
  missing = λ prices. rw reads;
  hold_in = rw reads;
  open_merges = λ steps. rw reads;
  chain = λ start end. rw reads;
  part = λ c. rw reads;
  part_steps = λ c. rw reads;
}

pub untagged : Untagged
untagged = record {
  sheet = λ bytes f rest all e.
      same-answers bytes (without_tags bytes) (sym (read-without-tags bytes f rest all e)) (sym (without-tags-again bytes f rest all e));
}
