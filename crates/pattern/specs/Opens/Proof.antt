-- The promises of the open merges hold. Assumes nothing.
use Rattle.std.specs.Prelude.{◌≤◌, ◌≡◌}
use Rattle.theory.specs.Prelude.{ℕ, arith, ap, List, length}
use Rattle.sheet.specs.Facts.{Facts}
use Rattle.sheet.specs.Field.{Field, value, next, Bytes}
use Rattle.sheet.specs.Field.Laws.{next-value}
use Rattle.sheet.specs.Graph.{graph_of}
use Rattle.sheet.specs.Graph.Laws.{fault-none}
use Rattle.graph.specs.Lent.Sheets.{accepted-sound, found-fine}
use Rattle.merges.specs.Run.{flat}
use Rattle.merges.specs.Run.Laws.{length-flat}
use Rattle.opens.specs.Opens.{open_after, open_field}
use Rattle.opens.specs.Shown.{Shown}
use Rattle.opens.specs.Shown.Proof as shown
use Rattle.pattern.specs.Entries.{held_sheet, open_merges_field}
use Rattle.pattern.specs.Entries.Sketches.{held-accepted}
use Rattle.pattern.specs.Opens.{Opens}

known : (bytes rest : List ℕ) (f : Facts) (steps : ℕ) → Bytes bytes → held_sheet bytes ≡ value f rest → Shown (graph_of f) steps
known bytes rest f steps all e =
    let (h, o) = held-accepted bytes f rest all e in
    let sound = accepted-sound f h in
    shown.shown (graph_of f) sound (found-fine sound (fault-none (graph_of f) o)) steps

-- 62 merges at most
pub open-short : (bytes : List ℕ) (steps : ℕ) {items rest : List ℕ} → Bytes bytes → open_merges_field bytes steps ≡ value items rest
    → length items ≤ 186
open-short bytes steps {items} {rest} all e =
    next-value (held_sheet bytes) _ e (λ f t was e1.
    let same : flat (open_after (graph_of f) steps) ≡ items = cc in
    let h = (held-accepted bytes f t all was).0 in
    omega (
      arith,
      (known bytes t f steps all was).most,
      (accepted-sound f h).most,
      length-flat (open_after (graph_of f) steps),
      ap length same,
    ))

pub opens : Opens
opens = record {
  taken = λ bytes rest f steps e. ap (λ (x : Field Facts). next x (λ y r. open_field (graph_of y) steps)) e;
  shown = known;
}
