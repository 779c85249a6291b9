-- What a sheet that is read into arrays says of the field that it answers. Assumes nothing.
use Rattle.std.specs.Prelude.{◌≤◌, ◌≡◌, Ok}
use Rattle.theory.specs.Prelude.{ℕ, refl, sym, List, ℤ, length, sets}
use Rattle.space.specs.Space.Laws.{put_all, put-after, long-answer}
use Rattle.space.specs.Written.{Done}
use Rattle.space.specs.Space.{answer, after}
use Rattle.sheet.specs.Facts.{Facts}
use Rattle.sheet.specs.Field.{value}
use Rattle.sheet.specs.Decode.{read_sheet}
use Rattle.sheet.specs.Graph.{graph_of, sized_of}
use Rattle.graph.specs.declared.Head.{Head}
use Rattle.graph.specs.declared.Front.{Front}
use Rattle.graph.specs.Lent.{graph_in, sized_in, head_in, SheetIn, Stands, Drawn}
use Rattle.graph.specs.Lent.Sheets.{graph-stands, sized-stands, graph_is, drawn, drawn-in}
use Rattle.reader.specs.Answers.{GraphIs, SheetRead}

-- ---- the graph alone

-- the facts of a sheet that is read, its graph in head and arrays
pub record FactsRead (bytes : List ℕ) (h : Head) (near start : List ℕ) (sizes : List ℤ) : Type 0 where
  pub facts : Facts
  pub rest : List ℕ
  pub reads : read_sheet bytes ≡ value facts rest
  pub stands : Stands facts h near start
  pub drawn_is : Drawn h near start
  pub graph_read : graph_in h start ≡ graph_of facts
  pub sized_read : sized_in h start sizes ≡ sized_of facts

pub facts-read : {bytes : List ℕ} {h : Head} {near start : List ℕ} {sizes : List ℤ} → GraphIs (read_sheet bytes) (Ok h) near start sizes
    → FactsRead bytes h near start sizes
facts-read (f, rest, q, stands, sizes-are) =
    record {
      facts = f;
      rest = rest;
      reads = q;
      stands = stands;
      drawn_is = drawn stands;
      graph_read = graph-stands stands;
      sized_read = sized-stands stands sizes-are;
    }

-- ---- the whole sheet

pub record SheetFound (bytes : List ℕ) (h : Front) (near start : List ℕ) (sizes : List ℤ) (radii : List ℕ) : Type 0 where
  pub facts : Facts
  pub rest : List ℕ
  pub reads : read_sheet bytes ≡ value facts rest
  pub sheet_in : SheetIn facts h near start sizes radii
  pub drawn_is : Drawn (head_in h) near start
  pub graph_read : graph_in (head_in h) start ≡ graph_of facts

pub sheet-found : {bytes : List ℕ} {h : Front} {near start : List ℕ} {sizes : List ℤ} {radii : List ℕ}
    → SheetRead (read_sheet bytes) (Ok h) near start sizes radii → SheetFound bytes h near start sizes radii
sheet-found (f, rest, q, is) = record { facts = f; rest = rest; reads = q; sheet_in = is; drawn_is = drawn-in is; graph_read = graph_is is }

-- items stored from the front of a space that has room for them
pub stored-items : (space xs : List ℕ) → length xs ≤ length space → (Done (length xs) ≡ answer xs space) × (sets space 0 xs ≡ after xs space)
stored-items space xs h = (sym (long-answer xs space h), put-after h (put_all {at = 0} refl refl))
