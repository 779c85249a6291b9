-- What a held sketch that is read into arrays says of the fields that are asked of it. Assumes nothing.
use Rattle.std.specs.Prelude.{◌≡◌}
use Rattle.theory.specs.Prelude.{ℕ, zero, suc, refl, sym, ap, ◌∙◌, List, [], ℤ}
use Rattle.theory.specs.Graph.{Graph}
use Rattle.space.specs.Written.{Done}
use Rattle.sheet.specs.declared.Sheet.{Sheet}
use Rattle.sheet.specs.Facts.{Facts, facts_of}
use Rattle.sheet.specs.Field.{Field, value, refused}
use Rattle.sheet.specs.Rules.{sheet_fault}
use Rattle.sheet.specs.Graph.{graph_of, over_fault}
use Rattle.graph.specs.declared.Head.{Head}
use Rattle.graph.specs.declared.Front.{Front}
use Rattle.graph.specs.Lent.{graph_in, head_in, Drawn, SheetIn}
use Rattle.graph.specs.Lent.Sheets.{graph_is, drawn-in}
use Rattle.sketch.specs.Runs.{hold_fault}
use Rattle.held.specs.Held.{held_value, held_count_of, held_items_of}

-- ---- by value

module _ (s : Sheet) where
  pub value-unsound : (sheet_fault s ≡ 0 → ⊥) → held_value s ≡ refused 27
  unfolding held_value hold_fault
  value-unsound n = by (sheet_fault s) refl
    where
      by : (k : ℕ) → sheet_fault s ≡ k → held_value s ≡ refused 27
      by zero e = absurd (n e)
      by (suc k) e = rw e

  module _ (e : sheet_fault s ≡ 0) where
    pub value-over : (over_fault (graph_of (facts_of s)) ≡ 0 → ⊥) → held_value s ≡ refused 27
    unfolding held_value hold_fault
    value-over n = by (over_fault (graph_of (facts_of s))) refl
      where
        by : (k : ℕ) → over_fault (graph_of (facts_of s)) ≡ k → held_value s ≡ refused 27
        by zero o = absurd (n o)
        by (suc k) o = rw (e, o)

    pub value-held : over_fault (graph_of (facts_of s)) ≡ 0 → held_value s ≡ value (facts_of s) []
    unfolding held_value hold_fault
    value-held o = rw (e, o)

-- ---- the graph that stands in head and arrays

module _ {x : Field Facts} {h : Front} {near start radii : List ℕ} {codes : List ℤ} {f : Facts} {t : List ℕ} (reads : x ≡ value f t)
    (a : SheetIn f h near start codes radii) where
  pub count-is : Done h.e ≡ held_count_of x
  count-is = ap Done (ap (λ (k : Head). k.e) a.head_is) ∙ sym (ap held_count_of reads)

  module _ {k : Head} (head_is : k ≡ head_in h) where
    pub head-drawn : Drawn k near start
    head-drawn = rw head_is (drawn-in a)

    pub items-are : (what : Graph → List ℕ) → held_items_of what x ≡ value (what (graph_in k start)) []
    items-are what = rw (reads, head_is) (ap (λ (g : Graph). value (what g) []) (sym (graph_is a)))
