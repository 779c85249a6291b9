-- What goes through the graph is the same for a round light and for the sketch of its centres: the verdict, the plan, the final clusters, the over
-- answer, the check of a saved plan and the whole report are each one instance of `answer`. Assumes nothing.
use Rattle.std.specs.Prelude.{◌≡◌}
use Rattle.theory.specs.Prelude.{ℕ, zero, suc, refl, sym, ap, List, []}
use Rattle.theory.specs.Graph.{SizedGraph}
use Rattle.sheet.specs.Facts.{Facts}
use Rattle.sheet.specs.Field.{Field, value, next}
use Rattle.sheet.specs.Decode.{read_sheet}
use Rattle.sheet.specs.Encode.{sheet_bytes}
use Rattle.sheet.specs.Answer.{by_rule}
use Rattle.sheet.specs.Accepted.{Accepted}
use Rattle.sheet.specs.RoundTrip.{read-written}
use Rattle.sheet.specs.Graph.{graph_of, sized_of, over_fault}
use Rattle.sheet.specs.Centres.{centres}
use Rattle.sheet.specs.Centres.Laws.{sized-centres}

-- of facts
pub same_answer : {A : Type 0} (answer : SizedGraph → A) (f : Facts) → answer (sized_of f) ≡ answer (sized_of (centres f))
same_answer answer f = ap answer (sym (sized-centres f))

-- ---- of bytes: two sheets with one sized graph get one answer

-- an accepted sheet, and one that is not over
abbrev pub judged : {A : Type 0} → (SizedGraph → Field A) → List ℕ → Field A
judged answer s = next (read_sheet s) (λ f rest. answer (sized_of f))

abbrev pub held : {A : Type 0} → (SizedGraph → Field A) → List ℕ → Field A
held answer s = next (next (read_sheet s) (λ f rest. by_rule (over_fault (graph_of f)) (value f rest))) (λ f rest. answer (sized_of f))

held_by : {A : Type 0} (answer : SizedGraph → Field A) (k : ℕ) (f g : Facts) (r q : List ℕ) → sized_of f ≡ sized_of g
    → next (by_rule k (value f r)) (λ f rest. answer (sized_of f)) ≡ next (by_rule k (value g q)) (λ f rest. answer (sized_of f))
held_by answer zero f g r q e = ap answer e
held_by answer (suc k) f g r q e = refl

module _ {A : Type 0} (answer : SizedGraph → Field A) (s : List ℕ) (f : Facts) (r : List ℕ) (read : read_sheet s ≡ value f r) where
  module _ (t : List ℕ) (g : Facts) (q : List ℕ) (also : read_sheet t ≡ value g q) (same : sized_of f ≡ sized_of g) where
    pub judged-same : judged answer s ≡ judged answer t
    judged-same = rw (read, also) (ap answer same)

    pub held_same : held answer s ≡ held answer t
    held_same = rw (read, also, ap (λ (x : SizedGraph). over_fault x.graph) same) (held_by answer (over_fault (graph_of g)) f g r q same)

  -- the sheet of its centres
  module _ (accepted : Accepted (centres f)) where
    pub judged-centres : judged answer s ≡ judged answer (sheet_bytes (centres f))
    judged-centres = judged-same (sheet_bytes (centres f)) (centres f) [] (read-written (centres f) accepted) (sym (sized-centres f))

    pub held-centres : held answer s ≡ held answer (sheet_bytes (centres f))
    held-centres = held_same (sheet_bytes (centres f)) (centres f) [] (read-written (centres f) accepted) (sym (sized-centres f))
