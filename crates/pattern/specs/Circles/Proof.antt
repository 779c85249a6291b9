-- The promises of circles hold: every answer goes through the graph, which is that of the centres. Assumes nothing.
use Rattle.std.specs.Prelude.{◌≡◌, ◌∷◌}
use Rattle.theory.specs.Prelude.{ℕ, sym, ap, ◌∙◌, List, [], map, map-append}
use Rattle.theory.specs.Graph.{Graph, SizedGraph, verdict_of}
use Rattle.sheet.specs.declared.Opening.TheVariants.{Pf01}
use Rattle.sheet.specs.declared.Constraint.{Constraint}
use Rattle.sheet.specs.declared.Sheet.{Sheet}
use Rattle.sheet.specs.Facts.{Facts, sheet_of, facts_of}
use Rattle.sheet.specs.Field.{Field, value, next, Bytes}
use Rattle.sheet.specs.Decode.{read_sheet}
use Rattle.sheet.specs.Encode.{sheet_bytes}
use Rattle.sheet.specs.Accepted.{Accepted}
use Rattle.sheet.specs.Accepted.Laws.{facts_of-sheet_of}
use Rattle.sheet.specs.Answer.Laws.{next-rule}
use Rattle.sheet.specs.RoundTrip.{written_read}
use Rattle.sheet.specs.Graph.{graph_of, sized_of, over_fault}
use Rattle.sheet.specs.Centres.{centre_element, centre_constraint, centres}
use Rattle.sheet.specs.Centres.Laws.{graph-centres, sized-centres}
use Rattle.sheet.specs.Centres.Contact.{contacts, derived}
use Rattle.sheet.specs.Centres.Sheet.{centres-accepted}
use Rattle.sheet.specs.Centres.Same.{judged-centres, held-centres}
use Rattle.sheet.specs.First.Laws.{reads-as-before}
use Rattle.sheet.specs.First.Fits.{pf01-rules, pf01-most}
use Rattle.sheet.specs.First.Written.{pf01-writes, pf01-written-most, pf01-sizes}
use Rattle.account.specs.Account.{report_of, saved_field}
use Rattle.part.specs.Part.{cluster_field, lines_field}
use Rattle.steps.specs.Records.{plan_steps, saved_records}
use Rattle.chain.specs.Answer.{asked}
use Rattle.missing.specs.Missing.{cheapest_field}
use Rattle.opens.specs.Opens.{open_field}
use Rattle.sketch.specs.Sketch.{extended, next_fault, as_judged}
use Rattle.sketch.specs.Runs.{Held}
use Rattle.records.specs.Record.Laws.{asked-value}
use Rattle.pattern.specs.Entries.{held_sheet}
use Rattle.pattern.specs.Over.Held.{ask-rule, asked-next, placed-next}
use Rattle.pattern.specs.Circles.{SameGraph, unless_over, Round, taken, judged_by, RoundHeld, Circles}

module _ (bytes rest : List ℕ) (f : Facts) (all : Bytes bytes) (reads : read_sheet bytes ≡ value f rest) where
  abbrev own : sized_of f ≡ sized_of (centres f)
  own = sym (sized-centres f)

  -- what a held sheet's sized graph gives
  held-is : {A : Type 0} (what : SizedGraph → Field A) → next (held_sheet bytes) (λ x t. what (sized_of x))
      ≡ unless_over (graph_of (centres f)) (what (sized_of (centres f)))
  unfolding held_sheet
  held-is what =
      rw reads
      (next-rule (over_fault (graph_of f)) (value f rest) (λ x t. what (sized_of x))
      ∙ ap (λ (g : SizedGraph). unless_over g.graph (what g)) own)

  module _ (ok : Accepted (centres f)) where
    same : SameGraph bytes (sheet_bytes (centres f))
    unfolding held_sheet
    same = record {
      verdict = judged-centres (λ g. value (verdict_of g.graph) []) bytes f rest reads ok;
      items = λ what. judged-centres (λ g. value (what g.graph) []) bytes f rest reads ok;
      report = judged-centres (λ g. value (report_of g) []) bytes f rest reads ok;
      check = λ plan. held-centres (λ g. saved_field g plan) bytes f rest reads ok;
      steps = held-centres (λ g. value (plan_steps g) []) bytes f rest reads ok;
      saved_steps = λ plan. held-centres (λ g. saved_records g plan) bytes f rest reads ok;
      part = λ c. ap lines_field (held-centres (λ g. cluster_field g c) bytes f rest reads ok);
      part_steps = λ c. held-centres (λ g. cluster_field g c) bytes f rest reads ok;
      chain = λ start end. held-centres (λ g. asked g.graph start end) bytes f rest reads ok;
      missing = λ prices. held-centres (λ g. cheapest_field g.graph prices) bytes f rest reads ok;
      open_merges = λ steps. held-centres (λ g. open_field g.graph steps) bytes f rest reads ok;
    }

  light : Round bytes f
  light = record {
    verdict = rw reads (ap (λ (g : SizedGraph). value (verdict_of g.graph) []) own);
    items = λ what. rw reads (ap (λ (g : SizedGraph). value (what g.graph) []) own);
    report = rw reads (ap (λ (g : SizedGraph). value (report_of g) []) own);
    check = λ plan. held-is (λ g. saved_field g plan);
    steps = held-is (λ g. value (plan_steps g) []);
    saved_steps = λ plan. held-is (λ g. saved_records g plan);
    part = λ c. ap lines_field (held-is (λ g. cluster_field g c));
    part_steps = λ c. held-is (λ g. cluster_field g c);
    chain = λ start end. held-is (λ g. asked g.graph start end);
    missing = λ prices. held-is (λ g. cheapest_field g.graph prices);
    open_merges = λ steps. held-is (λ g. open_field g.graph steps);
    sheet = λ small. let ok = centres-accepted f accepted small in (ok, same ok);
    contacts = contacts f.elements;
    derived = derived f accepted;
  }
    where
      accepted : Accepted f
      accepted = (written_read bytes f rest all reads).2

-- ---- a held sketch

-- a constraint that 6 to 9 and 20 take is refused by 11 alone
next_is : (f : Facts) (c : Constraint) → taken f c ≡ 0 → next_fault f c ≡ over_fault (graph_of (extended f c))
unfolding next_fault
next_is f c z = rw z

module _ (s : Sheet) (c : Constraint) (h : Held s) (z : taken (facts_of s) c ≡ 0) where
  abbrev f : Facts
  f = facts_of s

  judged-is : as_judged (next_fault f c) (verdict_of (graph_of (extended f c))) ≡ judged_by (extended f c)
  judged-is =
      ap (λ (k : ℕ). as_judged k (verdict_of (graph_of (extended f c)))) (next_is f c z)
      ∙ ap (λ (g : Graph). as_judged (over_fault g) (verdict_of g)) (sym (graph-centres (extended f c)))

  together : centres (extended f c) ≡ extended (centres f) (centre_constraint f.elements c)
  together =
      ap (λ (l : List Constraint). record {
        opening = Pf01;
        elements = map centre_element f.elements;
        constraints = l;
      })
      (map-append (centre_constraint f.elements) f.constraints (c ∷ []))

  held-round : RoundHeld s c
  held-round = record {
    ask = asked-next s h c ∙ judged-is;
    place = placed-next s h c ∙ judged-is;
    ask_in = λ lent e.
        asked-value lent c e ∙ ap (λ (k : ℕ). as_judged k (verdict_of (graph_of (extended f c)))) (ask-rule s h c)
        ∙ judged-is;
    with_it = together;
    same = λ held y.
        let d = centre_constraint f.elements c in
        let is : facts_of (sheet_of (centres f)) ≡ centres f = facts_of-sheet_of (centres f) in
        asked-next (sheet_of (centres f)) held d
        ∙ ap (λ (x : Facts). as_judged (next_fault x d) (verdict_of (graph_of (extended x d)))) is
        ∙ ap (λ (k : ℕ). as_judged k (verdict_of (graph_of (extended (centres f) d)))) (next_is (centres f) d y)
        ∙ ap (λ (x : Facts). as_judged (over_fault (graph_of x)) (verdict_of (graph_of x))) (sym together)
        ∙ sym (asked-next s h c ∙ judged-is);
  }

pub circles : Circles
circles = record {
  round = light;
  held = λ s c h z. held-round s c h z;
  first_read = reads-as-before;
  first_rules = λ bytes k o. pf01-rules bytes o k;
  first_most = λ bytes rest f o. pf01-most bytes o f rest;
  first_written = λ f a o. (pf01-writes f a o, pf01-written-most f a o, pf01-sizes f a o);
}
