-- The promises of every order hold: demand 3 is brought to the answers of two sheets whose constraints stand in
-- different orders. Assumes nothing.
use Rattle.std.specs.Prelude.{◌≡◌, ◌≢◌}
use Rattle.theory.specs.Prelude.{ℕ, zero, suc, refl, sym, ap, ◌∙◌, Iff-trans, Iff-symm, List, [], length}
use Rattle.theory.specs.Prelude.{length-map}
use Rattle.theory.specs.Constraints.{Perm}
use Rattle.theory.specs.Merge.{Merge, Maximal, final, joints}
use Rattle.theory.specs.Plan.{plan_of}
use Rattle.theory.specs.Plan.Laws.{plan-of-maximal}
use Rattle.theory.specs.Graph.{Graph, SizedGraph, verdict_of, steps_of}
use Rattle.theory.specs.Graph.Laws.{not-over-fine, length-steps, joints-steps}
use Rattle.theory.specs.Graph.Short.{joint_three}
use Rattle.theory.specs.Demand.{Agree}
use Rattle.theory.specs.declared.Step.{Step}
use Rattle.theory.specs.declared.Verdict.{Verdict}
use Rattle.theory.specs.declared.Verdict.TheVariants.{Over}
use Rattle.sheet.specs.declared.Constraint.{Constraint}
use Rattle.sheet.specs.Facts.{Facts}
use Rattle.sheet.specs.Field.{Field, value, next, Bytes}
use Rattle.sheet.specs.Field.Laws.{refused-value}
use Rattle.sheet.specs.Decode.{read_sheet}
use Rattle.sheet.specs.Accepted.{Accepted}
use Rattle.sheet.specs.Answer.{by_rule}
use Rattle.sheet.specs.RoundTrip.{written_read}
use Rattle.sheet.specs.Graph.{graph_of, sized_of, reordered}
use Rattle.sheet.specs.Graph.Laws.{clusters-pairs, sheet-demand3, fine-fault}
use Rattle.engine.specs.Lists.{living_of}
use Rattle.engine.specs.Lists.Laws.{living-live, living-count}
use Rattle.merges.specs.Run.{flat}
use Rattle.judge.specs.Judged.{plan_numbers, final_clusters}
use Rattle.plans.specs.Check.{saved_steps_of, plan_fault}
use Rattle.plans.specs.Check.Laws.{whole-saved, accepted-maximal}
use Rattle.steps.specs.Records.{plan_steps, saved_records}
use Rattle.account.specs.Account.{list_report, report_of, saved_fault}
use Rattle.account.specs.Own.{EngineList}
use Rattle.account.specs.Own.Proof.{own-lists}
use Rattle.pattern.specs.Entries.{items_field, report_field, held_sheet, check_field, steps_field, saved_steps_field}
use Rattle.pattern.specs.Entries.Sketches.{check-saved}
use Rattle.pattern.specs.Orders.{in_order, Both, SameSets, SameSteps, SameAnyOrder, InOrders}
use Rattle.pattern.specs.Orders.Read.{own-order, read-in-order}

-- ---- a sheet that is read and isn't over

module _ (bytes : List ℕ) (f : Facts) (rest : List ℕ) (reads : read_sheet bytes ≡ value f rest) where
  items-are : (what : Graph → List ℕ) → items_field what bytes ≡ value (what (graph_of f)) []
  items-are what = rw reads refl

  report_is : report_field bytes ≡ value (report_of (sized_of f)) []
  report_is = rw reads refl

  module _ (v : verdict_of (graph_of f) ≢ Over) where
    held-is : held_sheet bytes ≡ value f rest
    unfolding held_sheet
    held-is = rw (reads, fine-fault (graph_of f) (not-over-fine (graph_of f) v))

    steps_are : steps_field bytes ≡ value (steps_of (sized_of f) (plan_of (graph_of f).clusters)) []
    unfolding plan_steps
    steps_are = ap (λ (x : Field Facts). next x (λ h t. value (plan_steps (sized_of h)) [])) held-is

    saved-are : (plan : List ℕ) → saved_steps_field bytes plan ≡ saved_records (sized_of f) plan
    saved-are plan = ap (λ (x : Field Facts). next x (λ h t. saved_records (sized_of h) plan)) held-is

-- the steps of two lists of merges that come to the same
same-steps : (g h : SizedGraph) (p q : List Merge) → Agree g.graph h.graph p q → SameSteps (steps_of g p) (steps_of h q)
same-steps g h p q a =
    rw (joints-steps g g.graph.clusters p, joints-steps h h.graph.clusters q)
    (a.same_joints, joints-long g p ∙ a.steps ∙ sym (joints-long h q))
  where
    joints-long : (g : SizedGraph) (p : List Merge) → length (joints g.graph.clusters p) ≡ length p
    joints-long g p =
        ap length (sym (joints-steps g g.graph.clusters p)) ∙ length-map (steps_of g p) (λ (s : Step). s.joint)
        ∙ length-steps g g.graph.clusters p

-- ---- two orders

module _ (bytes new : List ℕ) (f : Facts) (rest : List ℕ) (a : Accepted f) (reads : read_sheet bytes ≡ value f rest)
    (ds : List Constraint)
    (perm : Perm f.constraints ds) (reads' : read_sheet new ≡ value (reordered f ds) [])
    (v : verdict_of (graph_of f) ≢ Over) where
  abbrev g : Graph
  g = graph_of f

  abbrev h : Graph
  h = graph_of (reordered f ds)

  -- with the sizes
  abbrev gs : SizedGraph
  gs = sized_of f

  abbrev hs : SizedGraph
  hs = sized_of (reordered f ds)

  other : Accepted (reordered f ds) × (verdict_of h ≢ Over)
  other = (sheet-demand3 f a v).orders ds perm

  lists : (p q : List Merge) → Maximal g.clusters p → Maximal h.clusters q → Agree g h p q
  lists = (sheet-demand3 f a v).every ds perm

  one_list : EngineList gs
  one_list = (own-lists f a).engine v

  other-list : EngineList hs
  other-list = (own-lists (reordered f ds) other.0).engine other.1

  agree : Agree g h one_list.p other-list.p
  agree = lists one_list.p other-list.p one_list.maximal other-list.maximal

  own-plan : Maximal g.clusters (plan_of g.clusters)
  own-plan = plan-of-maximal g.clusters (clusters-pairs f a.no_fault)

  clusters-same : SameSets (living_of (final g.clusters one_list.p))
      (living_of (final h.clusters other-list.p))
  clusters-same = (
    λ x.
        Iff-trans (living-live (final g.clusters one_list.p) x)
        (Iff-trans (agree.finals x) (Iff-symm (living-live (final h.clusters other-list.p) x))),
    living-count (final g.clusters one_list.p) ∙ agree.lefts
        ∙ sym (living-count (final h.clusters other-list.p)),
  )

  saved : (plan told : List ℕ) → check_field new plan ≡ value told []
      → (told ≡ list_report hs (saved_steps_of plan)) × Agree g h (plan_of g.clusters) (saved_steps_of plan)
  saved plan told e = by (saved_fault h plan) refl (sym (check-saved new plan (reordered f ds) [] reads') ∙ e)
    where
      by : (k : ℕ) → saved_fault h plan ≡ k → by_rule k (value (list_report hs (saved_steps_of plan)) []) ≡ value told []
          → (told ≡ list_report hs (saved_steps_of plan)) × Agree g h (plan_of g.clusters) (saved_steps_of plan)
      by zero z q =
          let m = ((own-lists (reordered f ds) other.0).saved plan).accepted.0 z in
          (cc, lists (plan_of g.clusters) (saved_steps_of plan) own-plan m.2)
      by (suc k) z q = refused-value q

  saved_steps : (plan : List ℕ) (steps : List Step) → saved_steps_field new plan ≡ value steps []
      → Both (steps_field bytes) (saved_steps_field new plan) SameSteps
  saved_steps plan steps e = by (plan_fault h.clusters plan) refl
      (sym (saved-are new (reordered f ds) [] reads' other.1 plan) ∙ e)
    where
      by : (k : ℕ) → plan_fault h.clusters plan ≡ k
          → by_rule k (value (steps_of hs (saved_steps_of plan)) []) ≡ value steps []
          → Both (steps_field bytes) (saved_steps_field new plan) SameSteps
      by zero z q = record {
        one = steps_of gs (plan_of g.clusters);
        other = steps_of hs (saved_steps_of plan);
        one_is = steps_are bytes f rest reads v;
        other_is = saved-are new (reordered f ds) [] reads' other.1 plan
            ∙ ap (λ (k : ℕ). by_rule k (value (steps_of hs (saved_steps_of plan)) [])) z;
        alike =
            same-steps gs hs (plan_of g.clusters) (saved_steps_of plan)
            (lists (plan_of g.clusters) (saved_steps_of plan) own-plan ((accepted-maximal h.clusters plan).0 z).1);
      }
      by (suc k) z q = refused-value q

  same-any-order : SameAnyOrder bytes new gs hs
  same-any-order = record {
    not_over = other.1;
    verdict =
        rw (reads, reads') (ap (λ (w : Verdict). value w [])
        (other-list.verdict ∙ sym agree.verdicts ∙ sym one_list.verdict));
    clusters = record {
      one = living_of (final g.clusters one_list.p);
      other = living_of (final h.clusters other-list.p);
      one_is = items-are bytes f rest reads final_clusters ∙ ap (λ (x : List ℕ). value x []) one_list.clusters;
      other_is = items-are new (reordered f ds) [] reads' final_clusters
          ∙ ap (λ (x : List ℕ). value x []) other-list.clusters;
      alike = clusters-same;
    };
    plan = record {
      one = flat one_list.p;
      other = flat other-list.p;
      one_is = items-are bytes f rest reads plan_numbers ∙ ap (λ (x : List ℕ). value x []) one_list.plan;
      other_is = items-are new (reordered f ds) [] reads' plan_numbers
          ∙ ap (λ (x : List ℕ). value x []) other-list.plan;
      alike = rw (whole-saved one_list.p, whole-saved other-list.p) agree;
    };
    report = record {
      one = list_report gs one_list.p;
      other = list_report hs other-list.p;
      one_is = report_is bytes f rest reads ∙ ap (λ (x : List ℕ). value x []) one_list.report;
      other_is = report_is new (reordered f ds) [] reads'
          ∙ ap (λ (x : List ℕ). value x []) other-list.report;
      alike = record { p = one_list.p; q = other-list.p; told_is = refl; also_is = refl; agree = agree };
    };
    steps = record {
      one = steps_of gs (plan_of g.clusters);
      other = steps_of hs (plan_of h.clusters);
      one_is = steps_are bytes f rest reads v;
      other_is = steps_are new (reordered f ds) [] reads' other.1;
      alike =
          same-steps gs hs (plan_of g.clusters) (plan_of h.clusters)
          (lists (plan_of g.clusters) (plan_of h.clusters) own-plan
          (plan-of-maximal h.clusters (clusters-pairs (reordered f ds) other.0.no_fault)));
    };
    saved = saved;
    saved_steps = saved_steps;
    lists = lists;
    three = λ p w j i. joint_three p h.clusters w j i;
    whole = (sheet-demand3 (reordered f ds) other.0 other.1).whole;
  }

pub in-orders : (bytes : List ℕ) (f : Facts) (rest : List ℕ) → Bytes bytes → read_sheet bytes ≡ value f rest
    → InOrders bytes f
in-orders bytes f rest all reads = record {
  own = own-order bytes f rest all reads;
  every = λ ps r.
      let o = read-in-order bytes f rest all reads ps r in
      record {
        facts = reordered f o.order;
        constraints = o.perm;
        facts_are = refl;
        accepted = o.reads;
        answers = same-any-order bytes (in_order bytes ps) f rest (written_read bytes f rest all reads).2 reads
            o.order o.perm o.reads;
      };
}
