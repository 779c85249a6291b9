-- No number for C is cut: `pattern` Counts and the five verdicts, each far below 2^31. Assumes nothing.
use Rattle.std.specs.Prelude.{◌%◌, ◌<◌, ◌≤◌, ◌≡◌}
use Rattle.theory.specs.Prelude.{ℕ, zero, suc, arith, refl, ap, ◌∙◌, Bool, true, false, cond, List}
use Rattle.theory.specs.Prelude.{ltb}
use Rattle.theory.specs.Prelude.{lt-ltb, pos, Option, none, some, length}
use Rattle.theory.specs.Verdict.{verdict_number}
use Rattle.theory.specs.declared.Verdict.{Verdict}
use Rattle.theory.specs.declared.Verdict.TheVariants.{Over, Angle, Well, Stuck, Under}
use Rattle.space.specs.Written.{Written, Done, Refused}
use Rattle.space.specs.Space.{answer}
use Rattle.sheet.specs.Field.{Field, value, refused}
use Rattle.sheet.specs.Answer.{by_rule}
use Rattle.chain.specs.Answer.{as_run, chain_to}
use Rattle.sketch.specs.Judgement.{Judgement}
use Rattle.sketch.specs.Judgement.{Is, Refused as No}
use Rattle.card.specs.Card.{set_verdict}
use Rattle.records.specs.Record.{as_judgement, ask_field, place_field, placed_in}
use Rattle.pattern.specs.Entries.{verdict_field, count_of, chain_field}
use Rattle.pattern.specs.Counts.{AtMost}
use Rattle.pattern.specs.Counts.Proof.{counts}
use Rattle.pattern_c.specs.Numbers.{as_count, as_number, as_items}
use Rattle.pattern_c.specs.Numbers.Counts.{uncut}
use Rattle.pattern_c.specs.Columns.{columns_fault, columns_field}
use Rattle.pattern_c.specs.Uncut.{Whole, Uncut, NoneCut}

apart : {A : Type 0} {k n : ℕ} → ◌≡◌ {A = Written} (Refused k) (Done n) → A
apart e = absurd (let z : ◌≡◌ {A = ℕ} 0 1 = cc in omega arith)

same_count : {m n : ℕ} → ◌≡◌ {A = Written} (Done m) (Done n) → m ≡ n
same_count e = cc

-- a count below 2^31
whole : (m n : ℕ) → m < 2147483648 → ◌≡◌ {A = Written} (Done m) (Done n) → as_count (Done m) ≡ pos n
whole m n h e = rw (lt-ltb m 2147483648 h) (ap pos (same_count e))

-- ---- items

written : {most : ℕ} (x : Field (List ℕ)) → AtMost most x → most < 2147483648 → Uncut x
unfolding answer
written (refused k) short few space n e = apart e
written (value items rest) short few space n e = by (ltb (length space) (length items)) e
  where
    by : (b : Bool) → cond {A = Written} b (Refused 17) (Done (length items)) ≡ Done n
        → as_count (cond {A = Written} b (Refused 17) (Done (length items))) ≡ pos n
    by true h = apart h
    by false h = uncut short few items rest refl ∙ ap pos (same_count h)

counted : {A : Type 0} {most : ℕ} (x : Field (List A)) → AtMost most x → most < 2147483648 → Whole (count_of x)
counted (refused k) short few n e = apart e
counted (value items rest) short few n e = uncut short few items rest refl ∙ ap pos (same_count e)

-- a rule before them
after-rule : {most : ℕ} (k : ℕ) (x : Field (List ℕ)) → AtMost most x → AtMost most (by_rule k x)
after-rule zero x short items rest e = short items rest e
after-rule (suc k) x short items rest e = absurd (let z : ◌≡◌ {A = ℕ} 0 1 = cc in omega arith)

-- ---- verdicts

five : (v : Verdict) → verdict_number v < 2147483648
five Over = omega arith
five Angle = omega arith
five Well = omega arith
five Stuck = omega arith
five Under = omega arith

judged : (j : Judgement) → Whole (as_number j)
judged (Is v) n e = whole (verdict_number v) n (five v) e
judged (No k) n e = apart e

-- ---- a chain

run_of : (r : List ℕ) (space : List ℕ) → length r ≤ 63 → Whole (as_items (as_run (answer r space)))
unfolding answer
run_of r space few n e = by (ltb (length space) (length r)) e
  where
    by : (b : Bool) → as_items (as_run (cond b (Refused 17) (Done (length r)))) ≡ Done n
        → as_count (as_items (as_run (cond b (Refused 17) (Done (length r))))) ≡ pos n
    by true h = apart h
    by false h = whole (length r) n (omega arith) h

run : (x : Field (Option (List ℕ))) → ((r rest : List ℕ) → x ≡ value (some r) rest → length r ≤ 63) → (space : List ℕ)
    → Whole (as_items (chain_to x space))
run (refused k) few space n e = apart e
run (value none rest) few space n e = apart e
run (value (some r) rest) few space n e = run_of r space (few r rest refl) n e

pub none-cut : NoneCut
unfolding columns_field
none-cut = record {
  rewrite = λ bytes all. written _ (counts.rewrite bytes all) (omega arith);
  write = λ opening n e kinds radii firsts seconds maps sizes.
      written _ (after-rule (columns_fault opening n kinds) _ (counts.write _)) (omega arith);
  over = λ bytes. written _ (counts.over bytes) (omega arith);
  verdict = λ bytes. judged (as_judgement (verdict_field bytes));
  plan = λ bytes all. written _ (counts.plan bytes all) (omega arith);
  initial = λ bytes all. written _ (counts.initial bytes all) (omega arith);
  clusters = λ bytes all. written _ (counts.clusters bytes all) (omega arith);
  rests = λ bytes all. written _ (counts.rests bytes all) (omega arith);
  report = λ bytes all. written _ (counts.report bytes all) (omega arith);
  check_plan = λ bytes plan all. written _ (counts.check bytes plan all) (omega arith);
  steps = λ bytes all. written _ (counts.steps bytes all) (omega arith);
  saved_steps = λ bytes plan all. written _ (counts.saved_steps bytes plan all) (omega arith);
  hold = λ bytes all. written _ (counts.hold_in bytes all) (omega arith);
  ask = λ lent c. judged (as_judgement (ask_field lent c));
  place = λ lent c held. judged (placed_in (place_field lent c held) lent);
  held = λ lent all. written _ (counts.held_in lent all) (omega arith);
  held_count = λ lent all n e. ap as_count e ∙ whole n n (omega (arith, counts.held_count lent n all e)) refl;
  held_clusters = λ lent all. written _ (counts.held_clusters lent all) (omega arith);
  held_rests = λ lent all. written _ (counts.held_rests lent all) (omega arith);
  part_steps = λ bytes c all. counted _ (counts.part_steps bytes c all) (omega arith);
  part_bytes = λ bytes c all. counted _ (counts.part bytes c all) (omega arith);
  part = λ bytes c all. written _ (counts.part bytes c all) (omega arith);
  chain = λ bytes start end. run (chain_field bytes start end) (counts.chain bytes start end);
  missing = λ bytes prices all. written _ (counts.missing bytes prices all) (omega arith);
  card = λ number. judged (Is (set_verdict 5 (number % 1024)));
  longest = λ n. written _ (counts.longest n) (omega arith);
  open_merges = λ bytes steps all. written _ (counts.open_merges bytes steps all) (omega arith);
}
