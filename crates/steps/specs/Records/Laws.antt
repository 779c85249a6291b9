-- The steps that the arrays of a run give are those of its list of merges, and what is filled from a listing is what its field gives. Assumes nothing.
use Rattle.std.specs.Prelude.{◌+◌, ◌*◌, ◌≤◌, ◌<◌, ◌≡◌, ◌∷◌, ◌++◌, Result, Ok, Err}
use Rattle.theory.specs.Prelude.{ℕ, min, arith, add-one, lt-ltb, le-ltb, ltb-true, ltb-false, refl, sym, ap, ◌∙◌}
use Rattle.theory.specs.Prelude.{subst, Bool, true, false, cond, List, [], ltb, ℤ, length, get_or, take, drop, length-take}
use Rattle.theory.specs.Prelude.{drop_of_length-le, List·getD-eq-default, drop-cons, ext_get_or, get_or-take, take_all, take-append_seam}
use Rattle.theory.specs.Block.{block}
use Rattle.theory.specs.Block.Laws.{length-block, get_or-block, take-block}
use Rattle.theory.specs.Constraints.{NotOver}
use Rattle.theory.specs.declared.Step.{Step}
use Rattle.theory.specs.declared.Rule.{Rule}
use Rattle.theory.specs.declared.Rule.TheVariants.{NoRoom}
use Rattle.theory.specs.Rule.{rule_number, by_number}
use Rattle.theory.specs.Graph.{SizedGraph, steps_of}
use Rattle.theory.specs.Graph.Laws.{length-steps}
use Rattle.space.specs.Written.{Written}
use Rattle.space.specs.Written.{Done, Refused}
use Rattle.space.specs.Space.{Put}
use Rattle.space.specs.Space.Laws.{put_refused, put-done}
use Rattle.sheet.specs.Field.{Field, value, refused}
use Rattle.sheet.specs.Answer.{Answers}
use Rattle.sheet.specs.Answer.Laws.{answers-items}
use Rattle.graph.specs.declared.Head.{Head}
use Rattle.graph.specs.Lent.{sized_in, Sound}
use Rattle.merges.specs.Run.{Run, run_of, Merged}
use Rattle.engine.specs.Steps.{Stepped, blank_step}
use Rattle.engine.specs.Steps.Laws.{stepped-are}
use Rattle.account.specs.Account.Laws.{room}
use Rattle.steps.specs.declared.Listing.{Listing}
use Rattle.steps.specs.Records.{filled_to, list_after, Fills}
use Rattle.steps.specs.Listing.{listing_of, Fit, Listed, taken_of, taken, answer_of, filled}
use Rattle.steps.specs.Records.{numbers_of, step_numbers, numbers_field}
use Rattle.steps.specs.Listing.{numbers_from}

-- ---- the steps of a run

module _ (h : Head) (start : List ℕ) (sizes : List ℤ) (sound : Sound h.n (take h.e start)) (count : length (take h.e start) ≡ h.e)
    (fine : NotOver (take h.e start)) {run : Run} (m : Merged (take h.e start) run) {steps : List Step}
    (stepped : Stepped h.lines h.e sizes start run.parts run.joints run.steps steps) where
  abbrev g : SizedGraph
  g = sized_in h start sizes

  few : (h.n ≤ 64) × (h.e ≤ 125) × (2 * run.steps ≤ h.e) × (run.steps ≤ 62)
  few = room h start sound count fine m

  steps_are : run.steps ≡ length m.p
  unfolding run_of
  steps_are = ap (λ (r : Run). r.steps) m.is

  long : run.steps ≡ length (steps_of g m.p)
  long = steps_are ∙ sym (length-steps g g.graph.clusters m.p)

  front : take run.steps steps ≡ steps_of g m.p
  front =
      stepped-are g m.p run start sizes steps m.valid m.is (ap (λ (e : ℕ). take e start) count) (ap (λ (e : ℕ). take e sizes) count)
      (omega (arith, few, steps_are)) (rw count stepped)

  each : (t : ℕ) (b : Bool) → ltb t run.steps ≡ b → get_or steps t blank_step ≡ get_or (block 62 blank_step (steps_of g m.p)) t blank_step
  each t true e =
      sym (get_or-take run.steps steps t blank_step (ltb-true t run.steps e)) ∙ ap (λ (l : List Step). get_or l t blank_step) front
      ∙ sym (get_or-block 62 blank_step (steps_of g m.p) t)
  each t false e =
      stepped.blank t (ltb-false t run.steps e)
      ∙ sym (List·getD-eq-default (steps_of g m.p) blank_step (omega (arith, long, ltb-false t run.steps e)))
      ∙ sym (get_or-block 62 blank_step (steps_of g m.p) t)

  -- they are the block that a listing has
  pub listed-are : Listed (value (steps_of g m.p) []) (Ok (record { count = run.steps; steps = steps }))
  unfolding listing_of
  listed-are =
      let most : length (steps_of g m.p) ≤ 62 = omega (arith, few, long) in
      let all : steps ≡ block 62 blank_step (steps_of g m.p) =
      ext_get_or blank_step steps (block 62 blank_step (steps_of g m.p)) (stepped.long ∙ sym (length-block 62 blank_step (steps_of g m.p) most))
      (λ t l. each t (ltb t run.steps) refl) in
      record { is = λ z. Ok (record { count = long z; steps = all z }); fit = most }

-- ---- a listing

pub as-listed : {x y : Field (List Step)} {r : Result Listing Rule} → Listed x r → y ≡ x → Listed y r
as-listed {r = r} h e = subst (λ (z : Field (List Step)). Listed z r) (sym e) h

pub as-refused : {x : Field (List Step)} (r : Rule) → x ≡ refused (rule_number r) → Listed x (Err r)
unfolding listing_of
as-refused r e = as-listed (record { is = refl; fit = tt }) e

pub listed-refused : (x : Field (List Step)) {r : Rule} → Listed x (Err r) → x ≡ refused (rule_number r)
unfolding listing_of
listed-refused (value steps rest) h = let e = h.is in cc
listed-refused (refused k) h = let e = h.is in cc

-- ---- what is taken, by the tests of the code

module _ (len count : ℕ) where
  pub taken-many : 62 < count → Err NoRoom ≡ taken_of len count
  unfolding taken_of
  taken-many h = rw (lt-ltb 62 count h) refl

  pub taken-short : len < count → Err NoRoom ≡ taken_of len count
  unfolding taken_of
  taken-short h = rw (lt-ltb len count h) (by (ltb 62 count))
    where
      by : (b : Bool) → ◌≡◌ {A = Result ℕ Rule} (Err NoRoom) (cond b (Err NoRoom) (Err NoRoom))
      by true = refl
      by false = refl

  pub taken-all : count ≤ 62 → count ≤ len → Ok count ≡ taken_of len count
  unfolding taken_of
  taken-all m h = rw (le-ltb 62 count m, le-ltb len count h) refl

  -- it fits the block and the list
  pub taken-small : (n : ℕ) → Ok n ≡ taken_of len count → (n ≤ 62) × (n ≤ len)
  unfolding taken_of
  taken-small n = by (ltb 62 count) refl (ltb len count) refl
    where
      by : (a : Bool) → ltb 62 count ≡ a → (b : Bool) → ltb len count ≡ b
          → ◌≡◌ {A = Result ℕ Rule} (Ok n) (cond a (Err NoRoom) (cond b (Err NoRoom) (Ok count))) → (n ≤ 62) × (n ≤ len)
      by true p b q e = absurd (cc)
      by false p true q e = absurd (cc)
      by false p false q e =
          let same : n ≡ count = cc in
          (omega (arith, ltb-false 62 count p), omega (arith, ltb-false len count q))

-- ---- what is filled

module _ (list : List Step) where
  answer-of : (x : Field (List Step)) {l : Listing} → Listed x (Ok l) → by_number (taken_of (length list) l.count) ≡ filled_to x list
  unfolding listing_of taken_of
  answer-of (refused k) h = let e = h.is in absurd (cc)
  answer-of (value steps rest) {l} h =
      let e = h.is in
      let same : l.count ≡ length steps = cc in
      rw (same, le-ltb 62 (length steps) h.fit) (by (ltb (length list) (length steps)))
    where
      by : (b : Bool) → by_number (cond b (Err NoRoom) (Ok (length steps))) ≡ cond b (Refused 17) (Done (length steps))
      by true = refl
      by false = refl

  left-of : (x : Field (List Step)) {l : Listing} → Listed x (Ok l) → filled list (Ok l) ≡ list_after x list
  unfolding listing_of taken_of filled
  left-of (refused k) h = let e = h.is in absurd (cc)
  left-of (value steps rest) {l} h =
      let e = h.is in
      let same : l ≡ record { count = length steps; steps = block 62 blank_step steps } = cc in
      rw (same, le-ltb 62 (length steps) h.fit) (by (ltb (length list) (length steps)))
    where
      room : Bool → Result ℕ Rule
      room b = cond b (Err NoRoom) (Ok (length steps))

      by : (b : Bool) → take (taken (room b)) (block 62 blank_step steps) ++ drop (taken (room b)) list
          ≡ cond b list (steps ++ drop (length steps) list)
      by true = refl
      by false = ap (λ (l : List Step). l ++ drop (length steps) list) (take-block 62 blank_step steps (length steps) refl)

  -- one that a rule refuses stays as it is
  pub refused-fills : {x : Field (List Step)} {r : Rule} → Listed x (Err r) → Fills x list (Refused (rule_number r)) list
  refused-fills {x} h = rw (listed-refused x h) (record { answer_is = refl; left_is = refl })

  -- a list filled from a listing has what the field gives
  pub fills : {x : Field (List Step)} (l : Result Listing Rule) {r : Result ℕ Rule} {left : List Step} → Listed x l
      → (r ≡ answer_of (length list) l) × (left ≡ filled list l) → Fills x list (by_number r) left
  unfolding filled
  fills {x} (Ok l) h w = record { answer_is = ap by_number w.0 ∙ answer-of x h; left_is = w.1 ∙ left-of x h }
  fills (Err k) h w = rw (w.0, w.1) (refused-fills h)

-- ---- as numbers

pub length-numbers : (steps : List Step) → length (step_numbers steps) ≡ 7 * length steps
unfolding step_numbers
length-numbers [] = refl
length-numbers (s ∷ steps) = omega (arith, length-numbers steps)

-- those from record i on
pub numbers-next : (list : List Step) (i : ℕ) (d : Step) → i < length list
    → step_numbers (drop i list) ≡ numbers_of (get_or list i d) ++ step_numbers (drop (i + 1) list)
unfolding step_numbers
numbers-next list i d h = rw (add-one, drop-cons list i d h) refl

pub numbers-none : (list : List Step) (i : ℕ) → length list ≤ i → step_numbers (drop i list) ≡ []
unfolding step_numbers
numbers-none list i h = ap step_numbers (drop_of_length-le list h)

-- the numbers of a filled list are those of the field
pub numbers-are : {x : Field (List Step)} {old list : List Step} (r : Result ℕ Rule) → Fit x → length old ≡ 62 → Fills x old (by_number r) list
    → numbers_from list r ≡ numbers_field x
numbers-are {x} {old} {list} r fit size h = as-numbers r ∙ rw (h.answer_is, h.left_is) (by x fit)
  where
    told : Written → List Step → Field (List ℕ)
    told (Done n) l = value (step_numbers (take n l)) []
    told (Refused k) l = refused k

    as-numbers : (r : Result ℕ Rule) → numbers_from list r ≡ told (by_number r) list
    as-numbers (Ok n) = refl
    as-numbers (Err r) = refl

    by : (x : Field (List Step)) → Fit x → told (filled_to x old) (list_after x old) ≡ numbers_field x
    by (refused k) fit = refl
    by (value steps rest) fit =
        rw (le-ltb (length old) (length steps) (omega (arith, size, fit)))
        (ap (λ (l : List Step). value (step_numbers l) []) (take-append_seam steps (drop (length steps) old)))

-- into lent space: as many records as the list has at most
module _ (list : List Step) (long : length list ≡ 62) (n : ℕ) {r : Result ℕ Rule} (done : r ≡ Ok n) {count : ℕ} (few : count ≡ min n 62) where
  first-few : step_numbers (take n list) ≡ step_numbers (take count list)
  first-few = by (ltb 62 n) refl
    where
      by : (b : Bool) → ltb 62 n ≡ b → step_numbers (take n list) ≡ step_numbers (take count list)
      by false e = let m : count ≡ n = omega (arith, few, ltb-false 62 n e) in rw m
      by true e =
          let h = ltb-true 62 n e in
          let m : count ≡ 62 = omega (arith, few, h) in
          ap step_numbers (take_all n list (omega (arith, long, h)) ∙ sym (ap (λ (k : ℕ). take k list) m ∙ take_all 62 list (omega (arith, long))))

  few-numbers : length (step_numbers (take count list)) ≡ 7 * count
  few-numbers = length-numbers (take count list) ∙ omega (arith, length-take count list, long, few)

  pub numbers-short : {space : List ℕ} → length space < 7 * count → Answers (numbers_from list r) space (Refused 17) space
  numbers-short {space} h =
      rw (done, first-few) (answers-items (put_refused (step_numbers (take count list)) space (omega (arith, few-numbers, h))) refl)

  pub numbers-put : {space left : List ℕ} {next : ℕ} → 7 * count ≤ length space → Put space 0 (step_numbers (take count list)) next left
      → Answers (numbers_from list r) space (Done next) left
  numbers-put h p = rw (done, first-few) (answers-items (put-done (omega (arith, few-numbers, h)) p) refl)
