-- What stands in a record, and what a call over it answers. Assumes nothing.
use Rattle.std.specs.Prelude.{◌+◌, ◌*◌, ◌-◌, ◌/◌, ◌%◌, ◌≤◌, ◌<◌, ◌≡◌, ◌∷◌, ◌++◌}
use Rattle.theory.specs.Prelude.{ℕ, zero, suc, arith, refl, sym, ap, ◌∙◌, subst, List, []}
use Rattle.theory.specs.Prelude.{append_assoc, append-nil, dec_lt, lt-ltb, le-ltb, le-leb, lt-leb, ℤ, leb, length, get_or, take, drop, length-append}
use Rattle.theory.specs.Prelude.{length-drop, length-take, take-append-drop, take_all, drop-length, drop_at}
use Rattle.std.specs.Prelude.{Result, Ok, Err}
use Rattle.std.specs.Result.{result_or}
use Rattle.theory.specs.declared.Rule.{Rule}
use Rattle.theory.specs.declared.Rule.TheVariants.{NoSketch}
use Rattle.graph.specs.declared.Front.{Front}
use Rattle.reader.specs.Answers.{SheetRead}
use Rattle.theory.specs.declared.Verdict.{Verdict}
use Rattle.theory.specs.Graph.{verdict_of}
use Rattle.space.specs.Written.{Written}
use Rattle.space.specs.Written.{Done, Refused as NoRoom}
use Rattle.space.specs.Space.{answer, after, Put}
use Rattle.space.specs.Space.Laws.{put_refused, long-answer, sets-front, put_as}
use Rattle.sheet.specs.declared.Constraint.{Constraint}
use Rattle.sheet.specs.declared.Sheet.{Sheet}
use Rattle.sheet.specs.Facts.{Facts, facts_of}
use Rattle.sheet.specs.Rules.{sheet_fault}
use Rattle.sheet.specs.Rules.Laws.{elements-most, constraints-most}
use Rattle.sheet.specs.Accepted.Laws.{sheet_fault-none}
use Rattle.sheet.specs.Encode.Laws.{sheet-length}
use Rattle.sheet.specs.Field.{Field, value, refused, next, digits, number, field, Bytes}
use Rattle.sheet.specs.Field.Laws.{next-value, demand-value, field-front, bytes_take, length_digits}
use Rattle.sheet.specs.Accepted.{Accepted}
use Rattle.sheet.specs.RoundTrip.{written_read}
use Rattle.sheet.specs.Decode.{read_sheet}
use Rattle.sheet.specs.Encode.{sheet_bytes}
use Rattle.sheet.specs.Graph.{graph_of, over_fault}
use Rattle.sheet.specs.Answer.{by_rule, after_to}
use Rattle.sheet.specs.Answer.Laws.{rule-some}
use Rattle.sketch.specs.Judgement.{Judgement}
use Rattle.sketch.specs.Judgement.{Is, Refused}
use Rattle.sketch.specs.Sketch.{extended, by27, ask_fault, place_fault, as_judged}
use Rattle.sketch.specs.Sketch.Laws.{judged-taken, judged-not}
use Rattle.records.specs.Record.{record_bytes, as27, counted, record_sheet, as_judgement, ask_field, place_field}
use Rattle.records.specs.Record.{written_field, place_judged, placed_in, held_record, sheet_field}

-- ---- the bytes that a record counts

-- the count in its first two bytes
abbrev pub told : List ℕ → ℕ
told lent = get_or lent 0 0 + 256 * get_or lent 1 0

counts : (lent : List ℕ) → 2 ≤ length lent → field 2 lent ≡ value (told lent) (drop 2 lent)
unfolding field number
counts [] h = absurd (omega arith)
counts (x ∷ []) h = absurd (omega arith)
counts (x ∷ y ∷ rest) h = rw (le-ltb _ _ h) (ap (λ (n : ℕ). value n rest) (omega arith))

module _ (lent : List ℕ) where
  pub record-short : length lent < 2 → record_sheet lent ≡ refused 27
  unfolding record_sheet field
  record-short h = rw (lt-ltb _ _ h)

  rest-long : 2 ≤ length lent → length (drop 2 lent) + 2 ≡ length lent
  rest-long h = omega (arith, length-drop 2 lent)

  pub record-cut : 2 ≤ length lent → length lent < 2 + told lent → record_sheet lent ≡ refused 27
  unfolding record_sheet
  record-cut h l =
      let n : length (drop 2 lent) < told lent = omega (arith, rest-long h) in
      rw (counts lent h, lt-leb _ _ n)

  pub record-whole : 2 ≤ length lent → 2 + told lent ≤ length lent → record_sheet lent ≡ as27 (read_sheet (take (told lent) (drop 2 lent)))
  unfolding record_sheet
  record-whole h l =
      let n : told lent ≤ length (drop 2 lent) = omega (arith, rest-long h) in
      rw (counts lent h, le-leb _ _ n)

-- ---- what is read of it

as27-value : (x : Field Facts) {f : Facts} {t : List ℕ} → as27 x ≡ value f t → x ≡ value f t
as27-value (value g s) e = e
as27-value (refused k) e = absurd (let z : ◌≡◌ {A = ℕ} 0 1 = cc in omega arith)

-- a refusal is 27
pub read-as27 : (x : Field Facts) (near start : List ℕ) (codes : List ℤ) (radii : List ℕ) (r : Result Front Rule)
    → SheetRead x r near start codes radii → SheetRead (as27 x) (result_or r (Err NoSketch)) near start codes radii
read-as27 x near start codes radii (Ok h) (f, t, q, a) = (f, t, ap as27 q, a)
read-as27 x near start codes radii (Err k) e = ap as27 e

-- no rule refuses them, and all bytes that are counted are read
pub record-accepted : (lent : List ℕ) {f : Facts} {t : List ℕ} → Bytes lent → record_sheet lent ≡ value f t → (t ≡ []) × Accepted f
unfolding record_sheet
record-accepted lent {f} {t} all e =
    next-value (field 2 lent) counted (as27-value (next (field 2 lent) counted) e) (λ n rest was e1.
    demand-value (leb n (length rest)) 2 (read_sheet (take n rest)) e1 (λ m e2.
    let r = written_read (take n rest) f t (bytes_take n rest (field-front 2 lent all was).rest) e2 in (r.0, r.2)))

-- ---- what is answered

judged-by : (k : ℕ) (v : Verdict) → as_judgement (by_rule k (value v [])) ≡ as_judged k v
judged-by zero v = refl
judged-by (suc k) v = refl

module _ (lent : List ℕ) (c : Constraint) where
  pub asked-refused : {k : ℕ} → record_sheet lent ≡ refused k → Refused k ≡ as_judgement (ask_field lent c)
  asked-refused e = rw e

  pub asked-value : {f : Facts} {t : List ℕ} → record_sheet lent ≡ value f t
      → as_judgement (ask_field lent c) ≡ as_judged (ask_fault f c) (verdict_of (graph_of (extended f c)))
  asked-value {f} e = rw e (judged-by (ask_fault f c) (verdict_of (graph_of (extended f c))))

-- ---- the sketch in it

module _ (lent : List ℕ) where
  pub held-unread : {k : ℕ} → record_sheet lent ≡ refused k → held_record lent ≡ refused k
  unfolding held_record
  held-unread e = rw e

  module _ {f : Facts} {t : List ℕ} (e : record_sheet lent ≡ value f t) where
    pub held-over : (over_fault (graph_of f) ≡ 0 → ⊥) → held_record lent ≡ refused 27
    unfolding held_record
    held-over n = rw e (by (over_fault (graph_of f)) refl)
      where
        by : (k : ℕ) → over_fault (graph_of f) ≡ k → by_rule (by27 k) (value f []) ≡ refused 27
        by zero q = absurd (n q)
        by (suc k) q = refl

    pub held-value : over_fault (graph_of f) ≡ 0 → held_record lent ≡ value f []
    unfolding held_record
    held-value o = rw (e, o)

  pub sheet-refused : {k : ℕ} → held_record lent ≡ refused k → sheet_field lent ≡ refused k
  sheet-refused e = rw e

  pub sheet-value : {f g : Facts} {t : List ℕ} → held_record lent ≡ value f t → g ≡ f → sheet_field lent ≡ value (sheet_bytes g) []
  sheet-value e same = rw (e, same)

-- ---- a record written

pub sheet-short : (s : Sheet) → sheet_fault s ≡ 0 → length (sheet_bytes (facts_of s)) ≤ 1678
sheet-short s z =
    let h = sheet_fault-none s z in
    sheet-length (facts_of s) (omega (arith, elements-most s.n h.elements_fit, length-take s.n s.elements))
    (omega (arith, constraints-most s.e h.constraints_fit, length-take s.e s.constraints))

done-is : (items space : List ℕ) {n : ℕ} → answer items space ≡ Done n → (n ≡ length items) × (length items ≤ length space)
done-is items space {n} e = by (dec_lt (length space) (length items))
  where
    by : Dec (length space < length items) → (n ≡ length items) × (length items ≤ length space)
    by (yes l) = absurd (let z : NoRoom 17 ≡ Done n = (put_refused items space l).0 ∙ e in let y : ◌≡◌ {A = ℕ} 0 1 = cc in omega arith)
    by (no l) = let z : Done (length items) ≡ Done n = sym (long-answer items space (omega arith)) ∙ e in (cc, omega arith)

refused-is : (items space : List ℕ) {k : ℕ} → answer items space ≡ NoRoom k → length space < length items
refused-is items space {k} e = by (dec_lt (length space) (length items))
  where
    by : Dec (length space < length items) → length space < length items
    by (yes l) = l
    by (no l) = absurd (let z : Done (length items) ≡ NoRoom k = sym (long-answer items space (omega arith)) ∙ e in let y : ◌≡◌ {A = ℕ} 0 1 = cc in omega arith)

front-two : (out : List ℕ) → 2 ≤ length out → (x y : ℕ) × (x ∷ y ∷ drop 2 out ≡ out)
front-two [] h = absurd (omega arith)
front-two (x ∷ []) h = absurd (omega arith)
front-two (x ∷ y ∷ rest) h = (x, y, refl)

pub record-length : (f : Facts) → length (record_bytes f) ≡ suc (suc (length (sheet_bytes f)))
unfolding record_bytes
record-length f = length-append (digits 2 (length (sheet_bytes f))) (sheet_bytes f) ∙ omega (arith, length_digits 2 (length (sheet_bytes f)))

module _ (f : Facts) (x y : ℕ) (rest : List ℕ) where
  record-no-room : length rest < length (sheet_bytes f)
      → (NoRoom 17 ≡ answer (record_bytes f) (x ∷ y ∷ rest)) × ((x ∷ y ∷ rest) ≡ after (record_bytes f) (x ∷ y ∷ rest))
  record-no-room l = put_refused (record_bytes f) (x ∷ y ∷ rest) (omega (arith, record-length f))

  record-room : length (sheet_bytes f) ≤ length rest
      → (Done (2 + length (sheet_bytes f)) ≡ answer (record_bytes f) (x ∷ y ∷ rest))
      × (digits 2 (length (sheet_bytes f)) ++ after (sheet_bytes f) rest ≡ after (record_bytes f) (x ∷ y ∷ rest))
  unfolding after record_bytes
  record-room l =
      let fits : length (record_bytes f) ≤ length (x ∷ y ∷ rest) = omega (arith, record-length f) in (
        ap Done (omega (arith, record-length f)) ∙ sym (long-answer (record_bytes f) (x ∷ y ∷ rest) fits),
        rw (le-ltb _ _ l, le-ltb _ _ fits, record-length f, append_assoc),
      )

-- what the writer answers over all but the first two bytes
module _ (f : Facts) (out : List ℕ) (two : 2 ≤ length out) {r : Written} {left : List ℕ}
    (told_is : (r ≡ answer (sheet_bytes f) (take (length out - 2) (drop 2 out))) × (left ≡ after (sheet_bytes f) (take (length out - 2) (drop 2 out)))) where
  abbrev back : List ℕ
  back = take 2 out ++ (left ++ drop (length out - 2) (drop 2 out))

  rest-is : take (length out - 2) (drop 2 out) ≡ drop 2 out
  rest-is = take_all (length out - 2) (drop 2 out) (omega (arith, length-drop 2 out))

  left_is : left ++ drop (length out - 2) (drop 2 out) ≡ after (sheet_bytes f) (drop 2 out)
  left_is =
      ap (λ (k : ℕ). left ++ drop k (drop 2 out)) (sym (length-drop 2 out)) ∙ ap (◌++◌ left) (drop-length (drop 2 out)) ∙ append-nil left ∙ told_is.1
      ∙ ap (after (sheet_bytes f)) rest-is

  answer_is : r ≡ answer (sheet_bytes f) (drop 2 out)
  answer_is = told_is.0 ∙ ap (answer (sheet_bytes f)) rest-is

  pub record-refused : {k : ℕ} → r ≡ NoRoom k → (r ≡ answer (record_bytes f) out) × (back ≡ after (record_bytes f) out)
  record-refused e =
      let l = refused-is (sheet_bytes f) (drop 2 out) (sym answer_is ∙ e) in
      let (x, y, is) = front-two out two in
      let s = put_refused (sheet_bytes f) (drop 2 out) l in
      let n = subst (λ (o : List ℕ). (NoRoom 17 ≡ answer (record_bytes f) o) × (o ≡ after (record_bytes f) o)) is (record-no-room f x y (drop 2 out) l) in
      (answer_is ∙ sym s.0 ∙ n.0, ap (◌++◌ (take 2 out)) (left_is ∙ sym s.1) ∙ take-append-drop 2 out ∙ n.1)

  pub record-done : {n : ℕ} → r ≡ Done n → {bytes o2 : List ℕ} {front : ℕ} → bytes ≡ n % 256 ∷ n / 256 % 256 ∷ [] → Put back 0 bytes front o2
      → (Done (front + n) ≡ answer (record_bytes f) out) × (o2 ≡ after (record_bytes f) out)
  unfolding digits
  record-done {n} e {o2 = o2} are p =
      let (n_is, fits) = done-is (sheet_bytes f) (drop 2 out) (sym answer_is ∙ e) in
      let (x, y, is) = front-two out two in
      let m = subst (λ (o : List ℕ). (Done (2 + length (sheet_bytes f)) ≡ answer (record_bytes f) o)
      × (digits 2 (length (sheet_bytes f)) ++ after (sheet_bytes f) (drop 2 out) ≡ after (record_bytes f) o)) is (record-room f x y (drop 2 out) fits) in
      let pq : Put back 0 (n % 256 ∷ n / 256 % 256 ∷ []) _ o2 = put_as are p in
      let long : 2 ≤ length back = omega (arith, length-append (take 2 out) (left ++ drop (length out - 2) (drop 2 out)), length-take 2 out) in
      let kept : drop 2 back ≡ after (sheet_bytes f) (drop 2 out) =
      drop_at (take 2 out) (left ++ drop (length out - 2) (drop 2 out)) 2 (omega (arith, length-take 2 out)) ∙ left_is in (
        ap Done (omega (arith, pq.next_is, n_is)) ∙ m.0,
        pq.after_is long ∙ sets-front (n % 256 ∷ n / 256 % 256 ∷ []) back long ∙ ap (λ (l : List ℕ). n % 256 ∷ n / 256 % 256 ∷ l) kept
            ∙ rw n_is m.1,
      )

-- the count fits in its two bytes
pub record-counted : (s : Sheet) → sheet_fault s ≡ 0 → (out : List ℕ) {r : Written} {left : List ℕ} {n : ℕ}
    → (r ≡ answer (sheet_bytes (facts_of s)) (take (length out - 2) (drop 2 out))) × (left ≡ after (sheet_bytes (facts_of s)) (take (length out - 2) (drop 2 out)))
    → r ≡ Done n → n ≤ 1678
record-counted s z out told_is e =
    omega (arith, sheet-short s z, (done-is (sheet_bytes (facts_of s)) (take (length out - 2) (drop 2 out)) (sym told_is.0 ∙ e)).0)

-- ---- a constraint placed

module _ (lent : List ℕ) (c : Constraint) (held : ℕ) where
  abbrev Answered : Judgement → List ℕ → Type 0
  Answered r left = (r ≡ placed_in (place_field lent c held) lent) × (left ≡ after_to (written_field (place_field lent c held)) lent)

  pub placed-unread : {k : ℕ} → record_sheet lent ≡ refused k → Answered (Refused k) lent
  placed-unread e = rw e (refl, refl)

  module _ {f : Facts} {t : List ℕ} (reads : record_sheet lent ≡ value f t) {r : Judgement}
      (is : r ≡ as_judged (place_fault f c held) (verdict_of (graph_of (extended f c)))) where
    pub placed-refused : {k : ℕ} → r ≡ Refused k → Answered r lent
    placed-refused {k} e =
        let (same, some) = judged-not (place_fault f c held) _ (sym is ∙ e) in
        rw (e, reads, rule-some (value (extended f c) []) k (sym same) (λ z. some (same ∙ z))) (refl, refl)

    pub placed-none : {v : Verdict} → r ≡ Is v → place_fault f c held ≡ 0
    placed-none e = judged-taken (place_fault f c held) _ (sym is ∙ e)

    pub placed-taken : {v : Verdict} → r ≡ Is v → {w : Written} {left : List ℕ} {g : Facts} → g ≡ extended f c
        → (w ≡ answer (record_bytes g) lent) × (left ≡ after (record_bytes g) lent) → {j : Judgement} → j ≡ place_judged w r → Answered j left
    placed-taken e same h n =
        let z = placed-none e in
        rw (reads, z, n, is, z, h.0, same) (refl, h.1 ∙ ap (λ (x : Facts). after (record_bytes x) lent) same)
