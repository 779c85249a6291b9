-- A sheet's bytes without their tags, walked constraint by constraint: what is put so far, the piece that is passed and not put yet, and what is left
-- make the whole. Assumes nothing.
use Rattle.std.specs.Prelude.{◌+◌, ◌*◌, ◌-◌, ◌/◌, ◌%◌, ◌≤◌, ◌<◌, ◌≡◌, ◌∷◌, ◌++◌}
use Rattle.theory.specs.Prelude.{ℕ, zero, suc, min, sub-zero, dec_lt, arith, refl, sym, ◌∙◌, Bool, true}
use Rattle.theory.specs.Prelude.{false, List, [], append-nil, append_assoc, eqb, length, take, drop, get_or, length-append, length-take}
use Rattle.theory.specs.Prelude.{length-drop, take-append-drop, drop-cons, drop-drop, take_all}
use native.Mathlib.Nat.{sub_self}
use lib.Seq.{take-add}
use Rattle.sheet.specs.Rules.{without_bit1}
use Rattle.sheet.specs.declared.Opening.{Opening}
use Rattle.sheet.specs.declared.Opening.TheVariants.{Pf01, Pf02}
use Rattle.sheet.specs.Facts.{bit_of}
use Rattle.sheet.specs.Facts.Laws.{kinds_of-length}
use Rattle.sheet.specs.Field.{number, kind_bytes}
use Rattle.sheet.specs.WithoutTags.{size_length, tag_length, drop_tags, opening_in, kinds_in_bytes, circles_among}
use Rattle.sheet.specs.WithoutTags.{before_by, before, listed, without_tags}
use Rattle.space.specs.Space.{Put}
use Rattle.space.specs.Space.Laws.{put-none, put_as, ◌then◌}
use Rattle.writer.proofs.Spread.{drop-least}

-- ---- one constraint

-- fewer than three bytes stay
short-same : (k : ℕ) (l : List ℕ) → length l < 3 → drop_tags k l ≡ l
unfolding drop_tags
short-same zero l h = refl
short-same (suc k) [] h = refl
short-same (suc k) (a ∷ []) h = refl
short-same (suc k) (a ∷ b ∷ []) h = refl
short-same (suc k) (a ∷ b ∷ m ∷ l) h = absurd (omega arith)

module _ (s : List ℕ) (at : ℕ) (room : at + 3 ≤ length s) where
  fields : drop at s ≡ get_or s at 0 ∷ get_or s (at + 1) 0 ∷ get_or s (at + 2) 0 ∷ drop (at + 3) s
  fields =
      let one : suc at ≡ at + 1 = omega arith in
      let two : suc (at + 1) ≡ at + 2 = omega arith in
      let three : suc (at + 2) ≡ at + 3 = omega arith in
      rw (drop-cons s at 0 (omega arith), one, drop-cons s (at + 1) 0 (omega arith), two, drop-cons s (at + 2) 0 (omega arith), three)

  abbrev map : ℕ
  map = get_or s (at + 2) 0

  front : take 2 (drop at s) ≡ get_or s at 0 ∷ get_or s (at + 1) 0 ∷ []
  front = rw fields

  -- one without a tag stays
  plain : (k : ℕ) → map / 2 % 2 ≡ 0
      → drop_tags (suc k) (drop at s) ≡ take (3 + size_length map) (drop at s) ++ drop_tags k (drop (at + (3 + size_length map)) s)
  unfolding drop_tags
  plain k none =
      let same : without_bit1 map ≡ map = omega arith in
      let long : size_length map + tag_length map ≡ size_length map = omega arith in
      let three : 3 + size_length map ≡ suc (suc (suc (size_length map))) = omega arith in
      let on : at + suc (suc (suc (size_length map))) ≡ at + 3 + size_length map = omega arith in
      rw (fields, same, long, drop-drop, three, on)

  -- one with a tag
  tagged : (k : ℕ) → map / 2 % 2 ≡ 1
      → drop_tags (suc k) (drop at s)
      ≡ take 2 (drop at s) ++ (map - 2) ∷ take (size_length map) (drop (at + 3) s) ++ drop_tags k (drop (at + 5 + size_length map) s)
  unfolding drop_tags
  tagged k one =
      let less : without_bit1 map ≡ map - 2 = omega arith in
      let long : at + 3 + (size_length map + tag_length map) ≡ at + 5 + size_length map = omega arith in
      rw (front, fields, less, drop-drop, long)

-- ---- a piece cut to the end

pub cut-least : (s : List ℕ) (k w : ℕ) → k ≤ length s → take (min (length s) (k + w) - k) (drop k s) ≡ take w (drop k s)
cut-least s k w l = by (dec_lt (k + w) (length s))
  where
    by : Dec (k + w < length s) → take (min (length s) (k + w) - k) (drop k s) ≡ take w (drop k s)
    by (yes m) = let e : min (length s) (k + w) - k ≡ w = omega arith in rw e
    by (no n) =
        let e : min (length s) (k + w) - k ≡ length s - k = omega arith in
        rw (e, take_all (length s - k) (drop k s) (omega (arith, length-drop k s)), take_all w (drop k s) (omega (arith, length-drop k s)))

pub take_rest : (s : List ℕ) (k : ℕ) → take (length s - k) (drop k s) ≡ drop k s
take_rest s k = take_all (length s - k) (drop k s) (omega (arith, length-drop k s))

-- ---- no byte is added

drop_tags-length : (e : ℕ) (s : List ℕ) → length (drop_tags e s) ≤ length s
unfolding drop_tags
drop_tags-length zero s = omega arith
drop_tags-length (suc e) [] = omega arith
drop_tags-length (suc e) (a ∷ []) = omega arith
drop_tags-length (suc e) (a ∷ b ∷ []) = omega arith
drop_tags-length (suc e) (a ∷ b ∷ m ∷ s) =
    let rest = drop_tags-length e (drop (size_length m + tag_length m) s) in
    rw (length-append, length-take) (omega (arith, rest, length-drop (size_length m + tag_length m) s))

pub without_tags-length : (s : List ℕ) → length (without_tags s) ≤ length s
unfolding without_tags
without_tags-length s =
    rw (length-append, length-take) (omega (arith, drop_tags-length (listed s) (drop (before s) s), length-drop (before s) s))

-- ---- what precedes the constraints, of a count that is a byte

circles-most : (ks : List ℕ) → circles_among ks ≤ length ks
unfolding circles_among
circles-most [] = omega arith
circles-most (k ∷ ks) = omega (arith, bit_le (eqb k 2), circles-most ks)
  where
    bit_le : (b : Bool) → bit_of b ≤ 1
    bit_le true = omega arith
    bit_le false = omega arith

before-most : (s : List ℕ) → get_or s 4 0 < 256 → before s ≤ 1090
unfolding before
before-most s b = by (opening_in s) (get_or s 4 0) b
  where
    kinds-most : (o : Opening) (n : ℕ) → n < 256 → kind_bytes o n ≤ 64
    kinds-most Pf01 n b = omega arith
    kinds-most Pf02 n b = omega arith

    by : (o : Opening) (n : ℕ) → n < 256 → before_by o n s ≤ 1090
    by o n b = omega (
      arith,
      kinds-most o n b,
      circles-most (kinds_in_bytes o n s),
      kinds_of-length o n (number (take (kind_bytes o n) (drop 5 s))),
    )

pub before-some : (s : List ℕ) → 1 ≤ before s
unfolding before
before-some s = omega arith

-- ---- the walk

-- the constraints are walked one after another: i of e are gone through, up to the place `at`; what is put so far, the piece from
-- `from` that is passed and not put yet, and what is left make the whole
pub record Walk (space s : List ℕ) (e at from to i : ℕ) (out : List ℕ) : Type 0 where
  pub turns : i ≤ e
  pub done : List ℕ
  pub put : Put space 0 done to out
  pub passed : from ≤ at
  pub from_in : from ≤ length s
  pub to_in : to ≤ from
  pub at_in : at ≤ length s + 1090
  pub whole : without_tags s ≡ done ++ take (at - from) (drop from s) ++ drop_tags (e - i) (drop at s)

pub walk_none : (space s : List ℕ) → get_or s 4 0 < 256 → Walk space s (listed s) (before s) 0 0 0 space
unfolding without_tags
walk_none space s b = record {
  turns = omega arith;
  done = [];
  put = put-none space 0;
  passed = omega arith;
  from_in = omega arith;
  to_in = omega arith;
  at_in = omega (arith, before-most s b);
  whole = rw (sub-zero (before s), sub-zero (listed s));
}

module _ {space s : List ℕ} {e at from to i : ℕ} {out : List ℕ} (w : Walk space s e at from to i out) where
  behind : drop (at - from) (drop from s) ≡ drop at s
  behind = let same : from + (at - from) ≡ at = omega (arith, w.passed) in drop-drop (at - from) from s ∙ rw same

  -- the last piece
  pub walked : {next : ℕ} {out' : List ℕ} → drop_tags (e - i) (drop at s) ≡ drop at s → Put out to (drop from s) next out'
      → Put space 0 (without_tags s) next out'
  walked all p = put_as (sym (w.whole ∙ rw (all, ← behind, append_assoc, take-append-drop (at - from) (drop from s)))) (w.put then p)

  pub walked-short : {next : ℕ} {out' : List ℕ} → length s < at + 3 → Put out to (drop from s) next out' → Put space 0 (without_tags s) next out'
  walked-short l p = walked (short-same (e - i) (drop at s) (omega (arith, length-drop at s))) p

  pub walked_all : {next : ℕ} {out' : List ℕ} → e ≤ i → Put out to (drop from s) next out' → Put space 0 (without_tags s) next out'
  unfolding drop_tags
  walked_all l p = let none : e - i ≡ 0 = omega arith in walked (rw none) p

  module _ (more : i < e) (room : at + 3 ≤ length s) where
    abbrev bits : ℕ
    bits = get_or s (at + 2) 0

    one_less : e - i ≡ suc (e - (i + 1))
    one_less = omega arith

    pub walk-plain : bits / 2 % 2 ≡ 0 → Walk space s e (at + (3 + 4 * (bits % 2))) from to (i + 1) out
    walk-plain none =
        let on : at + (3 + size_length bits) - from ≡ (at - from) + (3 + size_length bits) = omega (arith, w.passed) in
        record {
          turns = omega arith;
          done = w.done;
          put = w.put;
          passed = omega (arith, w.passed);
          from_in = w.from_in;
          to_in = w.to_in;
          at_in = omega arith;
          whole =
              w.whole
              ∙ rw (
                one_less,
                plain s at room (e - (i + 1)) none,
                on,
                take-add (at - from) (3 + size_length bits) (drop from s),
                behind,
              )
              (simp append_assoc);
        }

    pub walk-tagged : {next : ℕ} {out' : List ℕ} → bits / 2 % 2 ≡ 1
        → Put out to (take (at + 2 - from) (drop from s) ++ (bits - 2) ∷ take (4 * (bits % 2)) (drop (at + 3) s)) next out'
        → Walk space s e (min (length s) (at + 5 + 4 * (bits % 2))) (min (length s) (at + 5 + 4 * (bits % 2))) next (i + 1) out'
    walk-tagged {next} one p =
        let piece : take (at + 2 - from) (drop from s) ≡ take (at - from) (drop from s) ++ take 2 (drop at s) =
        (let on : at + 2 - from ≡ (at - from) + 2 = omega (arith, w.passed) in rw (on, take-add (at - from) 2 (drop from s), behind)) in
        let size = take (4 * (bits % 2)) (drop (at + 3) s) in
        let long : length (take (at + 2 - from) (drop from s) ++ (bits - 2) ∷ size)
        ≡ min (at + 2 - from) (length s - from) + suc (min (4 * (bits % 2)) (length s - (at + 3))) =
        simp (length-append, length-take, length-drop) in
        record {
          turns = omega arith;
          done = w.done ++ (take (at + 2 - from) (drop from s) ++ (bits - 2) ∷ size);
          put = w.put then p;
          passed = omega arith;
          from_in = omega arith;
          to_in = omega (arith, long, p.next_is, w.to_in, w.passed, w.from_in);
          at_in = omega arith;
          whole =
              w.whole
              ∙ rw (one_less, tagged s at room (e - (i + 1)) one, drop-least s (at + 5 + 4 * (bits % 2)), sub_self, append-nil, piece)
              (simp append_assoc);
        }
