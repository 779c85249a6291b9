-- Laws of a sheet without its tags, from the walk over its constraints. Assumes nothing.
use Rattle.std.specs.Prelude.{◌+◌, ◌*◌, ◌-◌, ◌/◌, ◌%◌, ◌≡◌, ◌∷◌, ◌++◌}
use Rattle.theory.specs.Prelude.{ℕ, zero, suc, arith, eqb-true, refl, sym, ap, ◌∙◌, true, List, []}
use Rattle.theory.specs.Prelude.{append_assoc, eqb, length, take, drop, get_or, length-append, take-append-drop, take_at, drop_at, get_or-append-add}
use Rattle.sheet.specs.declared.Opening.{Opening}
use Rattle.sheet.specs.declared.Opening.TheVariants.{Pf01, Pf02}
use Rattle.sheet.specs.Facts.{kinds_of}
use Rattle.sheet.specs.Field.{number, kind_bytes, opening_bytes}
use Rattle.sheet.specs.Field.Laws.{opening-length}
use Rattle.sheet.specs.Rules.{without_bit1}
use Rattle.sheet.specs.Facts.Laws.{and-true}
use Rattle.sheet.specs.WithoutTags.{size_length, tag_length, circles_among, drop_tags, no_tags, before, listed, without_tags, untagged}

-- ---- one constraint: its size and its tag stand in front of what is left

module _ (a b map : ℕ) (size tag s : List ℕ) (size_long : length size ≡ size_length map) (tag_long : length tag ≡ tag_length map) where
  passed : drop (size_length map + tag_length map) (size ++ tag ++ s) ≡ s
  passed = drop_at (size ++ tag) s (size_length map + tag_length map) (rw (length-append, size_long, tag_long))

  pub drop_tags-front : (e : ℕ) → drop_tags (suc e) (a ∷ b ∷ map ∷ size ++ tag ++ s) ≡ a ∷ b ∷ without_bit1 map ∷ size ++ drop_tags e s
  unfolding drop_tags
  drop_tags-front e = rw (passed, append_assoc size tag s, take_at size (tag ++ s) (size_length map) size_long)

-- ---- where no map has bit 1, every byte stays

no_tags-same : (e : ℕ) (s : List ℕ) → no_tags e s ≡ true → drop_tags e s ≡ s
unfolding no_tags drop_tags
no_tags-same zero s h = refl
no_tags-same (suc e) [] h = refl
no_tags-same (suc e) (a ∷ []) h = refl
no_tags-same (suc e) (a ∷ b ∷ []) h = refl
no_tags-same (suc e) (a ∷ b ∷ map ∷ s) h =
    let both = and-true (eqb (map / 2 % 2) 0) _ h in
    let none : map / 2 % 2 ≡ 0 = eqb-true (map / 2 % 2) 0 both.0 in
    let stays : without_bit1 map ≡ map = omega arith in
    let step : size_length map + tag_length map ≡ size_length map = omega arith in
    rw (stays, no_tags-same e (drop (size_length map + tag_length map) s) both.1, step, take-append-drop (size_length map) s)

pub untagged-same : (s : List ℕ) → untagged s ≡ true → without_tags s ≡ s
unfolding untagged without_tags
untagged-same s h = rw (no_tags-same (listed s) (drop (before s) s) h) (take-append-drop (before s) s)

-- ---- what precedes the constraints of a sheet

module _ (n e : ℕ) (kinds radii s : List ℕ) where
  abbrev counts : Opening → List ℕ
  counts o = opening_bytes o ++ (n ∷ []) ++ kinds ++ radii

  abbrev sheet : Opening → List ℕ
  sheet o = counts o ++ (e ∷ s)

  -- the fields one after another
  abbrev whole : Opening → List ℕ → List ℕ
  whole o t = opening_bytes o ++ (n ∷ kinds ++ (radii ++ (e ∷ t)))

  regroup : (o : Opening) (t : List ℕ) → counts o ++ (e ∷ t) ≡ whole o t
  regroup o t = simp append_assoc

  abbrev head : Opening → ℕ
  head o = 6 + kind_bytes o n + 4 * circles_among (kinds_of o n (number kinds))

  -- the kinds stand behind the opening and the count
  kinds-stand : (k : ℕ) → length kinds ≡ k → take k ((kinds ++ radii) ++ (e ∷ s)) ≡ kinds
  kinds-stand k l = rw (append_assoc kinds radii (e ∷ s)) (take_at kinds (radii ++ (e ∷ s)) k l)

  before-is : (o : Opening) → length kinds ≡ kind_bytes o n → before (sheet o) ≡ head o
  unfolding before
  before-is Pf01 l = ap (λ (x : List ℕ). 6 + kind_bytes Pf01 n + 4 * circles_among (kinds_of Pf01 n (number x))) (kinds-stand _ l)
  before-is Pf02 l = ap (λ (x : List ℕ). 6 + kind_bytes Pf02 n + 4 * circles_among (kinds_of Pf02 n (number x))) (kinds-stand _ l)

  module _ (o : Opening) (kinds-long : length kinds ≡ kind_bytes o n) (radii-long : length radii ≡ 4 * circles_among (kinds_of o n (number kinds))) where
    counts-long : length (counts o) ≡ 5 + kind_bytes o n + length radii
    counts-long = simp (length-append, opening-length o) (omega (arith, kinds-long))

    counted : listed (sheet o) ≡ e
    counted =
        let at : before (sheet o) - 1 ≡ length (counts o) + 0 = omega (arith, before-is o kinds-long, counts-long) in
        ap (λ (k : ℕ). get_or (sheet o) k 0) at ∙ get_or-append-add (counts o) (e ∷ s) 0 0

    long : length (counts o ++ (e ∷ [])) ≡ before (sheet o)
    long = rw (length-append (counts o) (e ∷ [])) (omega (arith, before-is o kinds-long, counts-long))

    split : sheet o ≡ (counts o ++ (e ∷ [])) ++ s
    split = sym (append_assoc (counts o) (e ∷ []) s)

    front : take (before (sheet o)) (sheet o) ≡ counts o ++ (e ∷ [])
    front = ap (take (before (sheet o))) split ∙ take_at (counts o ++ (e ∷ [])) s (before (sheet o)) long

    rest : drop (before (sheet o)) (sheet o) ≡ s
    rest = ap (drop (before (sheet o))) split ∙ drop_at (counts o ++ (e ∷ [])) s (before (sheet o)) long

    pub without_tags-front : without_tags (whole o s) ≡ whole o (drop_tags e s)
    unfolding without_tags
    without_tags-front =
        rw (← regroup o s, ← regroup o (drop_tags e s), counted, front, rest) (append_assoc (counts o) (e ∷ []) (drop_tags e s))

    pub untagged-front : untagged (whole o s) ≡ no_tags e s
    unfolding untagged
    untagged-front = rw (← regroup o s, counted, rest)
