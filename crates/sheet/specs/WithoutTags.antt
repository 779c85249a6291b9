-- A sheet with bit 1 clear and the tag bytes gone (document 02, 2026-11), field by field on its bytes alone.
use Rattle.std.specs.Prelude.{ℕ, zero, suc, ◌+◌, ◌*◌, ◌-◌, ◌/◌, ◌%◌, Bool, true, ◌&&◌, cond, List, [], ◌∷◌, ◌++◌, eqb, take, drop, get_or}
use Rattle.sheet.specs.declared.Opening.{Opening}
use Rattle.sheet.specs.declared.Opening.TheVariants.{Pf01, Pf02}
use Rattle.sheet.specs.Facts.{bit_of, kinds_of}
use Rattle.sheet.specs.Field.{number, kind_bytes}
use Rattle.sheet.specs.Rules.{without_bit1}
pub mod Laws

-- ---- a bit map: bit 0 stands before four bytes of size, bit 1 before two bytes of tag

abbrev pub size_length : ℕ → ℕ
size_length map = 4 * (map % 2)

abbrev pub tag_length : ℕ → ℕ
tag_length map = 2 * (map / 2 % 2)

-- ---- so many constraints, each its two ends, its bit map, its size and its tag

unfoldable pub drop_tags : ℕ → List ℕ → List ℕ
drop_tags zero s = s
drop_tags (suc e) (first ∷ second ∷ map ∷ s) =
    first ∷ second ∷ without_bit1 map ∷ take (size_length map) s ++ drop_tags e (drop (size_length map + tag_length map) s)
drop_tags (suc e) [] = []
drop_tags (suc e) (first ∷ []) = first ∷ []
drop_tags (suc e) (first ∷ second ∷ []) = first ∷ second ∷ []

-- no map has bit 1
unfoldable pub no_tags : ℕ → List ℕ → Bool
no_tags zero s = true
no_tags (suc e) (first ∷ second ∷ map ∷ s) = eqb (map / 2 % 2) 0 && no_tags e (drop (size_length map + tag_length map) s)
no_tags (suc e) [] = true
no_tags (suc e) (first ∷ []) = true
no_tags (suc e) (first ∷ second ∷ []) = true

-- ---- the sheet: four bytes of opening, n, the kinds, four bytes of radius for each circle, and e precede the constraints

abbrev pub opening_in : List ℕ → Opening
opening_in s = cond (eqb (get_or s 3 0) 0x32) Pf02 Pf01

abbrev pub kinds_in_bytes : Opening → ℕ → List ℕ → List ℕ
kinds_in_bytes o n s = kinds_of o n (number (take (kind_bytes o n) (drop 5 s)))

unfoldable pub circles_among : List ℕ → ℕ
circles_among [] = 0
circles_among (k ∷ ks) = bit_of (eqb k 2) + circles_among ks

abbrev pub before_by : Opening → ℕ → List ℕ → ℕ
before_by o n s = 6 + kind_bytes o n + 4 * circles_among (kinds_in_bytes o n s)

unfoldable pub before : List ℕ → ℕ
before s = before_by (opening_in s) (get_or s 4 0) s

abbrev pub listed : List ℕ → ℕ
listed s = get_or s (before s - 1) 0

unfoldable pub without_tags : List ℕ → List ℕ
without_tags s = take (before s) s ++ drop_tags (listed s) (drop (before s) s)

unfoldable pub untagged : List ℕ → Bool
untagged s = no_tags (listed s) (drop (before s) s)
