-- Laws of the constraint graph in lent arrays: one constraint more, and each constraint out again. Assumes nothing.
use Rattle.std.specs.Prelude.{◌+◌, ◌*◌, ◌^◌, ◌-◌, ◌%◌, ◌/◌, ◌<◌, ◌≤◌, ◌≡◌, ◌≢◌, ◌||◌, ◌∷◌, ◌++◌}
use Rattle.theory.specs.Prelude.{ℕ, zero, suc, le_of_suc-le-suc, pow-succ', pow-le-pow_right, arith, refl, ◌∙◌, subst}
use Rattle.theory.specs.Prelude.{⊎_elim, true, false, not, List, [], map, map-append, append_assoc, leb-true, leb, ℤ, pos, negsuc}
use Rattle.theory.specs.Prelude.{pow_pos, count_trailing_zeros, under, length, get_or, set, replicate, length-map, length-append, List·getD-append}
use Rattle.theory.specs.Prelude.{set-append_seam, Bool, ltb, ltb-true, ltb-false}
use Rattle.std.specs.Prelude.{Option, None, Some, IfNone, IfSome}
use Rattle.std.specs.Option.{unwrap_or}
use Rattle.theory.specs.Set.{◌∈◌, at}
use Rattle.theory.specs.Set.Less.{trailing_at, at_room}
use Rattle.theory.specs.Constraints.{pair}
use Rattle.theory.specs.Constraints.Laws.{at_pair, at-end, pair-below}
use Rattle.sheet.specs.declared.Constraint.{Constraint}
use Rattle.sheet.specs.declared.Element.{Element}
use Rattle.sheet.specs.declared.Kind.{Kind}
use Rattle.sheet.specs.declared.Kind.TheVariants.{Point, Line, Circle}
use Rattle.sheet.specs.declared.PairKind.{PairKind}
use Rattle.sheet.specs.declared.PairKind.TheVariants.{Points, PointLine, Lines}
use Rattle.sheet.specs.declared.Size.{Size}
use Rattle.sheet.specs.declared.Size.TheVariants.{Given, Unfit}
use Rattle.theory.specs.Block.{block}
use Rattle.sheet.specs.Facts.{Facts, is_circle, radius_of, kind_at}
use Rattle.sheet.specs.Facts.Laws.{and-true}
use Rattle.sheet.specs.Rules.{radius_in_range, radii_in_range, pair_of, size_in_range, size_fault, constraint_fault, constraints_fault}
use Rattle.sheet.specs.Rules.Laws.{ends-true, unless-none, none-else}
use Rattle.sheet.specs.Accepted.{Accepted}
use Rattle.sheet.specs.Accepted.Laws.{taken, accepted-most}
use Rattle.sheet.specs.Graph.{cluster_of}
use Rattle.sheet.specs.Noted.{Noted}
use Rattle.sheet.specs.Noted.Laws.{noted-none, clusters-more}
use Rattle.graph.specs.Lent.{code_of, Fits, InArrays, EndsIn, CodesIn, Unpacks}

-- ---- a block with one item more

block_more : {A : Type 0} (places : ℕ) (blank : A) (xs : List A) (x : A) → length xs < places
    → set (block places blank xs) (length xs) x ≡ block places blank (xs ++ x ∷ [])
block_more places blank xs x l =
    let m : places - length xs ≡ suc (places - (length xs + 1)) = omega arith in
    rw (m, set-append_seam xs blank (replicate (places - (length xs + 1)) blank) x, length-append, append_assoc)

-- the item at the end of a list in its block
filled_more : {A : Type 0} {l : List A} (blank : A) (xs : List A) (x : A) {ys : List A} (i : ℕ) → length xs ≡ i → i < 200 → ys ≡ xs ++ x ∷ []
    → l ≡ block 200 blank xs → set l i x ≡ block 200 blank ys
filled_more blank xs x i n l more is = rw (is, more, ← n) (block_more 200 blank xs x (rw n l))

pub in-arrays-none : InArrays [] (replicate 64 0) (replicate 200 0) (replicate 200 (pos 0))
in-arrays-none = record { noted = noted-none; start_is = refl; codes_are = refl }

pub ends_more : {near near' start : List ℕ} (cs : List Constraint) (c : Constraint) (i : ℕ) → length cs ≡ i → i < 200
    → EndsIn cs near start → Noted near' (cs ++ c ∷ []) → EndsIn (cs ++ c ∷ []) near' (set start i (pair c.first c.second))
ends_more cs c i n l h more = record {
  ends_noted = more;
  ends_start =
      filled_more 0 (map cluster_of cs) (pair c.first c.second) i (length-map cs _ ∙ n) l (clusters-more cs c)
      h.ends_start;
}

pub codes-more : {codes : List ℤ} (cs : List Constraint) (c : Constraint) (i : ℕ) → length cs ≡ i → i < 200
    → CodesIn cs codes → CodesIn (cs ++ c ∷ []) (set codes i (code_of c.size))
codes-more cs c i n l h = record {
  codes_stand =
      filled_more (pos 0) (map (λ d. code_of d.size) cs) (code_of c.size) i (length-map cs _ ∙ n) l
      (map-append (λ d. code_of d.size) cs (c ∷ []))
      h.codes_stand;
}

-- all three
module _ {cs : List Constraint} {near start : List ℕ} {codes : List ℤ} where
  pub ends-in : InArrays cs near start codes → EndsIn cs near start
  ends-in h = record { ends_noted = h.noted; ends_start = h.start_is }

  pub codes-in : InArrays cs near start codes → CodesIn cs codes
  codes-in h = record { codes_stand = h.codes_are }

  pub in-arrays : EndsIn cs near start → CodesIn cs codes → InArrays cs near start codes
  in-arrays e c = record { noted = e.ends_noted; start_is = e.ends_start; codes_are = c.codes_stand }

-- ---- a constraint out of the arrays

pub get_or-mapped : {A B : Type 0} (f : A → B) (xs : List A) (i : ℕ) (d : B) (e : A) → i < length xs → get_or (map f xs) i d ≡ f (get_or xs i e)
get_or-mapped f [] i d e l = absurd (omega arith)
get_or-mapped f (x ∷ xs) zero d e l = refl
get_or-mapped f (x ∷ xs) (suc i) d e l = get_or-mapped f xs i d e (le_of_suc-le-suc l)

module _ {cs : List Constraint} {near start : List ℕ} {codes : List ℤ} (h : InArrays cs near start codes) (i : ℕ) (d : Constraint)
    (l : i < length cs) where
  pub pair-in-start : get_or start i 0 ≡ pair (get_or cs i d).first (get_or cs i d).second
  pair-in-start =
      let k : i < length (map cluster_of cs) = rw length-map l in
      rw h.start_is (List·getD-append (map cluster_of cs) _ 0 i k ∙ get_or-mapped cluster_of cs i 0 d l)

  pub code-in-codes : get_or codes i (pos 0) ≡ code_of (get_or cs i d).size
  code-in-codes =
      let k : i < length (map (λ c. code_of c.size) cs) = rw length-map l in
      rw h.codes_are
      (List·getD-append (map (λ c. code_of c.size) cs) _ (pos 0) i k ∙ get_or-mapped (λ c. code_of c.size) cs i (pos 0) d l)

trailing-least : (k x a : ℕ) → x ∈ a → count_trailing_zeros k a ≤ x
unfolding count_trailing_zeros at
trailing-least zero x a e = omega arith
trailing-least (suc k) zero a e = rw e (omega arith)
trailing-least (suc k) (suc x) a e = either (a % 2) (trailing-least k x (a / 2) e)
  where
    either : (d : ℕ) → count_trailing_zeros k (a / 2) ≤ x → under d (count_trailing_zeros k (a / 2)) ≤ suc x
    either zero h = omega arith
    either (suc d) h = omega arith

-- the powers of two around a number are one pair
one : {b m : ℕ} (k : ℕ) → 2 ^ b ≤ m → m < 2 ^ suc b → 2 ^ k ≤ m → m < 2 * 2 ^ k → k ≡ b
one {b} {m} k least most low high = below (ltb k b) (ltb b k) refl refl
  where
    below : (s t : Bool) → ltb k b ≡ s → ltb b k ≡ t → k ≡ b
    below true t e f =
        absurd (omega (arith, pow-succ' 2 k, pow-le-pow_right {n = 2} (omega arith) {i = suc k} {j = b} (ltb-true k b e)))
    below false true e f = absurd (omega (arith, pow-le-pow_right {n = 2} (omega arith) {i = suc b} {j = k} (ltb-true b k f)))
    below false false e f = omega (arith, ltb-false k b e, ltb-false b k f)

-- the two elements of a pair
module _ (a b : ℕ) (l : a < b) (m : b < 64) where
  pub pair-some : 0 < pair a b
  pair-some = let h = at_room a (pair a b) (at-end a b).0 in omega (arith, pow_pos a)

  pub pair-lowest : count_trailing_zeros 64 (pair a b) ≡ a
  pair-lowest =
      let least = trailing-least 64 a (pair a b) (at-end a b).0 in
      ⊎_elim (λ e. e) (λ e. absurd (omega arith))
      (at_pair (count_trailing_zeros 64 (pair a b)) a b (trailing_at 64 (pair a b) pair-some (pair-below 64 a b (omega arith) m)))

  pub pair-highest : (o : Option ℕ) → IfNone o (pair a b ≡ 0) → IfSome o (λ k. 2 ^ k ≤ pair a b) → IfSome o (λ k. pair a b < 2 * 2 ^ k)
      → unwrap_or o 0 ≡ b
  pair-highest None none low high = absurd (omega (arith, pair-some))
  pair-highest (Some k) none low high =
      let least : 2 ^ b ≤ pair a b = at_room b (pair a b) (at-end a b).1 in
      let most : pair a b < 2 ^ suc b = pair-below (suc b) a b (omega arith) (omega arith) in
      one k least most low high

pub constraint-is : {c : Constraint} {a b : ℕ} {s : Size} → a ≡ c.first → b ≡ c.second → s ≡ c.size
    → record { first = a; second = b; size = s } ≡ c
constraint-is e f g = rw (e, f, g)

-- ---- the constraints of an accepted sheet

-- no rule takes a size that is a contact's number, nor 0
not_taken : (p : PairKind) → (size_in_range p (pos 0) ≡ false) × (size_in_range p (pos 100000) ≡ false) × (size_in_range p (negsuc 99999) ≡ false)
not_taken Points = (refl, refl, refl)
not_taken PointLine = (refl, refl, refl)
not_taken Lines = (refl, refl, refl)

given-taken : (j k : Kind) (s : Size) (z : ℤ) → size_fault j k s ≡ 0 → size_in_range (pair_of j k) z ≡ false → s ≢ Given z
unfolding size_fault
given-taken j k s z e out q =
    let taken : size_fault j k (Given z) ≡ 0 = subst (λ (x : Size). size_fault j k x ≡ 0) q e in
    let range = (unless-none (size_in_range (pair_of j k) z) 8 0 taken).0 in
    let n : ◌≡◌ {A = ℕ} 0 1 = cc in omega arith

pub taken-fits : (j k : Kind) (s : Size) → size_fault j k s ≡ 0 → Fits s
unfolding size_fault
taken-fits j k s e =
    let n = not_taken (pair_of j k) in
    record {
      not_zero = given-taken j k s (pos 0) e n.0;
      not_tangent = given-taken j k s (pos 100000) e n.1;
      not_other = given-taken j k s (negsuc 99999) e n.2;
      fit = λ q. let z : size_fault j k Unfit ≡ 0 = subst (λ (x : Size). size_fault j k x ≡ 0) q e in omega arith;
    }

faults-unpack : (es : List Element) (cs done : List Constraint) (i : ℕ) (d : Constraint) → length es ≤ 64
    → constraints_fault es done cs ≡ 0 → i < length cs
    → Unpacks (get_or cs i d)
unfolding constraints_fault
faults-unpack es [] done i d m e l = absurd (omega arith)
faults-unpack es (c ∷ cs) done zero d m e l =
    let h = none-else (constraint_fault es done c) (constraints_fault es (done ++ c ∷ []) cs) e in
    let t = taken es done c h.0 in
    let o = ends-true (length es) c.first c.second t.ends-ascend in
    record {
      ascend = o.0;
      below = omega (arith, o.1);
      fits = taken-fits (kind_at es c.first) (kind_at es c.second) c.size t.size_fits;
    }
faults-unpack es (c ∷ cs) done (suc i) d m e l =
    let h = none-else (constraint_fault es done c) (constraints_fault es (done ++ c ∷ []) cs) e in
    faults-unpack es cs (done ++ c ∷ []) i d m h.1 (le_of_suc-le-suc l)

pub accepted-unpack : (f : Facts) (i : ℕ) (d : Constraint) → Accepted f → i < length f.constraints → Unpacks (get_or f.constraints i d)
accepted-unpack f i d h l = faults-unpack f.elements f.constraints [] i d (accepted-most f h) h.no_fault l

-- ---- radii

-- no radius is above 40,000
pub radius-most : (xs : List Element) → radii_in_range xs ≡ true → (i : ℕ) → radius_of (kind_at xs i) ≤ 40000
unfolding radii_in_range
radius-most [] e i = omega arith
radius-most (x ∷ xs) e zero = one x.kind (and-true (not (is_circle x.kind) || radius_in_range (radius_of x.kind)) (radii_in_range xs) e).0
  where
    one : (k : Kind) → not (is_circle k) || radius_in_range (radius_of k) ≡ true → radius_of k ≤ 40000
    one Point e = omega arith
    one Line e = omega arith
    one (Circle r) e = leb-true r 40000 (and-true (leb 1 r) (leb r 40000) e).1
radius-most (x ∷ xs) e (suc i) =
    radius-most xs (and-true (not (is_circle x.kind) || radius_in_range (radius_of x.kind)) (radii_in_range xs) e).1 i
