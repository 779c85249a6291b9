-- Laws of writing into lent space: one piece of writing after another is the writing of both, and what is put from the front, measured first, gives
-- `answer` and `after`. Assumes nothing.
use Rattle.std.specs.Prelude.{ℕ, suc, ◌+◌, ◌≤◌, ◌<◌, ◌≡◌, refl, List, [], ◌∷◌, ◌++◌, length, take, drop, set, get_or}
use Rattle.std.proofs.Common.{add-zero, zero-add, add-suc, suc-add, add-one, arith, lt-ltb, le-ltb, sym}
use Rattle.std.proofs.Common.{ap, ◌∙◌, subst, length-append, length-set, drop_of_length-le, take_at, drop-cons}
use Rattle.std.proofs.lemmas.List.Edits.{sets, sets-eq}
use Rattle.std.proofs.Math.Seq.{length-sets}
use Rattle.space.specs.Written.{Done, Refused}
use Rattle.space.specs.Space.{Put, answer, after}

-- ---- runs of stores

pub sets-append : {A : Type 0} (xs ys l : List A) (i : ℕ) → sets l i (xs ++ ys) ≡ sets (sets l i xs) (i + length xs) ys
sets-append [] ys l i = rw add-zero
sets-append (x ∷ xs) ys l i = sets-append xs ys (set l i x) (suc i) ∙ rw (add-suc, suc-add)

pub sets-front : {A : Type 0} (xs l : List A) → length xs ≤ length l → sets l 0 xs ≡ xs ++ drop (length xs) l
sets-front xs l h = sets-eq xs l 0 (omega arith) ∙ rw zero-add

-- items stored one after another: what is left of them, put from the place reached, makes the space that all of them make
pub record Storing {A : Type 0} (space : List A) (at : ℕ) (items : List A) (i : ℕ) (now : List A) : Type 0 where
  pub bound : i ≤ length items
  pub length_is : length now ≡ length space
  pub sets_is : sets space at items ≡ sets now (at + i) (drop i items)

pub storing-none : {A : Type 0} (space : List A) (at : ℕ) (items : List A) → Storing space at items 0 space
storing-none space at items = record { bound = omega arith; length_is = refl; sets_is = rw add-zero }

pub storing-one : {A : Type 0} {space now items : List A} {at i j : ℕ} (d : A) → j ≡ at + i → i < length items → Storing space at items i now
    → Storing space at items (i + 1) (set now j (get_or items i d))
storing-one {space = space} {now} {items} {at} {i} d j-is h s =
    record {
      bound = omega arith;
      length_is = simp length-set s.length_is;
      sets_is = s.sets_is ∙ rw (drop-cons items i d h, j-is, add-one, add-suc);
    }

-- the same of an item that is read
pub storing-read : {A : Type 0} {space now items : List A} {i : ℕ} {x : A} → x ≡ get_or items i x → i < length items
    → Storing space 0 items i now → Storing space 0 items (i + 1) (set now i x)
storing-read {A} {space} {now} {items} {i} {x} e h s =
    subst (λ (y : A). Storing space 0 items (i + 1) (set now i y)) (sym e) (storing-one x (omega arith) h s)

pub storing-all : {A : Type 0} {space now items : List A} {at i : ℕ} → length items ≤ i → Storing space at items i now
    → now ≡ sets space at items
storing-all {items = items} h s = sym (s.sets_is ∙ rw (drop_of_length-le items h))

-- ---- pieces of writing

pub put-none : {A : Type 0} (space : List A) (at : ℕ) → Put space at [] at space
put-none space at = record { next_is = rw add-zero; length_is = refl; after_is = λ h. refl }

pub put_as : {A : Type 0} {space s1 xs ys : List A} {at next : ℕ} → xs ≡ ys → Put space at xs next s1 → Put space at ys next s1
put_as e p = rw e at p

infixl 5 ◌then◌
pub ◌then◌ : {A : Type 0} {space s1 s2 xs ys : List A} {at a1 a2 : ℕ} → Put space at xs a1 s1 → Put s1 a1 ys a2 s2 → Put space at (xs ++ ys) a2 s2
◌then◌ {space} {s1} {s2} {xs} {ys} {at} {a1} {a2} p q =
    record {
      next_is = rw length-append (omega (arith, p.next_is, q.next_is));
      length_is = q.length_is ∙ p.length_is;
      after_is = λ h.
          let long : length (xs ++ ys) ≡ length xs + length ys = length-append xs ys in
          q.after_is (omega (arith, p.next_is, p.length_is))
          ∙ rw (p.next_is, p.after_is (omega arith)) (sym (sets-append xs ys space at));
    }

-- the stores are made
pub put_all : {A : Type 0} {space items after : List A} {at next : ℕ} → next ≡ at + length items → after ≡ sets space at items
    → Put space at items next after
put_all {space} {items} {after} {at} n e =
    record { next_is = n; length_is = ap length e ∙ length-sets space at items; after_is = λ h. e }

-- one item
pub put_one : {A : Type 0} {space after : List A} {at : ℕ} {x : A} → after ≡ set space at x → Put space at (x ∷ []) (at + 1) after
put_one e = put_all refl e

-- no store where there is no room
pub put-short : {A : Type 0} {space items : List A} {at next : ℕ} → next ≡ at + length items → length space < next → Put space at items next space
put-short n h = record { next_is = n; length_is = refl; after_is = λ room. absurd (omega arith) }

-- ---- measured, then written

-- the writing over no space leaves it
pub none_left : {A : Type 0} {items after : List A} {at next : ℕ} → Put [] at items next after → after ≡ []
none_left {after = []} p = refl
none_left {after = x ∷ xs} p = absurd (omega (arith, p.length_is))

-- items that have no room are refused
pub put_refused : {A : Type 0} (items space : List A) → length space < length items
    → (Refused 17 ≡ answer items space) × (space ≡ after items space)
unfolding answer after
put_refused items space h = rw (lt-ltb _ _ h) (refl, refl)

pub long-answer : {A : Type 0} (items space : List A) → length items ≤ length space → answer items space ≡ Done (length items)
unfolding answer
long-answer items space h = rw (le-ltb _ _ h)

-- items that have room are put from the front
pub put-after : {A : Type 0} {items space left : List A} {next : ℕ} → length items ≤ length space → Put space 0 items next left
    → left ≡ after items space
unfolding after
put-after {items} {space} h p = rw (le-ltb _ _ h) (p.after_is (omega arith) ∙ sets-front items space h)

pub put-done : {A : Type 0} {items space left : List A} {next : ℕ} → length items ≤ length space → Put space 0 items next left
    → (Done next ≡ answer items space) × (left ≡ after items space)
put-done h p = (ap Done (p.next_is ∙ zero-add _) ∙ sym (long-answer _ _ h), put-after h p)

-- items put from the front of a space that has room for them stand there
pub put-stands : {A : Type 0} {items space left : List A} {next : ℕ} → length items ≤ length space → Put space 0 items next left
    → take next left ≡ items
put-stands {items} {space} {left} {next} room p =
    ap (take next) (p.after_is (omega arith) ∙ sets-front items space room) ∙ take_at items _ next (omega (arith, p.next_is))

-- items that have room, all of them stored
pub stored : {A : Type 0} {items space now : List A} {i : ℕ} → length items ≤ length space → length items ≤ i → Storing space 0 items i now
    → (Done (length items) ≡ answer items space) × (now ≡ after items space)
stored h m s = put-done h (put_all (sym (zero-add _)) (storing-all m s))
