-- A list and one with more, anywhere and in any order: what it has, what its sets carry, at which numbers it stands. Assumes nothing.
use Rattle.std.specs.Prelude.{◌≡◌, ◌∷◌, ◌++◌, ◌≤◌, ◌<◌}
use Rattle.theory.specs.Prelude.{sym, ap, inl, inr, List, [], map, map-append, ℕ, zero, suc, arith, length}
use Rattle.theory.specs.Constraints.{Among, Pairs, Below, Perm, same, skip, swap, then, carried, NotOver}
use Rattle.theory.specs.Constraints.Laws.{among-perm, carried-perm, perm-map}
use Rattle.theory.specs.Merge.{slot}
use Rattle.theory.specs.Growth.{More, Numbered}

-- ---- what it has

among-front : (cs ds : List ℕ) (x : ℕ) → Among x cs → Among x (cs ++ ds)
among-front [] ds x i = absurd i
among-front (c ∷ cs) ds x (inl e) = inl e
among-front (c ∷ cs) ds x (inr i) = inr (among-front cs ds x i)

pub more-map : {A B : Type 0} (f : A → B) {l k : List A} → More l k → More (map f l) (map f k)
more-map f {l} m = record { added = map f m.added; order = rw (map-append f l m.added) at (perm-map f m.order) }

module _ {cs ds : List ℕ} (m : More cs ds) where
  pub more-among : (x : ℕ) → Among x cs → Among x ds
  more-among x i = (among-perm m.order x).0 (among-front cs m.added x i)

  pub more-pairs : Pairs ds → Pairs cs
  unfolding Pairs
  more-pairs h x i = h x (more-among x i)

  pub more-below : (n : ℕ) → Below n ds → Below n cs
  unfolding Below
  more-below n h x i = h x (more-among x i)

-- ---- what its sets carry

carried-front : (cs ds : List ℕ) (x : ℕ) → carried cs x ≤ carried (cs ++ ds) x
unfolding carried
carried-front [] ds x = omega arith
carried-front (c ∷ cs) ds x = omega (arith, carried-front cs ds x)

-- with fewer constraints it is not over either
pub more-fine : {cs ds : List ℕ} → More cs ds → NotOver ds → NotOver cs
unfolding NotOver
more-fine {cs} m h x b = omega (arith, h x b, carried-perm m.order x, carried-front cs m.added x)

-- ---- at which numbers it stands

numbered-front : {A : Type 0} (l k : List A) (i : ℕ) (c : A) → Numbered l i c → Numbered (l ++ k) i c
numbered-front [] k i c h = absurd h
numbered-front (x ∷ l) k zero c h = h
numbered-front (x ∷ l) k (suc i) c h = numbered-front l k i c h

numbered-perm : {A : Type 0} {l k : List A} → Perm l k → (i : ℕ) (c : A) → Numbered l i c → (j : ℕ) × Numbered k j c
numbered-perm same i c h = (i, h)
numbered-perm (skip x p) zero c h = (zero, h)
numbered-perm (skip x p) (suc i) c h = let r = numbered-perm p i c h in (suc r.0, r.1)
numbered-perm (swap x y) zero c h = (suc zero, h)
numbered-perm (swap x y) (suc zero) c h = (zero, h)
numbered-perm (swap x y) (suc (suc i)) c h = (suc (suc i), h)
numbered-perm (then p q) i c h = let r = numbered-perm p i c h in numbered-perm q r.0 c r.1

pub more-numbered : {A : Type 0} {l k : List A} → More l k → (i : ℕ) (c : A) → Numbered l i c → (j : ℕ) × Numbered k j c
more-numbered {A} {l} m i c h = numbered-perm m.order i c (numbered-front l m.added i c h)

pub numbered-lt : {A : Type 0} (l : List A) (i : ℕ) (c : A) → Numbered l i c → i < length l
numbered-lt [] i c h = absurd h
numbered-lt (x ∷ l) zero c h = omega arith
numbered-lt (x ∷ l) (suc i) c h = omega (arith, numbered-lt l i c h)

pub numbered-map : {A B : Type 0} (f : A → B) (l : List A) (i : ℕ) (c : A) → Numbered l i c → Numbered (map f l) i (f c)
numbered-map f [] i c h = absurd h
numbered-map f (x ∷ l) zero c h = ap f h
numbered-map f (x ∷ l) (suc i) c h = numbered-map f l i c h

pub numbered-slot : (l : List ℕ) (i c : ℕ) → Numbered l i c → slot l i ≡ c
numbered-slot [] i c h = absurd h
numbered-slot (x ∷ l) zero c h = sym h
numbered-slot (x ∷ l) (suc i) c h = numbered-slot l i c h
