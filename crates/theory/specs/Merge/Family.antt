-- The clusters as a family of sets, a predicate: the numbers and the order of the clusters are of no account there. Families are what the
-- proofs of "Every order of merging" work with; the numbered clusters are shown to step as their family does. A name
-- that ends in In is of families what the name without it is of numbered clusters. Assumes nothing.
use Rattle.std.specs.Prelude.{◌≡◌, ◌≢◌, ◌↔◌, ◌⊎◌, ◌∷◌, ◌+◌, ◌*◌}
use Rattle.theory.specs.Prelude.{List, [], length, ℕ, zero, dec_le, ones}
use Rattle.theory.specs.Merge.{Open, Three, union, joint, Merge, slot, three, put, final, joints, live}
use Rattle.theory.specs.Set.{◌∩◌, ◌∪◌}
use Rattle.theory.specs.Constraints.{carried, Among}
pub mod Invariant
pub mod Diamond
pub mod Outcome

abbrev pub In : ℕ → Three → Type 0
In x t = (x ≡ t.a) ⊎ (x ≡ t.b) ⊎ (x ≡ t.c)

abbrev pub Fam : Type 1
Fam = ℕ → Type 0

abbrev pub Same : Fam → Fam → Type 0
Same F G = (x : ℕ) → F x ↔ G x

-- an open merge of the family: three of its sets, and they are open
pub record OpenIn (F : Fam) (t : Three) : Type 0 where
  pub ina : F t.a
  pub inb : F t.b
  pub inc : F t.c
  pub open3 : Open t.a t.b t.c

-- the merge removes the three and puts in their union
abbrev pub after : Fam → Three → Fam
after F t x = (x ≡ union t) ⊎ (F x × (In x t → ⊥))

-- each set carries exactly twice its size less 3, and no constraint lies in two of them
pub record Good (cs : List ℕ) (F : Fam) : Type 0 where
  pub tight : (x : ℕ) → F x → carried cs x + 3 ≡ 2 * ones x
  pub apart : (x y : ℕ) → F x → F y → x ≢ y → carried cs (x ∩ y) ≡ zero

-- ---- lists of merges

-- each merge is open among the clusters that the one before it left
abbrev pub ValidIn : Fam → List Three → Type 0
ValidIn F [] = Unit {0}
ValidIn F (t ∷ p) = OpenIn F t × ValidIn (after F t) p

-- the clusters living at the end
abbrev pub final_in : Fam → List Three → Fam
final_in F [] = F
final_in F (t ∷ p) = final_in (after F t) p

-- none is open
unfoldable pub EndedIn : Fam → Type 0
EndedIn F = (t : Three) → OpenIn F t → ⊥

abbrev pub joints_in : List Three → List ℕ
joints_in [] = []
joints_in (t ∷ p) = joint t ∷ joints_in p

-- two lists of merges with the same final clusters, joints and number of steps
pub record AlikeIn (F G : Fam) (p q : List Three) : Type 0 where
  pub finals : Same (final_in F p) (final_in G q)
  pub steps : length p ≡ length q
  pub same_joints : (x : ℕ) → Among x (joints_in p) ↔ Among x (joints_in q)

-- the initial clusters
abbrev pub start : List ℕ → Fam
start cs x = Among x cs

-- ---- clusters by number

-- no two living clusters are the same set
unfoldable pub Distinct : List ℕ → Type 0
Distinct s = (p q : ℕ) → slot s p ≢ 0 → slot s p ≡ slot s q → p ≡ q

-- the threes of a list of merges
abbrev pub threes : List ℕ → List Merge → List Three
threes s [] = []
threes s (m ∷ p) = three s m ∷ threes (put s m) p

-- two lists of merges of numbered clusters with the same final clusters, joints and number of steps
pub record Alike (s r : List ℕ) (p q : List Merge) : Type 0 where
  pub finals : Same (live (final s p)) (live (final r q))
  pub steps : length p ≡ length q
  pub same_joints : (x : ℕ) → Among x (joints s p) ↔ Among x (joints r q)

-- ---- what becomes of a set when u is made: it is swallowed if it shares two elements with u

choose : {P : Type 0} → Dec P → ℕ → ℕ → ℕ
choose (yes p) x y = x
choose (no n) x y = y

unfoldable pub absorb : ℕ → ℕ → ℕ
unfolding choose
absorb u x = choose (dec_le 2 (ones (x ∩ u))) (x ∪ u) x

-- what stands for the three s once t is merged: the union for a cluster in common
unfoldable pub moved_in : Three → Three → Three
moved_in t s = record { a = absorb (union t) s.a; b = absorb (union t) s.b; c = absorb (union t) s.c }

-- ---- the two outcomes for two open merges of a family: they are one merge, or each is still open once the other is made, with the joint it had,
-- and after both the same clusters live

pub data Meeting (F : Fam) (t s : Three) : Type 0 where
  coincide : ((x : ℕ) → In x t ↔ In x s) → joint s ≡ joint t → Same (after F t) (after F s) → Meeting F t s
  commute : OpenIn (after F t) (moved_in t s) → OpenIn (after F s) (moved_in s t) → joint (moved_in t s) ≡ joint s → joint (moved_in s t) ≡ joint t
      → Same (after (after F t) (moved_in t s)) (after (after F s) (moved_in s t)) → Meeting F t s
