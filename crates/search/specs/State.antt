-- What the search for the first open merge keeps beside the slots: the rim, the links of the rim, the holders of each element and the clusters
-- that wait to be looked at. Clusters by number, a dead one 0, as in `theory`. Assumes nothing.
use Rattle.std.specs.Prelude.{◌≡◌, ◌≢◌, ◌⊎◌, ◌+◌, ◌*◌, ◌/◌, ◌%◌, ◌≤◌, ◌<◌}
use Rattle.theory.specs.Prelude.{List, ℕ, min, max, bit_and, bit_xor, ones, length, get_or}
use Rattle.theory.specs.Set.{◌∈◌, ◌∩◌, ◌∪◌, at}
use Rattle.sets.specs.Image.{Image}
use Rattle.theory.specs.Merge.{slot, Merge, merge, Three, OpenAt, ShareOne, Part, three, union}
pub mod Triangle
pub mod Open
pub mod Choice
pub mod Step
pub mod Sheet

-- ---- the arrays, read

-- the elements linked to p
abbrev pub linked : List ℕ → ℕ → ℕ
linked links p = get_or links p 0

-- is cluster c noted as a holder of element p? 1 or 0
abbrev pub holder : List ℕ → ℕ → ℕ → ℕ
holder hold p c = at (c % 64) (get_or hold (64 * (c / 64) + p) 0)

-- does cluster c wait to be looked at? 1 or 0
abbrev pub waits : List ℕ → ℕ → ℕ
waits todo c = at (c % 64) (get_or todo (c / 64) 0)

-- ---- what they say of the clusters s

-- what is true of the clusters of a sheet that is not over: two share at most one element, also one and the union of an open merge of three
-- others, and each has two elements or more
pub record Fine (s : List ℕ) : Type 0 where
  pub apart : ShareOne s
  pub later : (m : Merge) → OpenAt s m → (d : ℕ) → (Part d m → ⊥) → slot s d ≢ 0 → ones (slot s d ∩ union (three s m)) ≤ 1
  pub big : (c : ℕ) → slot s c ≢ 0 → 2 ≤ ones (slot s c)

-- an element that two clusters hold is in rim
pub record Rim (s : List ℕ) (rim : ℕ) : Type 0 where
  pub shared : (c d p : ℕ) → c ≢ d → p ∈ slot s c → p ∈ slot s d → p ∈ rim

-- two elements are linked only where a cluster holds both; and an element of the rim is linked to every other of its clusters
pub record Links (s : List ℕ) (rim : ℕ) (links : List ℕ) : Type 0 where
  pub only : (p r : ℕ) → r ∈ linked links p → (c : ℕ) × (p ∈ slot s c) × (r ∈ slot s c)
  pub every : (c p r : ℕ) → p ∈ rim → p ≢ r → p ∈ slot s c → r ∈ slot s c → r ∈ linked links p

-- the holders of an element of the rim: the slots, transposed
pub record Holds (s : List ℕ) (rim : ℕ) (hold : List ℕ) : Type 0 where
  pub is : (p c : ℕ) → p ∈ rim → c < 192 → holder hold p c ≡ at p (slot s c)

-- a cluster of an open merge waits; others may
pub record Todo (s todo : List ℕ) : Type 0 where
  pub waiting : (i j k : ℕ) → OpenAt s (merge i j k) → waits todo i ≡ 1

-- all of it, and no cluster stands from `used` on
pub record Ready (s : List ℕ) (used rim : ℕ) (links hold todo : List ℕ) : Type 0 where
  pub fine : Fine s
  pub beyond : (n : ℕ) → used ≤ n → slot s n ≡ 0
  pub rims : Rim s rim
  pub linking : Links s rim links
  pub holding : Holds s rim hold
  pub queued : Todo s todo

-- the links and the holders of the clusters below e, each element in the rim
pub record Begun (s : List ℕ) (e : ℕ) (links hold : List ℕ) : Type 0 where
  pub links_long : length links ≡ 64
  pub hold_long : length hold ≡ 192
  pub only : (p r : ℕ) → r ∈ linked links p → (c : ℕ) × (p ∈ slot s c) × (r ∈ slot s c)
  pub every : (c p r : ℕ) → c < e → p ∈ slot s c → r ∈ slot s c → r ∈ linked links p
  pub holding : (p c : ℕ) → p < 64 → c < e → holder hold p c ≡ at p (slot s c)
  pub free : (p c : ℕ) → p < 64 → c < 192 → e ≤ c → holder hold p c ≡ 0

-- ---- what a cluster reaches

-- r lies outside x and is linked to two elements of edge, which is a part of x
pub record Reached (links : List ℕ) (x edge r : ℕ) : Type 0 where
  pub p : ℕ
  pub q : ℕ
  pub differ : p ≢ q
  pub p_in : p ∈ edge
  pub q_in : q ∈ edge
  pub by_p : r ∈ linked links p
  pub by_q : r ∈ linked links q
  pub out : at r x ≡ 0

-- o is the set of the elements that x reaches by edge
pub record Outs (links : List ℕ) (x edge o : ℕ) : Type 0 where
  pub only : (r : ℕ) → r ∈ o → Reached links x edge r
  pub every : (r : ℕ) → Reached links x edge r → r ∈ o

-- what a has beyond b
abbrev pub beyond : ℕ → ℕ → ℕ
beyond a b = bit_xor a (bit_and a b)

-- the least number from lo on that has the property, or hi if none below hi has it
pub record Lowest (P : ℕ → Type 0) (lo hi r : ℕ) : Type 0 where
  pub low : lo ≤ r
  pub high : r ≤ hi
  pub here : r < hi → P r
  pub none : (c : ℕ) → lo ≤ c → c < r → P c → ⊥

-- cluster c reaches an element by its part of the rim
abbrev pub Reaching : List ℕ → List ℕ → ℕ → ℕ → Type 0
Reaching s links rim c = (r : ℕ) × Reached links (slot s c) (slot s c ∩ rim) r

-- cluster c waits and reaches an element
abbrev pub Wanted : List ℕ → List ℕ → ℕ → List ℕ → ℕ → Type 0
Wanted s links rim todo c = (waits todo c ≡ 1) × Reaching s links rim c

-- a cluster that waited waits still, or reaches nothing
unfoldable pub Kept : List ℕ → List ℕ → ℕ → List ℕ → List ℕ → Type 0
Kept s links rim todo todo' = (c : ℕ) → waits todo c ≡ 1 → (waits todo' c ≡ 1) ⊎ (Reaching s links rim c → ⊥)

-- ---- the other two clusters of a merge

-- c is noted as a holder of both x and z
abbrev pub Both : List ℕ → ℕ → ℕ → ℕ → Type 0
Both hold x z c = (holder hold x c ≡ 1) × (holder hold z c ≡ 1)

-- r is the lowest cluster that holds both x and z, or 192
abbrev pub Joining : List ℕ → ℕ → ℕ → ℕ → Type 0
Joining hold x z r = Lowest (Both hold x z) 0 192 r

-- v is the key of the two clusters found for the elements p and q: 256 times the lower, and the higher
abbrev pub Met : List ℕ → ℕ → ℕ → ℕ → ℕ → Type 0
Met hold p q z v = (a : ℕ) × (b : ℕ) × Joining hold p z a × Joining hold q z b × (v ≡ 256 * min a b + max a b)

-- the same for the two elements of near, if it has two and no third
unfoldable pub Joined : List ℕ → ℕ → ℕ → ℕ → Type 0
Joined hold near z v =
    (p q : ℕ) → p ≢ q → p ∈ near → q ∈ near → ((r : ℕ) → r ∈ near → (r ≡ p) ⊎ (r ≡ q)) → Met hold p q z v

-- v is the least of the keys that P gives for the elements of o
pub record Best (P : ℕ → ℕ → Type 0) (o v : ℕ) : Type 0 where
  pub z : ℕ
  pub z_in : z ∈ o
  pub here : P z v
  pub least : (y : ℕ) → y ∈ o → (w : ℕ) × P y w × (v ≤ w)

-- the merge of i at z: j and k hold z
pub record Pair (s : List ℕ) (i z j k : ℕ) : Type 0 where
  pub up : j < k
  pub isopen : OpenAt s (merge i j k)
  pub z_j : z ∈ slot s j
  pub z_k : z ∈ slot s k

-- ---- one merge: what becomes of each, u being the union and edge its part of the rim

-- the elements of edge are linked to all of u
pub record Linking (links : List ℕ) (edge u : ℕ) (links' : List ℕ) : Type 0 where
  pub inside : (p : ℕ) → p ∈ edge → linked links' p ≡ linked links p ∪ u
  pub outside : (p : ℕ) → at p edge ≡ 0 → linked links' p ≡ linked links p

-- cluster n holds the elements of edge in the place of the three of m
pub record Holding (hold : List ℕ) (edge : ℕ) (m : Merge) (n : ℕ) (hold' : List ℕ) : Type 0 where
  pub outside : (p c : ℕ) → c < 192 → p < 64 → at p edge ≡ 0 → holder hold' p c ≡ holder hold p c
  pub made : (p c : ℕ) → c < 192 → p ∈ edge → c ≡ n → holder hold' p c ≡ 1
  pub dead : (p c : ℕ) → c < 192 → p ∈ edge → c ≢ n → Part c m → holder hold' p c ≡ 0
  pub other : (p c : ℕ) → c < 192 → p ∈ edge → c ≢ n → (Part c m → ⊥) → holder hold' p c ≡ holder hold p c

-- near is the set of the elements linked to one of x
abbrev pub Nearby : List ℕ → ℕ → ℕ → Type 0
Nearby links x near = Image links x near

-- cluster n waits, and each holder of an element of o; the three of m no more need to
pub record Called (hold todo : List ℕ) (m : Merge) (n o : ℕ) (todo' : List ℕ) : Type 0 where
  pub made : (c : ℕ) → c < 192 → c ≡ n → waits todo' c ≡ 1
  pub kept : (c : ℕ) → c < 192 → (Part c m → ⊥) → waits todo c ≡ 1 → waits todo' c ≡ 1
  pub holders : (z c : ℕ) → c < 192 → z ∈ o → holder hold z c ≡ 1 → waits todo' c ≡ 1

-- an element that leaves the rim lies in u and is linked within u alone
pub record Gone (links : List ℕ) (u rim rim' : ℕ) : Type 0 where
  pub less : (p : ℕ) → p ∈ rim' → p ∈ rim
  pub leaves : (p : ℕ) → p ∈ rim → (p ∈ rim') ⊎ ((p ∈ u) × ((r : ℕ) → r ∈ linked links p → r ∈ u))

abbrev pub three_of : ℕ → ℕ → ℕ → Three
three_of x y z = record { a = x; b = y; c = z }

-- the merge m of the three sets t, as cluster n
pub record Renewed (links hold todo : List ℕ) (n rim : ℕ) (m : Merge) (t : Three) (links' hold' todo' : List ℕ) (rim' : ℕ) : Type 0 where
  pub links_long : length links' ≡ 64
  pub hold_long : length hold' ≡ 192
  pub todo_long : length todo' ≡ 3
  pub linking : Linking links (union t ∩ rim) (union t) links'
  pub holding : Holding hold (union t ∩ rim) m n hold'
  pub gone : Gone links (union t) rim rim'
  pub reached : ℕ
  pub near : ℕ
  pub reaches : Outs links (union t) (union t ∩ rim) reached
  pub nears : Nearby links (beyond (union t ∩ rim) t.c) near
  pub calling : Called hold' todo m n (reached ∩ near) todo'
