-- A field of a sheet, read at the front of the bytes left: its value with the bytes after it, or the number of the rule that refuses it
-- (document 01, "Refused": "The first field that fails decides").
use Rattle.std.specs.Prelude.{ℕ, zero, suc, ◌+◌, ◌*◌, ◌-◌, ◌/◌, ◌%◌, ◌^◌, ◌<◌, Bool, true, false, ◌&&◌, cond, List, [], ◌∷◌, eqb, ltb, ℤ, pos, negsuc, length, take, drop, get_or}
use Rattle.sheet.specs.declared.Opening.{Opening}
use Rattle.sheet.specs.declared.Opening.TheVariants.{Pf01, Pf02}
pub mod Laws

pub data Field (A : Type 0) : Type 0 where
  value : A → List ℕ → Field A
  refused : ℕ → Field A

-- the next field is read from where this one ends
abbrev pub next : {A B : Type 0} → Field A → (A → List ℕ → Field B) → Field B
next (value a s) f = f a s
next (refused k) f = refused k

-- rule k demands this of what was read
abbrev pub demand : {A : Type 0} → Bool → ℕ → Field A → Field A
demand true k f = f
demand false k f = refused k

-- ---- numbers of several bytes, lowest byte first

unfoldable pub number : List ℕ → ℕ
number [] = 0
number (b ∷ s) = b + 256 * number s

unfoldable pub digits : ℕ → ℕ → List ℕ
digits zero u = []
digits (suc k) u = u % 256 ∷ digits k (u / 256)

-- each item is a byte
pub record Bytes (s : List ℕ) : Type 0 where
  pub each : (i : ℕ) → get_or s i 0 < 256

-- a field of k bytes; rule 2: the sheet ends inside a field
unfoldable pub field : ℕ → List ℕ → Field ℕ
field k s = cond (ltb (length s) k) (refused 2) (value (number (take k s)) (drop k s))

abbrev pub byte : List ℕ → Field ℕ
byte [] = refused 2
byte (b ∷ s) = value b s

-- a byte of which rule k demands this
abbrev pub byte_by : (ℕ → Bool) → ℕ → List ℕ → Field ℕ
byte_by takes k s = next (byte s) (λ b s1. demand (takes b) k (value b s1))

-- two's complement of 32 bits
abbrev pub signed32 : ℕ → ℤ
signed32 u = cond (ltb u (2 ^ 31)) (pos u) (negsuc (2 ^ 32 - suc u))

abbrev pub unsigned32 : ℤ → ℕ
unsigned32 (pos n) = n
unsigned32 (negsuc n) = 2 ^ 32 - suc n

-- the kinds of n elements: n/8 bytes rounded up under PF01; four elements a byte under PF02 (document 02, 2026-01)
abbrev pub kind_bytes : Opening → ℕ → ℕ
kind_bytes Pf01 n = (n + 7) / 8
kind_bytes Pf02 n = (n + 3) / 4

-- ---- the openings: PF01 and PF02 in ASCII

abbrev pub opening_bytes : Opening → List ℕ
opening_bytes Pf01 = 0x50 ∷ 0x46 ∷ 0x30 ∷ 0x31 ∷ []
opening_bytes Pf02 = 0x50 ∷ 0x46 ∷ 0x30 ∷ 0x32 ∷ []

abbrev pub begins : List ℕ → List ℕ → Bool
begins [] s = true
begins (a ∷ xs) [] = false
begins (a ∷ xs) (b ∷ s) = eqb b a && begins xs s
