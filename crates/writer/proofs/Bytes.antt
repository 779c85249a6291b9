-- The bytes of a number, lowest first, are its digits by 256. Assumes nothing.
use Rattle.std.specs.Prelude.{◌/◌, ◌%◌, ◌^◌, ◌≤◌, ◌≡◌}
use Rattle.theory.specs.Prelude.{ℕ, ℤ, pos, negsuc, zero, suc, arith, refl, ap, ◌∙◌, take}
use Rattle.std.proofs.Math.Nat.{div-div-eq-div-mul, pow-suc}
use Rattle.std.specs.Int.{w32, byte_at, bytes_low_first, to_le_bytes, cast_signed, cast_unsigned}
use Rattle.std.specs.Int.RustNames.{FitsSigned}
use Rattle.std.proofs.lemmas.Int.{to_z-of_z}
use Rattle.sheet.specs.Field.{digits, unsigned32}

byte-is : (i u : ℕ) → byte_at i u ≡ u / 256 ^ i % 256
byte-is zero u = omega arith
byte-is (suc i) u = refl

from-byte : (k i n u : ℕ) → k ≤ n → take k (bytes_low_first i n u) ≡ digits k (u / 256 ^ i)
unfolding digits
from-byte zero i n u h = refl
from-byte (suc k) i zero u h = absurd (omega arith)
from-byte (suc k) i (suc n) u h =
    let rest : u / 256 ^ suc i ≡ u / 256 ^ i / 256 = rw (pow-suc, div-div-eq-div-mul u (256 ^ i) 256) in
    rw (byte-is i u, from-byte k (suc i) n u (omega arith), rest)

pub low-bytes : (k n u : ℕ) → k ≤ n → take k (bytes_low_first 0 n u) ≡ digits k u
low-bytes k n u h = from-byte k 0 n u h ∙ ap (digits k) (omega arith)

-- of a signed number as code passes it on
pub signed-bytes : (z : ℤ) → FitsSigned w32 z
    → to_le_bytes w32 (cast_unsigned w32 (cast_signed w32 (cast_unsigned w32 z))) ≡ digits 4 (unsigned32 z)
signed-bytes z fits = rw (to_z-of_z w32 z fits) (ap (to_le_bytes w32) (same z) ∙ low-bytes 4 4 (unsigned32 z) (omega arith))
  where
    same : (z : ℤ) → cast_unsigned w32 z ≡ unsigned32 z
    same (pos n) = refl
    same (negsuc n) = refl
