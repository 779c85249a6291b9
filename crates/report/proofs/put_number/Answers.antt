-- `report::put_number` meets its contract: the four bytes of the table begin with the number. Assumes nothing.
use Rattle.std.specs.Prelude.{◌+◌, ◌*◌, ◌-◌, ◌<◌, ◌≡◌, ◌∷◌}
use Rattle.theory.specs.Prelude.{ℕ, suc, add-zero, arith, ap, List, length, get_or, set, replicate, sets}
use Rattle.space.specs.Text.{decimal}
use Rattle.space.specs.Text.Laws.{decimal-length}
use Rattle.report.specs.Block.{Stands, Numerals}
use Rattle.report.specs.Block.Laws.{stands-front, byte_at, four_bytes}
use Rattle.report.proofs.put_number.Goals as goal

stored : {text : List ℕ} (t : Numerals text) (n : ℕ) → n < 256 → (out : List ℕ) (at : ℕ)
    → Stands out at (32 ∷ decimal n) (at + 1 + length (decimal n))
    (set (set (set (set out at (get_or text (4 * n) 0)) (at + 1) (get_or text (4 * n + 1) 0)) (at + 2) (get_or text (4 * n + 2) 0)) (at + 3)
    (get_or text (4 * n + 3) 0))
stored {text} t n few out at =
    let i1 : at + 1 ≡ suc at = omega arith in
    let i2 : at + 2 ≡ suc (suc at) = omega arith in
    let i3 : at + 3 ≡ suc (suc (suc at)) = omega arith in
    let b0 : get_or text (4 * n) 0 ≡ 32 = rw add-zero at (byte_at t n 0 few (omega arith)) in
    stands-front (32 ∷ decimal n) (replicate (3 - length (decimal n)) 32) (omega arith)
    (rw (b0, byte_at t n 1 few (omega arith), byte_at t n 2 few (omega arith), byte_at t n 3 few (omega arith), i1, i2, i3)
    (ap (sets out at) (four_bytes n)))

pub overflow_add-result-2 : goal.overflow_add-result-2
overflow_add-result-2 c = omega (arith, c.digits.ensures, decimal-length c.args.n)

pub returns : goal.returns
returns c = let s = c in
    let put = stored s.requires.0 s.args.n s.requires.1 s.args.out.now s.args.at in
    (rw (← c.digits.ensures) at put, omega (arith, c.digits.ensures, decimal-length s.args.n))
