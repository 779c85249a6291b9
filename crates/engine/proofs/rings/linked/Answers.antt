-- `engine::rings::linked` meets its contract: what is left without the lowest line tells whether there are two. Assumes nothing.
use Rattle.std.specs.Prelude.{◌≡◌, ◌-◌, ◌+◌, ◌%◌, ◌^◌, ◌<◌}
use Rattle.theory.specs.Prelude.{ap, arith, ℕ, suc, zero, bit_and, ones, and_le_l}
use Rattle.theory.specs.Set.Laws.{size-zero}
use Rattle.theory.specs.Set.Less.{drop-low}
use Rattle.engine.specs.Turns.Laws.{many, few, one_in, two_in}
use Rattle.engine.proofs.rings.linked.Goals as goal

-- without the lowest element; 0 less 1 is all of them
fewer : (m : ℕ) → m < 2 ^ 64 → ones (bit_and m ((m + 18446744073709551615) % 18446744073709551616)) ≡ ones m - 1
fewer zero l = omega (arith, size-zero)
fewer (suc k) l =
    let before : (suc k + 18446744073709551615) % 18446744073709551616 ≡ suc k - 1 = omega arith in
    omega (arith, ap (λ (x : ℕ). ones (bit_and (suc k) x)) before, drop-low (suc k) (omega arith))

pub returns-then-m-eq0 : goal.returns-then-m-eq0
returns-then-m-eq0 c =
    let m = bit_and c.args.cluster c.args.l in
    few _ _ (one_in m _ (fewer m (omega (arith, and_le_l c.args.cluster c.args.l))) c.if-m-eq0.true)

pub returns-else-m-eq0 : goal.returns-else-m-eq0
returns-else-m-eq0 c =
    let m = bit_and c.args.cluster c.args.l in
    many c.args.l c.args.cluster (two_in m _ (fewer m (omega (arith, and_le_l c.args.cluster c.args.l))) c.if-m-eq0.false)
