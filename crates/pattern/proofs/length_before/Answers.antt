-- `pattern::length_before` meets its contract, by the opening. Assumes nothing.
use Rattle.std.specs.Prelude.{◌+◌, ◌*◌, ◌≤◌, ◌<◌, ◌^◌}
use Rattle.theory.specs.Prelude.{rules, ℕ, arith, sym, ap, ones, ones-le}
use Rattle.sheet.specs.declared.Opening.{Opening}
use Rattle.sheet.specs.Field.{kind_bytes}
use Rattle.pattern.proofs.length_before.Goals as goal

most : (z : ℕ) → z < 2 ^ 64 → ones z ≤ 64
most z h = ones-le 64 z h

pub overflow_cast-radii : goal.overflow_cast-radii
overflow_cast-radii c = record { fits = omega (arith, most c.args.h.kinds.circles (search rules)) }

pub overflow_mul-radii : goal.overflow_mul-radii
overflow_mul-radii c = record { fits = omega (arith, most c.args.h.kinds.circles (search rules)) }

pub overflow_add-result-in-Pf01-2 : goal.overflow_add-result-in-Pf01-2
overflow_add-result-in-Pf01-2 c = record { fits = omega (arith, most c.args.h.kinds.circles (search rules), c.requires) }

pub overflow_add-result-in-Pf02-3 : goal.overflow_add-result-in-Pf02-3
overflow_add-result-in-Pf02-3 c = record { fits = omega (arith, most c.args.h.kinds.circles (search rules), c.requires) }

pub returns-in-Pf01 : goal.returns-in-Pf01
returns-in-Pf01 c = let h = c.args.h in
    sym (ap (λ (o : Opening). 6 + kind_bytes o h.n + 4 * ones h.kinds.circles) c.in-Pf01.is)

pub returns-in-Pf02 : goal.returns-in-Pf02
returns-in-Pf02 c = let h = c.args.h in
    sym (ap (λ (o : Opening). 6 + kind_bytes o h.n + 4 * ones h.kinds.circles) c.in-Pf02.is)
