-- `sheet::note_pair` meets its contract: each end is noted at the other. Assumes nothing.
use Rattle.std.specs.Prelude.{ℕ, ◌*◌, ◌%◌, ◌<◌, ◌^◌, ◌≡◌}
use Rattle.theory.specs.Prelude.{one-mul, mod-eq_of_lt, arith, pow-lt, get_or-set_other}
use Rattle.sheet.specs.Noted.Laws.{noted_more}
use Rattle.sheet.proofs.note_pair.Goals as goal

bit : (i : ℕ) → i < 64 → 1 * 2 ^ i % 2 ^ 64 ≡ 2 ^ i
bit i h = rw (one-mul, mod-eq_of_lt (pow-lt {j = 64} h))

pub returns : goal.returns
returns c = λ cs k ea eb h.
    let a = c.args in
    rw (
      c.from.ensures,
      c.from-2.ensures,
      bit a.a (omega arith),
      bit a.b c.requires.1,
      get_or-set_other a.near.now a.a a.b _ 0 (λ e. omega arith),
      ← ea,
      ← eb,
    )
    (noted_more a.near.now cs k (rw (ea, eb) c.requires.0) (rw eb c.requires.1) h)
