-- No answer is cut at 2^31-1: its items are at most some thousand (`pattern` Counts). Assumes nothing.
use Rattle.std.specs.Prelude.{◌<◌, ◌≡◌}
use Rattle.theory.specs.Prelude.{ℕ, arith, List, lt-ltb, pos, length}
use Rattle.space.specs.Written.{Done}
use Rattle.sheet.specs.Field.{Field, value}
use Rattle.pattern.specs.Counts.{AtMost}
use Rattle.pattern_c.specs.Numbers.{as_count}

pub uncut : {A : Type 0} {most : ℕ} {x : Field (List A)} → AtMost most x → most < 2147483648 → (items : List A) (rest : List ℕ)
    → x ≡ value items rest
    → as_count (Done (length items)) ≡ pos (length items)
uncut short few items rest e = rw (lt-ltb (length items) 2147483648 (omega (arith, short items rest e, few)))
