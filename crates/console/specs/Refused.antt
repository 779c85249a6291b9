-- The line that a program prints for a refusal. Document 01, "Refused" and "The programs": "refused K".
use Rattle.std.specs.Prelude.{ℕ, List, [], ◌∷◌, ◌++◌}
use Rattle.space.specs.Text.{ascii, decimal}

-- the word, one space, the rule's number without leading zeros, byte 10
abbrev pub refused_line : ℕ → List ℕ
refused_line rule = ascii "refused " ++ (decimal rule ++ 10 ∷ [])
