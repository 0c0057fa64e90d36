-- The lines of a text.
use Rattle.std.specs.Prelude.{ℕ, ◌+◌, ◌==◌, List, take}
use Rattle.std.specs.List.{position_or_len, before_first}

-- the first line of a text, with its newline, or all of a text without one
abbrev pub first_line : List ℕ → List ℕ
first_line bs = take (position_or_len (λ b. b == 10) bs + 1) bs

-- what stands before the first byte `#`, or all of a line without one
abbrev pub before_comment : List ℕ → List ℕ
before_comment bs = before_first (λ b. b == 35) bs
