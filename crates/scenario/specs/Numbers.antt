-- Numbers in decimal digits.
use Rattle.std.specs.Prelude.{ℕ, ◌+◌, ◌-◌, ◌*◌, Bool, true, false, cond, ◌&&◌, List, [], ◌∷◌, drop, ℤ, pos, ◌-ℤ◌, Some, None, Option, ◌==◌, nat_le, slice_index}
use Rattle.std.specs.Option.{option_map}

-- the byte is one of 0 to 9
abbrev pub digit : ℕ → Bool
digit b = nat_le 48 b && nat_le b 57

abbrev pub digits : List ℕ → Bool
digits [] = true
digits (b ∷ bs) = digit b && digits bs

-- the number n with one digit more
abbrev pub more : ℕ → ℕ → ℕ
more n b = n * 10 + (b - 48)

-- the number n with more digits
abbrev pub value : ℕ → List ℕ → ℕ
value n [] = n
value n (b ∷ bs) = value (more n b) bs

abbrev pub written : List ℕ → Bool
written [] = false
written (b ∷ bs) = digits (b ∷ bs)

-- the number that the bytes write, if they are digits, at least one, and it is at most m
abbrev pub decimal : ℕ → List ℕ → Option ℕ
decimal m bs = cond (written bs && nat_le (value 0 bs) m) (Some (value 0 bs)) None

-- one digit more, if the byte is one and the number is at most m
abbrev pub with_digit : ℕ → ℕ → ℕ → Option ℕ
with_digit m n b = cond (digit b && nat_le (more n b) m) (Some (more n b)) None

-- the number below zero that has the size that the bytes write in 32 bits
abbrev pub below_zero : List ℕ → Option ℤ
below_zero bs = option_map (λ n. pos 0 -ℤ pos n) (decimal 4294967295 bs)

abbrev pub above_zero : List ℕ → Option ℤ
above_zero bs = option_map pos (decimal 4294967295 bs)

-- the number that the bytes write, with a minus sign before it or none
abbrev pub integer : List ℕ → Option ℤ
integer bs = cond (slice_index bs 0 == 45) (below_zero (drop 1 bs)) (above_zero bs)
