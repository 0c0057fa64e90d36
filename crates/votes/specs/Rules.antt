-- The two rules, for n copies and a set of them.
use Rattle.std.specs.Prelude.{ℕ, ◌*◌, Bool, ◌==◌, nat_lt}
use Rattle.votes.specs.Sets.{size}

-- the set has more than half of the copies
abbrev pub majority : ℕ → ℕ → Bool
majority n set = nat_lt n (2 * size n set)

-- the set has all of the copies
abbrev pub every_copy : ℕ → ℕ → Bool
every_copy n set = (size n set) == n

-- the set has one of the copies at least
abbrev pub any_copy : ℕ → ℕ → Bool
any_copy n set = nat_lt 0 (size n set)
