-- Sets of copies: the number a has copy k where its bit of value 2 ^ k is set.
use Rattle.std.specs.Prelude.{◌≡◌, ℕ, zero, suc, ◌+◌, ◌-◌, ◌^◌, ◌<◌, ◌≤◌, Bool, ◌==◌}
use Rattle.std.specs.Int.{bit_at}

-- 1 where the set has copy k, else 0
abbrev pub bit : ℕ → ℕ → ℕ
bit a k = bit_at a k

-- whether the set has copy k
abbrev pub has : ℕ → ℕ → Bool
has a k = bit a k == 1

-- how many of the first n copies the set has
abbrev pub size : ℕ → ℕ → ℕ
size zero a = 0
size (suc n) a = size n a + bit a n

-- the set of all of n copies
abbrev pub everyone : ℕ → ℕ
everyone n = 2 ^ n - 1

-- one of the first n copies is in both sets
abbrev pub Shared : ℕ → ℕ → ℕ → Type 0
Shared n a b = (k : ℕ) × (k < n) × (bit a k ≡ 1) × (bit b k ≡ 1)

-- the two sets have the same of the first n copies
abbrev pub SameCopies : ℕ → ℕ → ℕ → Type 0
SameCopies n a b = (k : ℕ) → k < n → bit a k ≡ bit b k

-- the numbers of copies that a service may have
abbrev pub Admitted : ℕ → Type 0
Admitted n = (3 ≤ n) × (n ≤ 7)
