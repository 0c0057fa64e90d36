-- Tests and sets over the first numbers.
use Rattle.std.specs.Prelude.{ℕ, zero, suc, ◌+◌, ◌*◌, Bool, true, cond, ◌&&◌}

-- each number below n passes
abbrev pub all_below : (ℕ → Bool) → ℕ → Bool
all_below p zero = true
all_below p (suc n) = all_below p n && p n

-- the set of those of the m numbers from k on that pass, shifted down by k
abbrev pub mask_from : (ℕ → Bool) → ℕ → ℕ → ℕ
mask_from p k zero = 0
mask_from p k (suc m) = cond (p k) 1 0 + 2 * mask_from p (suc k) m

-- the set of the numbers below n that pass
abbrev pub mask : (ℕ → Bool) → ℕ → ℕ
mask p n = mask_from p 0 n
