-- Each copy's part of the lent slice.
use Rattle.std.proofs.Common.{ℕ, ◌+◌, ◌*◌, ◌<◌, ◌≤◌, mul-le-mul_right, suc-mul, arith}

-- the part of a lower copy ends where that of a higher one begins, or before
pub apart : (q r cap : ℕ) → q < r → q * cap + cap ≤ r * cap
apart q r cap h = rw (suc-mul q cap) at (mul-le-mul_right cap h)

-- a copy's part lies within the slice
pub block_of : (n cap size r : ℕ) → r < n → n * cap ≤ size → r * cap + cap ≤ size
block_of n cap size r h k = omega (arith, apart r n cap h)
