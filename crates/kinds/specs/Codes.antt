-- Numbers to bytes and back.
use Rattle.std.specs.Prelude.{◌≡◌, ℕ, ◌+◌, ◌*◌, ◌^◌, ◌<◌, List, [], ◌∷◌, map, length, slice_index, refl}
use Rattle.std.proofs.Common.{arith}
use Rattle.std.specs.List.{range_with_len}
use Rattle.std.proofs.lemmas.List.FromFn.{fill_by_all}
use Rattle.kinds.specs.Bytes.{le16, le32}

-- four bytes, read as a number, are its bytes
pub le32_of : (p q r s : ℕ) → p < 256 → q < 256 → r < 256 → s < 256 → le32 (p + q * 256 + r * 65536 + s * 16777216) ≡ p ∷ q ∷ r ∷ s ∷ []
le32_of p q r s hp hq hr hs = grind arith

-- and so of two bytes
pub le16_of : (p q : ℕ) → p < 256 → q < 256 → le16 (p + q * 256) ≡ p ∷ q ∷ []
le16_of p q hp hq = grind arith

pub below_32 : (p q r s : ℕ) → p < 256 → q < 256 → r < 256 → s < 256 → p + q * 256 + r * 65536 + s * 16777216 < 2 ^ 32
below_32 p q r s hp hq hr hs = omega arith

pub below_16 : (p q : ℕ) → p < 256 → q < 256 → p + q * 256 < 2 ^ 16
below_16 p q hp hq = omega arith

-- a list of sixteen is the list of its places
pub sixteen : (b : List ℕ) → length b ≡ 16 → b ≡ map (λ k. slice_index b k) (range_with_len 0 16)
sixteen b h = fill_by_all (λ k. slice_index b k) b 16 0 h (λ k _. refl)
