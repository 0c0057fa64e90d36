-- Numbers as bytes, the lowest byte first.
use Rattle.std.specs.Prelude.{◌≡◌, ℕ, ◌+◌, ◌*◌, ◌/◌, ◌%◌, ◌<◌, List, [], ◌∷◌, length, slice_index}

-- the list is sixteen bytes
pub record Sixteen (b : List ℕ) : Type 0 where
  pub long : length b ≡ 16
  pub small : (k : ℕ) → slice_index b k < 256

-- a number of 16 bits as two bytes
abbrev pub le16 : ℕ → List ℕ
le16 n = (n % 256) ∷ (n / 256 % 256) ∷ []

-- a number of 32 bits as four bytes
abbrev pub le32 : ℕ → List ℕ
le32 n = (n % 256) ∷ (n / 256 % 256) ∷ (n / 65536 % 256) ∷ (n / 16777216 % 256) ∷ []

-- the number of 16 bits at place i
abbrev pub at16 : List ℕ → ℕ → ℕ
at16 b i = slice_index b i + slice_index b (i + 1) * 256

-- the number of 32 bits at place i
abbrev pub at32 : List ℕ → ℕ → ℕ
at32 b i = slice_index b i + slice_index b (i + 1) * 256 + slice_index b (i + 2) * 65536 + slice_index b (i + 3) * 16777216
