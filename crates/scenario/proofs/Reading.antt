-- One digit more of a number that is read.
use Rattle.std.proofs.Common.{◌≡◌, ℕ, ◌+◌, ◌<◌, ◌≤◌, false, cond, ◌&&◌, eqb, leb, List, [], ◌∷◌, length, get_or, drop, Some, None, Option, refl, ◌∙◌, arith}
use Rattle.std.proofs.lemmas.List.{at_drop_more, at_drop_all}
use Rattle.scenario.specs.Numbers.{digits, more, value, decimal, with_digit}

-- what is read of the rest, after the number n
abbrev pub read_from : ℕ → ℕ → List ℕ → Option ℕ
read_from m n bs = cond (digits bs && leb (value n bs) m) (Some (value n bs)) None

value_grows : (n : ℕ) (bs : List ℕ) → n ≤ value n bs
value_grows n [] = omega arith
value_grows n (b ∷ bs) = let h = value_grows (more n b) bs in omega (arith, h)

-- a number above the limit stays above it
over : (m n : ℕ) (bs : List ℕ) → leb n m ≡ false → read_from m n bs ≡ None
over m n bs h = let k = value_grows n bs in grind (arith, k)

-- one byte more, at place i of a word
module _ (m n : ℕ) (s : List ℕ) (i : ℕ) where
  pub place_no : i < length s → None ≡ with_digit m n (get_or s i 0) → read_from m n (drop i s) ≡ None
  place_no h e = let k = over m (more n (get_or s i 0)) (drop (i + 1) s) in at_drop_more (read_from m n) s i 0 h ∙ grind (arith, k)

  pub place_yes : (k : ℕ) → i < length s → Some k ≡ with_digit m n (get_or s i 0) → (read_from m n (drop i s) ≡ read_from m k (drop (i + 1) s)) × (k ≤ m)
  place_yes k h e = rw (at_drop_more (read_from m n) s i 0 h) (grind arith)

  pub place_end : length s ≤ i → n ≤ m → read_from m n (drop i s) ≡ Some n
  place_end h e = at_drop_all (read_from m n) s i h ∙ grind arith

-- of a word with a byte at least all is read from 0 on
pub whole : (m : ℕ) (s : List ℕ) → false ≡ eqb (length s) 0 → decimal m s ≡ read_from m 0 s
whole m [] h = grind arith
whole m (b ∷ s) h = refl
