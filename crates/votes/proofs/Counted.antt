-- The copies of a set, counted.
use Rattle.std.proofs.Common.{◌≡◌, ℕ, zero, suc, ◌+◌, ◌<◌, cond, eqb, List, ◌∷◌, length, ap, add-zero, zero-add, add-one, arith}
use Rattle.std.specs.List.{filter, range_with_len}
use Rattle.std.proofs.lemmas.Nat.Bits.{bit_at-lt}
use Rattle.votes.specs.Sets.{bit, has, size}

one_more : (x k : ℕ) (ks : List ℕ) → x < 2 → length (cond (eqb x 1) (k ∷ ks) ks) ≡ x + length ks
one_more zero k ks h = omega arith
one_more (suc zero) k ks h = omega arith
one_more (suc (suc x)) k ks h = absurd (omega arith)

counted_from : (a n k : ℕ) → size k a + length (filter (has a) (range_with_len k n)) ≡ size (k + n) a
counted_from a zero k = rw (add-zero (size k a), add-zero k)
counted_from a (suc n) k =
    let rest : List ℕ = filter (has a) (range_with_len (k + 1) n) in
    let o : length (filter (has a) (range_with_len k (suc n))) ≡ bit a k + length rest = one_more (bit a k) k rest (bit_at-lt a k) in
    let s : size (k + 1) a ≡ size k a + bit a k = rw add-one in
    let m : size (k + 1 + n) a ≡ size (k + suc n) a = ap (λ x. size x a) (omega arith) in
    omega (arith, o, s, m, counted_from a n (k + 1))

pub counted : (a n : ℕ) → length (filter (has a) (range_with_len 0 n)) ≡ size n a
counted a n = simp zero-add at (counted_from a n 0)
