-- Sets of copies: their sizes, when two of them share a copy, and the laws of the two rules.
use Rattle.std.specs.Prelude.{◌≡◌, ℕ, zero, suc, ◌+◌, ◌<◌, ◌≤◌, ◌⊎◌, T, refl}
use Rattle.std.proofs.Common.{inl, inr, arith, add-one, ltb→lt, eqb→eq, lt→ltb}
use Rattle.std.proofs.Math.Dec.{eqb_refl}
use Rattle.std.proofs.lemmas.Nat.Bits.{bit_at-lt, bit_at_ones}
use Rattle.votes.specs.Sets.{bit, size, everyone, Shared, SameCopies, Admitted}
use Rattle.votes.specs.Rules.{majority, every_copy, any_copy}

-- one copy more
pub size_more : (a k n x : ℕ) → n ≡ size k a → x ≡ bit a k → n + x ≡ size (k + 1) a
size_more a k n x e f = rw (add-one, e, f)

-- a set has no more of n copies than n
size_le : (n a : ℕ) → size n a ≤ n
size_le zero a = omega arith
size_le (suc n) a = omega (arith, size_le n a, bit_at-lt a n)

more : (n a b : ℕ) → Shared n a b → Shared (suc n) a b
more n a b (k, h, p, q) = (k, omega arith, p, q)

-- two sets share a copy, or have no more than n copies together
either : (n a b : ℕ) → Shared n a b ⊎ (size n a + size n b ≤ n)
either zero a b = inr (omega arith)
either (suc n) a b =
    elim (either n a b) [
      | inl s ↦ inl (more n a b s)
      | inr h ↦ next n a b (bit a n) (bit b n) refl refl (bit_at-lt a n) (bit_at-lt b n) h
    ]
  where
    next : (n a b x y : ℕ) → x ≡ bit a n → y ≡ bit b n → x < 2 → y < 2 → size n a + size n b ≤ n → Shared (suc n) a b ⊎ (size n a + bit a n + (size n b + bit b n) ≤ suc n)
    next n a b zero y ex ey hx hy h = inr (omega arith)
    next n a b (suc x) zero ex ey hx hy h = inr (omega arith)
    next n a b (suc x) (suc y) ex ey hx hy h = inl (n, omega arith, omega arith, omega arith)

-- sets with more than n copies together share one
pub share : (n a b : ℕ) → n < size n a + size n b → Shared n a b
share n a b h = elim (either n a b) [ inl s ↦ s | inr k ↦ absurd (omega arith) ]

-- the set of all of m copies has the first n of them
full_front : (n m : ℕ) → n ≤ m → size n (everyone m) ≡ n
full_front zero m h = refl
full_front (suc n) m h = omega (arith, full_front n m (omega arith), bit_at_ones m n (omega arith))

-- the set of all copies has them all
pub full : (n : ℕ) → size n (everyone n) ≡ n
full n = full_front n n (omega arith)

-- sets with the same copies have the same size
pub same_size : (n a b : ℕ) → SameCopies n a b → size n a ≡ size n b
same_size zero a b h = refl
same_size (suc n) a b h = let e = same_size n a b (λ k l. h k (omega arith)) in let f = h n (omega arith) in rw (e, f)

-- more than half of the copies, twice
pub majority_share : (n a b : ℕ) → T (majority n a) → T (majority n b) → Shared n a b
majority_share n a b p q = share n a b (omega (arith, ltb→lt _ _ p, ltb→lt _ _ q))

pub majority_all : (n : ℕ) → Admitted n → T (majority n (everyone n))
majority_all n h = rw (full n) (lt→ltb _ _ (omega arith))

pub majority_local : (n a b : ℕ) → SameCopies n a b → majority n a ≡ majority n b
majority_local n a b s = rw (same_size n a b s)

-- every copy, and any one
pub every_share : (n a b : ℕ) → T (every_copy n a) → T (any_copy n b) → Shared n a b
every_share n a b p q = share n a b (omega (arith, eqb→eq _ _ p, ltb→lt _ _ q))

pub every_all : (n : ℕ) → Admitted n → T (every_copy n (everyone n)) × T (any_copy n (everyone n))
every_all n h = rw (full n) (eqb_refl n, lt→ltb _ _ (omega arith))

pub every_local : (n a b : ℕ) → SameCopies n a b → (every_copy n a ≡ every_copy n b) × (any_copy n a ≡ any_copy n b)
every_local n a b s = rw (same_size n a b s) (refl, refl)
