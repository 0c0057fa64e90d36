-- What a set made from a test has.
use Rattle.std.proofs.Common.{◌≡◌, ℕ, zero, suc, ◌+◌, ◌*◌, ◌/◌, ◌<◌, Bool, true, false, cond, sym, ap, ◌∙◌, le_of_suc-le-suc, not-suc-le-zero, add-zero, zero-add, arith}
use Rattle.std.proofs.lemmas.Nat.Bits.{bit_at_lowest, bit_at-suc}
use Rattle.votes.specs.Sets.{bit}
use Rattle.copies.specs.Below.{mask_from, mask}

lowest : (b : Bool) (m : ℕ) → bit (cond b 1 0 + 2 * m) 0 ≡ cond b 1 0
lowest true m = bit_at_lowest (1 + 2 * m) ∙ omega arith
lowest false m = bit_at_lowest (0 + 2 * m) ∙ omega arith

halved : (b : Bool) (m : ℕ) → (cond b 1 0 + 2 * m) / 2 ≡ m
halved true m = omega arith
halved false m = omega arith

higher : (b : Bool) (m k : ℕ) → bit (cond b 1 0 + 2 * m) (suc k) ≡ bit m k
higher b m k = bit_at-suc (cond b 1 0 + 2 * m) k ∙ ap (λ (n : ℕ). bit n k) (halved b m)

from : (p : ℕ → Bool) (m k r : ℕ) → r < m → bit (mask_from p k m) r ≡ cond (p (k + r)) 1 0
from p zero k r h = absurd (not-suc-le-zero h)
from p (suc m) k zero h = lowest (p k) (mask_from p (suc k) m) ∙ ap (λ (x : ℕ). cond (p x) 1 0) (sym (add-zero k))
from p (suc m) k (suc r) h =
    let e : suc k + r ≡ k + suc r = omega arith in
    higher (p k) (mask_from p (suc k) m) r ∙ from p m (suc k) r (le_of_suc-le-suc h) ∙ ap (λ (x : ℕ). cond (p x) 1 0) e

-- whoever is in the set passes the test
pub in_mask : (p : ℕ → Bool) (n r : ℕ) → r < n → bit (mask p n) r ≡ 1 → p r ≡ true
in_mask p n r h e = let f = from p n 0 r h in grind (arith, zero-add r)
