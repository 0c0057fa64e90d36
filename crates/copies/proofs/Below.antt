-- Tests and sets over the first numbers, one number more.
use Rattle.std.proofs.Common.{◌≡◌, ℕ, zero, suc, ◌+◌, ◌*◌, ◌^◌, ◌<◌, ◌≤◌, Bool, true, false, cond, ltb, ◌⊎◌, sym, ap, ◌∙◌, inl, inr, add-zero, pow-suc, zero-add, add-one, arith}
use Rattle.std.proofs.lemmas.Bool.Decides.{nat_tests}
use Rattle.std.proofs.lemmas.Bool.{and_parts}
use Rattle.std.proofs.lemmas.Nat.{pow_pos}
use Rattle.copies.specs.Below.{all_below, mask_from, mask}
use Rattle.copies.specs.Questions.{greatest}

split : (k n : ℕ) → k < suc n → (k < n) ⊎ (k ≡ n)
split k n h = grind arith

-- what all numbers below n pass, each of them passes
pub all_each : (p : ℕ → Bool) (n : ℕ) → all_below p n ≡ true → (k : ℕ) → k < n → p k ≡ true
all_each p zero a k h = absurd (omega arith)
all_each p (suc n) a k h =
    let w = and_parts (all_below p n) (p n) a in
    elim (split k n h) [
      | inl j ↦ all_each p n w.0 k j
      | inr j ↦ rw j w.1
    ]

-- one number more at the top of a set
from_more : (p : ℕ → Bool) (k m : ℕ) → mask_from p k (suc m) ≡ mask_from p k m + cond (p (k + m)) (2 ^ m) 0
from_more p k zero = let e : k + 0 ≡ k = omega arith in rw e (flip (cond (p k) 1 0))
  where
    flip : (x : ℕ) → x + 0 ≡ 0 + x
    flip x = omega arith
from_more p k (suc m) =
    let e = from_more p (suc k) m in
    let f : suc k + m ≡ k + suc m = omega arith in
    rw (e, f) (step (cond (p k) 1 0) (mask_from p (suc k) m) (p (k + suc m)))
  where
    step : (x y : ℕ) (b : Bool) → x + 2 * (y + cond b (2 ^ m) 0) ≡ x + 2 * y + cond b (2 ^ suc m) 0
    step x y true = omega (arith, pow-suc 2 m)
    step x y false = omega arith

pub mask_more : (p : ℕ → Bool) (i : ℕ) → mask p (i + 1) ≡ mask p i + cond (p i) (2 ^ i) 0
mask_more p i = rw (add-one) (from_more p 0 i ∙ rw zero-add)

pub twice : (i : ℕ) → 2 ^ (i + 1) ≡ 2 ^ i + 2 ^ i
twice i = omega (arith, pow-suc 2 i, ap (λ (n : ℕ). 2 ^ n) (add-one i))

module _ (p : ℕ → Bool) (i found : ℕ) (e : found ≡ mask p i) (b : found < 2 ^ i) where
  pub mask_yes : true ≡ p i → (found + 2 ^ i ≡ mask p (i + 1)) × (found + 2 ^ i < 2 ^ (i + 1))
  mask_yes t = (rw (e) (let m = mask_more p i in sym (rw (← t) at m)), omega (arith, twice i))

  pub mask_no : false ≡ p i → (found ≡ mask p (i + 1)) × (found < 2 ^ (i + 1))
  mask_no t = (e ∙ (let m = mask_more p i in let k = rw (← t) at m in sym (k ∙ add-zero (mask p i))), omega (arith, twice i, pow_pos i))

-- one copy more of the search for the greatest count
module _ (known : ℕ → ℕ) (r best : ℕ) (e : best ≡ greatest known r) where
  pub greatest_yes : known best < known r → r ≡ greatest known (r + 1)
  greatest_yes h = let t : ltb (known (greatest known r)) (known r) ≡ true = rw (← e) (grind (arith, nat_tests)) in rw (add-one, t)

  pub greatest_no : known r ≤ known best → best ≡ greatest known (r + 1)
  greatest_no h = let t : ltb (known (greatest known r)) (known r) ≡ false = rw (← e) (grind (arith, nat_tests)) in rw (add-one, t) e
