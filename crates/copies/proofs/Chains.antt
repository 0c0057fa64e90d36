-- What a chain over the first numbers answers, as a test of all of them.
use Rattle.std.proofs.Common.{◌≡◌, ℕ, zero, suc, ◌+◌, Bool, true, false, not, ◌&&◌, ◌||◌, List, [], ◌∷◌, refl, sym, ap, ◌∙◌, arith}
use Rattle.std.specs.List.{list_all, list_any, range_with_len}
use Rattle.std.proofs.Math.Bool.{and_assoc}
use Rattle.copies.specs.Below.{all_below}

and_true : (b : Bool) → (b && true) ≡ b
and_true true = refl
and_true false = refl

-- one number more at the end of a range
all_last : (p : ℕ → Bool) (k n : ℕ) → list_all p (range_with_len k (suc n)) ≡ (list_all p (range_with_len k n) && p (k + n))
all_last p k zero = let e : k + 0 ≡ k = omega arith in rw e (and_true (p k))
all_last p k (suc n) =
    let e : k + 1 + n ≡ k + suc n = omega arith in
    let h : list_all p (range_with_len (k + 1) (suc n)) ≡ (list_all p (range_with_len (k + 1) n) && p (k + suc n)) = rw e at (all_last p (k + 1) n) in
    ap (λ (b : Bool). p k && b) h ∙ sym (and_assoc (p k) (list_all p (range_with_len (k + 1) n)) (p (k + suc n)))

pub all_of_range : (p : ℕ → Bool) (n : ℕ) → list_all p (range_with_len 0 n) ≡ all_below p n
all_of_range p zero = refl
all_of_range p (suc n) = let z : 0 + n ≡ n = omega arith in all_last p 0 n ∙ ap (λ (k : ℕ). list_all p (range_with_len 0 n) && p k) z ∙ ap (λ (b : Bool). b && p n) (all_of_range p n)

not_any : (p : ℕ → Bool) (xs : List ℕ) → not (list_any p xs) ≡ list_all (λ x. not (p x)) xs
not_any p [] = refl
not_any p (x ∷ xs) = by (p x) (list_any p xs) (list_all (λ y. not (p y)) xs) (not_any p xs)
  where
    by : (b c d : Bool) → not c ≡ d → not (b || c) ≡ (not b && d)
    by true c d e = refl
    by false c d e = e

pub none_of_range : (p : ℕ → Bool) (n : ℕ) → not (list_any p (range_with_len 0 n)) ≡ all_below (λ r. not (p r)) n
none_of_range p n = not_any p (range_with_len 0 n) ∙ all_of_range (λ r. not (p r)) n
