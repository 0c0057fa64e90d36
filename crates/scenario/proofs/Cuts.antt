-- A text that is cut at the first byte that passes a test.
use Rattle.std.proofs.Common.{◌≡◌, ℕ, ◌+◌, Bool, true, false, List, ◌∷◌, ◌++◌, length, take, min, subst, arith, MatchBool, Option, Some, None, Bor, unwrap_or}
use Rattle.std.specs.Fn.{ComputesKey}
use Rattle.std.specs.Slice.Iter.{split_steps, split_rest, split_done, split_callee}
use Rattle.std.specs.List.{position_or_len, before_first, IsFirstMatchOrLen}
use Rattle.std.proofs.lemmas.Grind.{common_steps}
use Rattle.std.proofs.lemmas.List.Sums.{position_or_len_is}

module _ (p : ℕ → Bool) (xs : List ℕ) where
  -- a search that ends at i has found the first place that passes
  place_is : (i : ℕ) → IsFirstMatchOrLen p xs i → position_or_len p xs ≡ min i (length xs)
  place_is i h = position_or_len_is p xs (min i (length xs)) 0 (omega arith) (λ k l. h.0 k 0 (omega arith) (omega arith)) (λ l. grind (arith, h.1))

  -- the part before that place
  pub before_is : (x rest : List ℕ) (done : Bool) → MatchBool done (xs ≡ x) ((y : ℕ) × (xs ≡ x ++ (y ∷ rest))) → IsFirstMatchOrLen p xs (length x) → x ≡ before_first p xs
  before_is x rest true e h = let k = place_is (length x) h in grind (arith, common_steps, k, e)
  before_is x rest false e h = let m = e.1 in let k = place_is (length x) h in grind (arith, common_steps, k)

  -- what the first turn of a split gives, or the line where it gives nothing
  pub first_is : {F : Type 0} (g : _) (s t : _) (r : Option (Bor (List ℕ))) (line : Bor (List ℕ)) → split_steps {A = ℕ} {F = F} g s r t → split_rest s ≡ xs → split_done s ≡ false → ComputesKey g p (split_callee s) → (unwrap_or r line).now ≡ before_first p xs
  first_is g s t None line h rest done key = let d = h.0 in absurd (grind (arith, d, done))
  first_is g s t (Some x) line h rest done key = let cut = subst (λ (l : List ℕ). MatchBool (split_done t) (l ≡ x.now) ((y : ℕ) × (l ≡ x.now ++ (y ∷ split_rest t))) × IsFirstMatchOrLen p l (length x.now)) rest (h.1, (h.2 p key).1) in before_is x.now (split_rest t) (split_done t) cut.0 cut.1

  -- what a turn of a split gives that leaves each part its end
  pub through_is : {F : Type 0} (g : _) (f : F) (K : (ℕ → Bool) → Type 0) (x rest : List ℕ) (i : ℕ) → xs ≡ x ++ rest → length x ≡ min (i + 1) (length xs) → ((q : ℕ → Bool) → ComputesKey g q f → K q × IsFirstMatchOrLen q xs i) → ComputesKey g p f → x ≡ take (position_or_len p xs + 1) xs
  through_is g f K x rest i e n h key = let k = place_is i ((h p key).1) in grind (arith, common_steps, k)
