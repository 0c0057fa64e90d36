-- The step that a record of 24 bytes asks for.
use Rattle.std.specs.Prelude.{ℕ, Bool, cond, not, ◌&&◌, List, [], ◌∷◌, length, Some, None, Option, ◌==◌, slice_index}
use Rattle.std.specs.List.{list_all}
use Rattle.kinds.specs.Bytes.{at32}
use Rattle.service.specs.declared.call.Call.{Call}
use Rattle.service.specs.declared.call.Call.TheVariants.{Elect, Open, Install, Restart, Read, Correct, Again, Abandon, Deliver, Lose, Double, Copy, Commit, Reply}

abbrev pub all_zero : List ℕ → Bool
all_zero = list_all (λ x. x == 0)

-- the value's bytes, from the ninth on
unfoldable pub value_bytes : List ℕ → List ℕ
value_bytes r =
    slice_index r 8 ∷ slice_index r 9 ∷ slice_index r 10 ∷ slice_index r 11 ∷ slice_index r 12 ∷ slice_index r 13 ∷ slice_index r 14 ∷ slice_index r 15
    ∷ slice_index r 16 ∷ slice_index r 17 ∷ slice_index r 18 ∷ slice_index r 19 ∷ slice_index r 20 ∷ slice_index r 21 ∷ slice_index r 22 ∷ slice_index r 23 ∷ []

module _ {V : Type 0} where
  -- the call, if the fields that it does not use are zero
  abbrev pub when : Bool → Call V → Option (Call V)
  when zero c = cond zero (Some c) None

  -- a correction with the value that was read; B is not used
  abbrev pub correct_with : ℕ → ℕ → ℕ → Option V → Option (Call V)
  correct_with a b n None = None
  correct_with a b n (Some v) = when (b == 0) (Correct a n v)

  abbrev pub correct_of : (List ℕ → Option V) → ℕ → ℕ → ℕ → List ℕ → Option (Call V)
  correct_of parsed a b n value = correct_with a b n (parsed value)

  -- the codes in their order; blank says whether the value is all zeros
  unfoldable pub by_code : (List ℕ → Option V) → ℕ → ℕ → ℕ → ℕ → Bool → List ℕ → Option (Call V)
  by_code parsed code a b n blank value =
      cond (code == 1) (when (n == 0 && blank) (Elect a b))
      (cond (code == 2) (when (a == 0 && (b == 0 && blank) && n == 0) Open)
      (cond (code == 3) (when (a == 0 && (b == 0 && blank) && n == 0) Install)
      (cond (code == 4) (when (a == 0 && (b == 0 && blank) && n == 0) Restart)
      (cond (code == 5) (when (b == 0 && blank) (Read a n))
      (cond (code == 6) (correct_of parsed a b n value)
      (cond (code == 7) (when ((b == 0 && blank) && n == 0) (Again a))
      (cond (code == 8) (when ((b == 0 && blank) && n == 0) (Abandon a))
      (cond (code == 9) (when (a == 0 && (b == 0 && blank)) (Deliver n))
      (cond (code == 10) (when (a == 0 && (b == 0 && blank)) (Lose n))
      (cond (code == 11) (when (a == 0 && (b == 0 && blank)) (Double n))
      (cond (code == 12) (when ((b == 0 && blank) && n == 0) (Copy a))
      (cond (code == 13) (when (a == 0 && (b == 0 && blank)) (Commit n))
      (cond (code == 14) (when (a == 0 && (b == 0 && blank)) (Reply n)) None)))))))))))))

  -- a record of another length, or whose fourth byte is not zero, is malformed
  abbrev pub decoded : (List ℕ → Option V) → List ℕ → Option (Call V)
  decoded parsed r =
      cond (not (length r == 24)) None
      (cond (not (slice_index r 3 == 0)) None
      (by_code parsed (slice_index r 0) (slice_index r 1) (slice_index r 2) (at32 r 4) (all_zero (value_bytes r)) (value_bytes r)))
