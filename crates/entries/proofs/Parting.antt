-- The last term of a log, and where two logs part.
use Rattle.std.proofs.Common.{◌≡◌, ℕ, zero, suc, ◌+◌, ◌-◌, ◌<◌, Bool, true, false, cond, eqb, List, [], ◌∷◌, length, get_or, sym, refl, ap, arith}
use Rattle.std.specs.List.{prefix_len, zip}
use Rattle.entries.specs.declared.entry.Entry.{Entry}
use Rattle.entries.specs.Fronts.{last_term_from, last_term, gap}

module _ {V : Type 0} where
  last_from_lem : (t i : ℕ) (l : List (Entry V)) (x : Entry V) → length l ≡ suc i → x ≡ get_or l i x → last_term_from t l ≡ x.term
  last_from_lem t i [] x h e = absurd (omega arith)
  last_from_lem t zero (y ∷ []) x h e = ap (λ (z : Entry V). z.term) (sym e)
  last_from_lem t zero (y ∷ (z ∷ l)) x h e = absurd (omega arith)
  last_from_lem t (suc i) (y ∷ l) x h e = last_from_lem y.term i l x (omega arith) e

  -- the last term is that of the last entry
  pub last_term_is : (l : List (Entry V)) (x : Entry V) → 0 < length l → x ≡ get_or l (length l - 1) x → last_term l ≡ x.term
  last_term_is l x h e = last_from_lem 0 (length l - 1) l x (omega arith) e

  pub last_term_none : (l : List (Entry V)) → length l ≡ 0 → last_term l ≡ 0
  last_term_none [] h = refl
  last_term_none (x ∷ l) h = absurd (omega arith)

  -- logs part where their pairs of terms no longer agree
  pub gap_is : (a b : List (Entry V)) → prefix_len (λ p. eqb p.0.term p.1.term) (zip a b) ≡ gap a b
  gap_is [] b = refl
  gap_is (x ∷ a) [] = refl
  gap_is (x ∷ a) (y ∷ b) = by (eqb x.term y.term) (prefix_len (λ p. eqb p.0.term p.1.term) (zip a b)) (gap a b) (gap_is a b)
    where
      by : (t : Bool) (m n : ℕ) → m ≡ n → cond t (1 + m) 0 ≡ cond t (suc n) 0
      by true m n e = omega arith
      by false m n e = refl
