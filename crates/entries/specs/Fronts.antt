-- One log beside another: its front, its last term, which is newer, and where they part.
use Rattle.std.specs.Prelude.{ℕ, suc, Bool, cond, ◌&&◌, ◌||◌, List, [], ◌∷◌, length, take, ◌==◌, nat_le, nat_lt}
use Rattle.entries.specs.declared.entry.Entry.{Entry}
use Rattle.entries.specs.Compare.{all_alike}

module _ {V : Type 0} where
  -- the second log holds the first n entries of the first
  abbrev pub holds_first : (V → V → Bool) → ℕ → List (Entry V) → List (Entry V) → Bool
  holds_first alike n led log = nat_le n (length log) && all_alike alike (take n log) (take n led)

  -- the term of the last entry, or t if there is none
  abbrev pub last_term_from : ℕ → List (Entry V) → ℕ
  last_term_from t [] = t
  last_term_from t (e ∷ l) = last_term_from e.term l

  abbrev pub last_term : List (Entry V) → ℕ
  last_term l = last_term_from 0 l

  -- the first log is newer than the second
  abbrev pub newer : List (Entry V) → List (Entry V) → Bool
  newer a b = nat_lt (last_term b) (last_term a) || (last_term a == last_term b && nat_lt (length b) (length a))

  -- the first place of the leader's log where the other ends or has another term, else its length
  abbrev pub gap : List (Entry V) → List (Entry V) → ℕ
  gap [] log = 0
  gap (x ∷ led) [] = 0
  gap (x ∷ led) (y ∷ log) = cond (x.term == y.term) (suc (gap led log)) 0
