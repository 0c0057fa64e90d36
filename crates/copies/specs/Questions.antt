-- What is asked of the copies' logs.
use Rattle.std.specs.Prelude.{ℕ, zero, suc, Bool, cond, not, ◌&&◌, List, take, ◌==◌, nat_le, nat_lt}
use Rattle.votes.specs.Sets.{has}
use Rattle.entries.specs.declared.entry.Entry.{Entry}
use Rattle.entries.specs.Fronts.{holds_first, last_term, newer}
use Rattle.copies.specs.Below.{all_below, mask}
use Rattle.copies.specs.View.{View}

-- the lowest of the first n copies whose known count is greatest
abbrev pub greatest : (ℕ → ℕ) → ℕ → ℕ
greatest known zero = 0
greatest known (suc n) = cond (nat_lt (known (greatest known n)) (known n)) n (greatest known n)

module _ {V : Type 0} where
  -- the lowest copy whose known count is greatest
  abbrev pub best_known : View V → ℕ
  best_known s = greatest s.known s.copies

  -- the committed log: the first K entries of the lowest copy whose known count K is greatest
  abbrev pub committed : View V → List (Entry V)
  committed s = take (s.known (best_known s)) (s.log (best_known s))

  -- copy r votes, and its log is newer than the candidate's
  abbrev pub objects_to : View V → ℕ → ℕ → ℕ → Bool
  objects_to s candidate voters r = has voters r && newer (s.log r) (s.log candidate)

  -- no voter's log is newer than the candidate's
  abbrev pub none_newer : View V → ℕ → ℕ → Bool
  none_newer s candidate voters = all_below (λ r. not (objects_to s candidate voters r)) s.copies

  -- the entries of copy r that it knows to be committed
  abbrev pub known_log : View V → ℕ → List (Entry V)
  known_log s r = take (s.known r) (s.log r)

  -- the leader is ready: the last entry within its known count has the present term
  abbrev pub ready : View V → ℕ → Bool
  ready s leader = nat_lt 0 (s.known leader) && last_term (known_log s leader) == s.term

  module _ (alike : V → V → Bool) where
    -- copy r holds the first n entries of copy a
    abbrev pub holds_of : View V → ℕ → ℕ → ℕ → Bool
    holds_of s a n r = holds_first alike n (s.log a) (s.log r)

    -- the copies that hold the leader's first n entries
    abbrev pub holders : View V → ℕ → ℕ → ℕ
    holders s leader n = mask (holds_of s leader n) s.copies

    -- copy r's first n entries are the committed log's
    abbrev pub holds_committed : View V → ℕ → ℕ → Bool
    holds_committed s r n = nat_le n (s.known (best_known s)) && holds_of s (best_known s) n r
