-- What each call of the log means: its outcome and the logs, known counts, term and leader after it, apart from the memory.
use Rattle.std.specs.Prelude.{ℕ, ◌+◌, max, Bool, cond, not, ◌||◌, List, [], ◌∷◌, ◌++◌, length, take, drop, Some, None, Ok, Err, Option, Result, ◌==◌, nat_le, nat_lt}
use Rattle.entries.specs.declared.entry.Entry.{Entry}
use Rattle.entries.specs.Fronts.{last_term, gap}
use Rattle.copies.specs.View.{View}
use Rattle.copies.specs.Questions.{none_newer, holders, holds_committed}
use Rattle.raft_log.specs.declared.fault.LogFault.{LogFault}
use Rattle.raft_log.specs.declared.fault.LogFault.TheVariants.{VotersNotEnough, VoterNewer, TermsUsedUp, NoLeader, NothingToCopy, CountOutOfRange, OtherTerm, HoldersNotEnough, LogFull, NotCommitted}

-- f, with x at r
abbrev pub put : {A : Type 0} → (ℕ → A) → ℕ → A → ℕ → A
put f r x q = cond (q == r) x (f q)

module _ {V : Type 0} where
  -- copy c leads the next term
  abbrev pub leading : View V → ℕ → View V
  leading s c = record { copies = s.copies; capacity = s.capacity; log = s.log; known = s.known; term = s.term + 1; leader = Some c }

  -- copy r has another log
  abbrev pub logged : View V → ℕ → List (Entry V) → View V
  logged s r l = record { copies = s.copies; capacity = s.capacity; log = put s.log r l; known = s.known; term = s.term; leader = s.leader }

  -- copy r knows n entries to be committed
  abbrev pub knowing : View V → ℕ → ℕ → View V
  knowing s r n = record { copies = s.copies; capacity = s.capacity; log = s.log; known = put s.known r n; term = s.term; leader = s.leader }

  -- a log after one entry of the leader's was copied to it where it parted from the leader's
  abbrev pub copied : List (Entry V) → List (Entry V) → List (Entry V)
  copied led log = take (gap led log) log ++ take 1 (drop (gap led log) led)

  -- 3 the voters are not enough; 4 one of them has a newer log; 5 terms are used up
  unfoldable pub elect_move : (ℕ → Bool) → View V → ℕ → ℕ → View V × Result ℕ LogFault
  elect_move elects s candidate voters =
      cond (not (elects voters)) (s, Err VotersNotEnough)
      (cond (not (none_newer s candidate voters)) (s, Err VoterNewer)
      (cond (s.term == 65535) (s, Err TermsUsedUp)
      (leading s candidate, Ok (s.term + 1))))

  -- 25 the log is full
  unfoldable pub append_move : View V → ℕ → Entry V → View V × Result ℕ LogFault
  append_move s a e =
      cond (nat_le s.capacity (length (s.log a))) (s, Err LogFull)
      (logged s a (s.log a ++ e ∷ []), Ok (length (s.log a) + 1))

  abbrev pub copy_from : View V → ℕ → Option ℕ → View V × Result ℕ LogFault
  copy_from s r None = (s, Err NoLeader)
  copy_from s r (Some a) =
      cond (nat_le (length (s.log a)) (gap (s.log a) (s.log r))) (s, Err NothingToCopy)
      (logged s r (copied (s.log a) (s.log r)), Ok (gap (s.log a) (s.log r) + 1))

  -- 6 no leader; 13 nothing to copy
  unfoldable pub copy_move : View V → ℕ → View V × Result ℕ LogFault
  copy_move s r = copy_from s r s.leader

  module _ (alike : V → V → Bool) where
    abbrev pub commit_at : (ℕ → Bool) → View V → ℕ → Option ℕ → View V × Result ℕ LogFault
    commit_at commits s n None = (s, Err NoLeader)
    commit_at commits s n (Some a) =
        cond (nat_le n (s.known a) || nat_lt (length (s.log a)) n) (s, Err CountOutOfRange)
        (cond (not (last_term (take n (s.log a)) == s.term)) (s, Err OtherTerm)
        (cond (not (commits (holders alike s a n))) (s, Err HoldersNotEnough)
        (knowing s a n, Ok n)))

    -- 6 no leader; 14 not above the known count, or beyond the log; 15 entry n is of another term; 16 holders not enough
    unfoldable pub commit_move : (ℕ → Bool) → View V → ℕ → View V × Result ℕ LogFault
    commit_move commits s n = commit_at commits s n s.leader

    -- 26 the copy's first n entries are not the committed log's
    unfoldable pub rise_move : View V → ℕ → ℕ → View V × Result (Unit {0}) LogFault
    rise_move s r n = cond (not (holds_committed alike s r n)) (s, Err NotCommitted) (knowing s r (max (s.known r) n), Ok tt)
