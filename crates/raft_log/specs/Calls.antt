-- What each call of the log answers, and what the logs are after it.
use Rattle.std.specs.Prelude.{ℕ, ◌+◌, ◌-◌, ◌*◌, max, Bool, cond, not, ◌||◌, List, length, take, Some, None, Ok, Err, Option, Result, ◌==◌, nat_le, nat_lt, slice_index_or, slice_set}
use Rattle.entries.specs.declared.entry.Entry.{Entry}
use Rattle.entries.specs.Search.{no_stamp}
use Rattle.entries.specs.Fronts.{last_term, gap}
use Rattle.copies.specs.declared.logs.Logs.{Logs}
use Rattle.copies.specs.Shape.{length_of, known_of}
use Rattle.copies.specs.View.{log_of, view_of}
use Rattle.copies.specs.Questions.{none_newer, holders, holds_committed}
use Rattle.raft_log.specs.declared.fault.LogFault.{LogFault}
use Rattle.raft_log.specs.declared.fault.LogFault.TheVariants.{VotersNotEnough, VoterNewer, TermsUsedUp, NoLeader, NothingToCopy, CountOutOfRange, OtherTerm, HoldersNotEnough, LogFull, NotCommitted}

-- the logs with copy c as the leader of the next term
abbrev pub with_leader : Logs → ℕ → Logs
with_leader l c = record { copies = l.copies; capacity = l.capacity; counts = l.counts; term = l.term + 1; leader = Some c }

-- the logs with copy r's log ending after n entries
abbrev pub with_length : Logs → ℕ → ℕ → Logs
with_length l r n = record { copies = l.copies; capacity = l.capacity; counts = slice_set l.counts r (record { length = n; known = known_of l r }); term = l.term; leader = l.leader }

-- the logs with copy r's known count at n
abbrev pub with_known : Logs → ℕ → ℕ → Logs
with_known l r n = record { copies = l.copies; capacity = l.capacity; counts = slice_set l.counts r (record { length = length_of l r; known = n }); term = l.term; leader = l.leader }

-- the leader, or a refusal
abbrev pub leader_in : Option ℕ → Result ℕ LogFault
leader_in None = Err NoLeader
leader_in (Some a) = Ok a

module _ {V : Type 0} where
  -- the candidate leads the next term if the voters are enough and none has a newer log
  abbrev pub elect_step : (ℕ → Bool) → Logs → List (Entry V) → ℕ → ℕ → Logs × Result ℕ LogFault
  elect_step elects l es candidate voters =
      cond (not (elects voters)) (l, Err VotersNotEnough)
      (cond (not (none_newer (view_of l es) candidate voters)) (l, Err VoterNewer)
      (cond (l.term == 65535) (l, Err TermsUsedUp)
      (with_leader l candidate, Ok (l.term + 1))))

  -- the entry put into copy r's log at place i, where the log then ends
  abbrev pub put_step : Logs → List (Entry V) → ℕ → ℕ → Entry V → Logs × List (Entry V) × ℕ
  put_step l es r i e = (with_length l r (i + 1), slice_set es (r * l.capacity + i) e, i + 1)

  -- one entry more at the end of copy a's log
  abbrev pub append_step : Logs → List (Entry V) → ℕ → Entry V → Logs × List (Entry V) × Result ℕ LogFault
  append_step l es a e =
      let n = length_of l a in
      cond (nat_le l.capacity n) (l, es, Err LogFull)
      (with_length l a (n + 1), slice_set es (a * l.capacity + n) e, Ok (n + 1))

  -- the commit of copy a's first n entries, a being the leader
  abbrev pub commit_by : (V → V → Bool) → (ℕ → Bool) → Logs → List (Entry V) → ℕ → Option ℕ → Logs × Result ℕ LogFault
  commit_by alike commits l es n None = (l, Err NoLeader)
  commit_by alike commits l es n (Some a) =
      cond (nat_le n (known_of l a) || nat_lt (length_of l a) n) (l, Err CountOutOfRange)
      (cond (not (last_term (take n (log_of l es a)) == l.term)) (l, Err OtherTerm)
      (cond (not (commits (holders alike (view_of l es) a n))) (l, Err HoldersNotEnough)
      (with_known l a n, Ok n)))

  -- the leader's known count rises to n
  abbrev pub commit_step : (V → V → Bool) → (ℕ → Bool) → Logs → List (Entry V) → ℕ → Logs × Result ℕ LogFault
  commit_step alike commits l es n = commit_by alike commits l es n l.leader

  -- copy r's known count rises to n, if lower, where its first n entries are the committed log's
  abbrev pub rise_step : (V → V → Bool) → Logs → List (Entry V) → ℕ → ℕ → Logs × Result (Unit {0}) LogFault
  rise_step alike l es r n =
      cond (not (holds_committed alike (view_of l es) r n)) (l, Err NotCommitted)
      (with_known l r (max (known_of l r) n), Ok tt)

  module _ (blank : V) where
    abbrev pub blank_entry : Entry V
    blank_entry = record { term = 0; stamp = no_stamp; client = 0; number = 0; star = 0; value = blank }

    -- the leader's entry at the place where the other log parts from it, if they part
    abbrev pub next_of : List (Entry V) → List (Entry V) → Option (ℕ × Entry V)
    next_of led log = cond (nat_le (length led) (gap led log)) None (Some (gap led log, slice_index_or led (gap led log) blank_entry))

    -- the entry put into copy r's log at place i, which then ends there
    abbrev pub copy_put : Logs → List (Entry V) → ℕ → Option (ℕ × Entry V) → Logs × List (Entry V) × Result ℕ LogFault
    copy_put l es r None = (l, es, Err NothingToCopy)
    copy_put l es r (Some p) = (with_length l r (p.0 + 1), slice_set es (r * l.capacity + p.0) p.1, Ok (p.0 + 1))

    abbrev pub copy_by : Logs → List (Entry V) → ℕ → Option ℕ → Logs × List (Entry V) × Result ℕ LogFault
    copy_by l es r None = (l, es, Err NoLeader)
    copy_by l es r (Some a) = copy_put l es r (next_of (log_of l es a) (log_of l es r))

    -- the leader's entry goes to copy r at the first place where r's log ends or has another term; what followed is discarded
    abbrev pub copy_step : Logs → List (Entry V) → ℕ → Logs × List (Entry V) × Result ℕ LogFault
    copy_step l es r = copy_by l es r l.leader

    -- copy a's entry i, counted from 1, within its known count
    abbrev pub entry_known : Logs → List (Entry V) → ℕ → ℕ → Result (Entry V) LogFault
    entry_known l es a i =
        cond (i == 0 || nat_lt (known_of l a) i) (Err CountOutOfRange)
        (Ok (slice_index_or (log_of l es a) (i - 1) blank_entry))
