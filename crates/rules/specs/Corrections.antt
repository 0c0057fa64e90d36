-- Corrections at the leader, the opening entry of a term, and the fresh reply, over logs as lists.
use Rattle.std.specs.Prelude.{ℕ, ◌-◌, Bool, cond, not, ◌||◌, Some, None, Ok, Err, Option, Result, ◌==◌, nat_le, nat_lt, slice_index_or}
use Rattle.entries.specs.declared.entry.Entry.{Entry}
use Rattle.entries.specs.declared.entry.Sought.TheVariants.{Request, Term}
use Rattle.entries.specs.Search.{last_of, index_of}
use Rattle.copies.specs.View.{View}
use Rattle.copies.specs.Questions.{holders}
use Rattle.raft_log.specs.declared.fault.LogFault.{LogFault}
use Rattle.raft_log.specs.declared.fault.LogFault.TheVariants.{CountOutOfRange}
use Rattle.raft_log.specs.Calls.{leader_in, blank_entry}
use Rattle.raft_log.specs.Moves.{append_move}
use Rattle.relay.specs.declared.message.Outcome.TheVariants.{Fresh, KnownAlready, Unlawful}
use Rattle.relay.specs.declared.message.Body.TheVariants.{CorrectionReply}
use Rattle.relay.specs.declared.message.Message.{Message}
use Rattle.leader.specs.declared.lead.Lead.{Lead}
use Rattle.leader.specs.declared.fault.LeaderFault.{LeaderFault}
use Rattle.leader.specs.declared.fault.LeaderFault.TheVariants.{NoReply, NumberNotAbove, Uncommitted, TermBegun, Log}
use Rattle.leader.specs.Faults.{on_result}
use Rattle.leader.specs.Sessions.{session_of}
use Rattle.leader.specs.Corrections.{told, lawful_value}
use Rattle.rules.specs.Sessions.{present}

module _ {V : Type 0} where
  -- the entry of a correction, of the present term
  abbrev pub entry_of : ℕ → Message V → ℕ → V → Entry V
  entry_of term m sequence v =
      record { term = term; stamp = record { session = m.session; number = sequence }; client = m.client; number = m.number; star = m.star; value = v }

  -- the index of the leader's entry of the client and number, or 0
  abbrev pub request_index : View V → ℕ → Message V → ℕ
  request_index s a m = index_of (last_of (Request m.client m.number) (s.log a))

  -- the same of the logs as lists
  abbrev pub on_append_move : View V → Lead → ℕ → View V × Result ℕ LogFault → View V × Lead × Result (Option (Message V)) LeaderFault
  on_append_move s d sequence p = on_result p.1 (λ n. (p.0, record { part = d.part; last = sequence }, Ok None)) (λ e. (s, d, Err (Log e)))

  abbrev pub correction_at : View V → Lead → Message V → ℕ → ℕ → Option V → View V × Lead × Result (Option (Message V)) LeaderFault
  correction_at s d m sequence a None = (s, d, Ok (Some (told m sequence Unlawful 0)))
  correction_at s d m sequence a (Some v) =
      cond (nat_lt (s.known a) (request_index s a m)) (s, d, Err Uncommitted)
      (cond (nat_lt 0 (request_index s a m)) (s, d, Ok (Some (told m sequence KnownAlready (request_index s a m))))
      (on_append_move s d sequence (append_move s a (entry_of s.term m sequence v))))

  -- 21 another session; 22 the number is not above the last; unlawful; 24 still uncommitted; known already; 25 the log is full
  abbrev pub correction_move : (V → Bool) → View V → Lead → Message V → ℕ → View V × Lead × Result (Option (Message V)) LeaderFault
  correction_move lawful s d m sequence =
      on_result (present s.term d m.session s.leader)
      (λ a. cond (nat_le sequence d.last) (s, d, Err NumberNotAbove) (correction_at s d m sequence a (lawful_value lawful m.value)))
      (λ e. (s, d, Err e))

  -- the opening entry of a term
  abbrev pub opening_entry : V → ℕ → ℕ → Entry V
  opening_entry blank term session =
      record { term = term; stamp = record { session = session; number = 0 }; client = 0; number = 0; star = 0; value = blank }

  -- the same of the logs as lists: 21 another session; 29 the log has an entry of this term; 25 the log is full
  abbrev pub installed_move : V → View V → Lead → ℕ → View V × Result (Unit {0}) LeaderFault
  installed_move blank s d session =
      on_result (present s.term d session s.leader)
      (λ a.
      cond (nat_lt 0 (index_of (last_of (Term s.term) (s.log a)))) (s, Err TermBegun)
      (let p = append_move s a (opening_entry blank s.term session) in on_result p.1 (λ n. (p.0, Ok tt)) (λ e. (s, Err (Log e)))))
      (λ e. (s, Err e))

  -- copy a's entry i, counted from 1, within its known count
  abbrev pub entry_known : V → View V → ℕ → ℕ → Result (Entry V) LogFault
  entry_known blank s a i =
      cond (i == 0 || nat_lt (s.known a) i) (Err CountOutOfRange)
      (Ok (slice_index_or (s.log a) (i - 1) (blank_entry blank)))

  -- the fresh reply for entry e at index i
  abbrev pub fresh_reply : (V → V → Bool) → View V → ℕ → ℕ → Entry V → Message V
  fresh_reply alike s a i e =
      record { client = e.client; number = e.number; star = e.star; session = e.stamp.session; body = CorrectionReply e.stamp.number Fresh (record { index = i; holders = holders alike s a i; stamp = e.stamp }); value = None }

  -- only an entry of the present session that is no opening entry is replied for
  abbrev pub reply_for : (V → V → Bool) → View V → Lead → ℕ → ℕ → Entry V → Result (Message V) LeaderFault
  reply_for alike s d a i e =
      cond (e.star == 0 || not (e.stamp.session == session_of s.term d.part)) (Err NoReply)
      (Ok (fresh_reply alike s a i e))

  abbrev pub reply_by : V → (V → V → Bool) → View V → Lead → ℕ → ℕ → Result (Message V) LeaderFault
  reply_by blank alike s d i a = on_result (entry_known blank s a i) (reply_for alike s d a i) (λ e. Err (Log e))

  -- 6 no leader; 14 i is 0 or above the known count; 17 an opening entry, or another session's
  abbrev pub reply_of : V → (V → V → Bool) → View V → Lead → ℕ → Result (Message V) LeaderFault
  reply_of blank alike s d i = on_result (leader_in s.leader) (reply_by blank alike s d i) (λ e. Err (Log e))
