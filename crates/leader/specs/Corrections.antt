-- Corrections at the leader, the opening entry of a term, and the fresh reply.
use Rattle.std.specs.Prelude.{ℕ, Bool, cond, not, ◌||◌, List, Some, None, Ok, Err, Option, Result, ◌==◌, nat_le, nat_lt}
use Rattle.entries.specs.declared.entry.Entry.{Entry}
use Rattle.entries.specs.declared.entry.Sought.TheVariants.{Request, Term}
use Rattle.entries.specs.Search.{last_of, index_of}
use Rattle.copies.specs.declared.logs.Logs.{Logs}
use Rattle.copies.specs.Shape.{known_of}
use Rattle.copies.specs.View.{log_of, view_of}
use Rattle.copies.specs.Questions.{holders}
use Rattle.raft_log.specs.declared.fault.LogFault.{LogFault}
use Rattle.raft_log.specs.Calls.{leader_in, append_step, entry_known}
use Rattle.relay.specs.declared.message.Outcome.{Outcome}
use Rattle.relay.specs.declared.message.Outcome.TheVariants.{Fresh, KnownAlready, Unlawful}
use Rattle.relay.specs.declared.message.Body.TheVariants.{CorrectionReply}
use Rattle.relay.specs.declared.message.Message.{Message}
use Rattle.relay.specs.Rows.{index_alone}
use Rattle.leader.specs.declared.lead.Lead.{Lead}
use Rattle.leader.specs.declared.fault.LeaderFault.{LeaderFault}
use Rattle.leader.specs.declared.fault.LeaderFault.TheVariants.{NoReply, NumberNotAbove, Uncommitted, TermBegun, Log}
use Rattle.leader.specs.Faults.{on_result}
use Rattle.leader.specs.Sessions.{session_of, present}

module _ {V : Type 0} where
  -- the reply to a correction that is not appended
  abbrev pub told : Message V → ℕ → Outcome → ℕ → Message V
  told m sequence o index = record { client = m.client; number = m.number; star = m.star; session = m.session; body = CorrectionReply sequence o (index_alone index); value = None }

  -- the value, if there is a lawful one
  abbrev pub lawful_value : (V → Bool) → Option V → Option V
  lawful_value lawful None = None
  lawful_value lawful (Some v) = cond (lawful v) (Some v) None

  -- the entry of a correction
  abbrev pub entry_of : Logs → Message V → ℕ → V → Entry V
  entry_of l m sequence v =
      record { term = l.term; stamp = record { session = m.session; number = sequence }; client = m.client; number = m.number; star = m.star; value = v }

  -- what came of an append: the last sequence number becomes this one, if there was room
  abbrev pub on_append : Lead → ℕ → Logs × List (Entry V) × Result ℕ LogFault → Logs × Lead × List (Entry V) × Result (Option (Message V)) LeaderFault
  on_append d sequence p =
      on_result p.2 (λ n. (p.0, record { part = d.part; last = sequence }, p.1, Ok None)) (λ e. (p.0, d, p.1, Err (Log e)))

  -- the index of the leader's entry of the client and number, or 0
  abbrev pub request_index : Logs → List (Entry V) → ℕ → Message V → ℕ
  request_index l es a m = index_of (last_of (Request m.client m.number) (log_of l es a))

  -- a lawful correction: in the log already, still uncommitted, or appended
  abbrev pub correction_of : Logs → Lead → List (Entry V) → Message V → ℕ → ℕ → Option V → Logs × Lead × List (Entry V) × Result (Option (Message V)) LeaderFault
  correction_of l d es m sequence a None = (l, d, es, Ok (Some (told m sequence Unlawful 0)))
  correction_of l d es m sequence a (Some v) =
      cond (nat_lt (known_of l a) (request_index l es a m)) (l, d, es, Err Uncommitted)
      (cond (nat_lt 0 (request_index l es a m)) (l, d, es, Ok (Some (told m sequence KnownAlready (request_index l es a m))))
      (on_append d sequence (append_step l es a (entry_of l m sequence v))))

  abbrev pub correction_step : (V → Bool) → Logs → Lead → List (Entry V) → Message V → ℕ → Logs × Lead × List (Entry V) × Result (Option (Message V)) LeaderFault
  correction_step lawful l d es m sequence =
      on_result (present l d m.session l.leader)
      (λ a. cond (nat_le sequence d.last) (l, d, es, Err NumberNotAbove) (correction_of l d es m sequence a (lawful_value lawful m.value)))
      (λ e. (l, d, es, Err e))

  -- the opening entry of a term
  abbrev pub opening_entry : V → Logs → ℕ → Entry V
  opening_entry blank l session =
      record { term = l.term; stamp = record { session = session; number = 0 }; client = 0; number = 0; star = 0; value = blank }

  abbrev pub on_opening : Logs × List (Entry V) × Result ℕ LogFault → Logs × List (Entry V) × Result (Unit {0}) LeaderFault
  on_opening p = on_result p.2 (λ n. (p.0, p.1, Ok tt)) (λ e. (p.0, p.1, Err (Log e)))

  abbrev pub installed_step : V → Logs → Lead → List (Entry V) → ℕ → Logs × List (Entry V) × Result (Unit {0}) LeaderFault
  installed_step blank l d es session =
      on_result (present l d session l.leader)
      (λ a. cond (nat_lt 0 (index_of (last_of (Term l.term) (log_of l es a)))) (l, es, Err TermBegun) (on_opening (append_step l es a (opening_entry blank l session))))
      (λ e. (l, es, Err e))

  -- the fresh reply for entry e at index i
  abbrev pub fresh_reply : (V → V → Bool) → Logs → List (Entry V) → ℕ → ℕ → Entry V → Message V
  fresh_reply alike l es a i e =
      record { client = e.client; number = e.number; star = e.star; session = e.stamp.session; body = CorrectionReply e.stamp.number Fresh (record { index = i; holders = holders alike (view_of l es) a i; stamp = e.stamp }); value = None }

  -- only an entry of the present session that is no opening entry is replied for
  abbrev pub reply_for : (V → V → Bool) → Logs → Lead → List (Entry V) → ℕ → ℕ → Entry V → Result (Message V) LeaderFault
  reply_for alike l d es a i e =
      cond (e.star == 0 || not (e.stamp.session == session_of l.term d.part)) (Err NoReply)
      (Ok (fresh_reply alike l es a i e))

  abbrev pub reply_by : V → (V → V → Bool) → Logs → Lead → List (Entry V) → ℕ → ℕ → Result (Message V) LeaderFault
  reply_by blank alike l d es i a = on_result (entry_known blank l es a i) (reply_for alike l d es a i) (λ e. Err (Log e))

  abbrev pub reply_step : V → (V → V → Bool) → Logs → Lead → List (Entry V) → ℕ → Result (Message V) LeaderFault
  reply_step blank alike l d es i = on_result (leader_in l.leader) (reply_by blank alike l d es i) (λ e. Err (Log e))
