-- What each kind of message does where it arrives, and what it brings about.
use Rattle.std.specs.Prelude.{ℕ, Bool, cond, List, Some, None, Ok, Err, Option, Result, nat_le, slice_index_or, slice_set}
use Rattle.entries.specs.declared.entry.Entry.{Entry}
use Rattle.entries.specs.declared.entry.Stamp.{Stamp}
use Rattle.raft_log.specs.declared.fault.LogFault.TheVariants.{NotCommitted}
use Rattle.relay.specs.declared.message.Outcome.{Outcome}
use Rattle.relay.specs.declared.message.Message.{Message}
use Rattle.relay.specs.declared.rows.Settlement.{Settlement}
use Rattle.relay.specs.Delivery as relay
use Rattle.leader.specs.declared.fault.LeaderFault.TheVariants.{Log}
use Rattle.leader.specs.Faults.{on_result}
use Rattle.leader.specs.Reads as reads
use Rattle.leader.specs.Corrections as corrections
use Rattle.client.specs.declared.client.Answer.{Answer}
use Rattle.client.specs.declared.fault.ClientFault.TheVariants.{NotAwaited}
use Rattle.client.specs.Client.{take_step}
use Rattle.state.specs.declared.service.Service.{Service}
use Rattle.state.specs.declared.fault.ServiceFault.{ServiceFault}
use Rattle.state.specs.declared.fault.ServiceFault.TheVariants.{Leader, Relay, Client}
use Rattle.state.specs.Memory.{unseated}
use Rattle.state.specs.Parts.{idle_client, with_logs, with_lead, with_relay, with_clients}
use Rattle.delivery.specs.declared.react.Reaction.{Reaction}
use Rattle.delivery.specs.declared.react.Reaction.TheVariants.{Sends, Answers, Ends}

-- a message that was sent on, or the fault passed up
abbrev pub sending : {V E : Type 0} → (E → ServiceFault) → Result (Message V) E → Result (Reaction V) ServiceFault
sending f (Ok m) = Ok (Sends m)
sending f (Err e) = Err (f e)

-- a reply is sent, or the message ends here
abbrev pub sending_any : {V : Type 0} → Option (Message V) → Reaction V
sending_any None = Ends
sending_any (Some m) = Sends m

module _ {V R : Type 0} where
  abbrev pub at_read_request : Service R → Message V → Service R × Result (Reaction V) ServiceFault
  at_read_request s m = let p = relay.read_request s.logs.copies s.relay m in (with_relay s p.0, sending Relay p.1)

  abbrev pub at_correction_request : Service R → Message V → Service R × Result (Reaction V) ServiceFault
  at_correction_request s m = let p = relay.correction_request s.relay m in (with_relay s p.0, sending Relay p.1)

  -- a copy read to no copy is dropped like one to a copy that is behind
  abbrev pub at_copy_read : (V → V → Bool) → Service R → List (Entry V) → Message V → ℕ → ℕ → Service R × Result (Reaction V) ServiceFault
  at_copy_read alike s es m r index =
      cond (nat_le s.logs.copies r) (s, Err (Leader (Log NotCommitted)))
      (let p = reads.copy_read alike s.logs es m r index in (with_logs s p.0, sending Leader p.1))

  abbrev pub at_leader_read : Service R → List (Entry V) → Message V → Result (Reaction V) ServiceFault
  at_leader_read s es m = sending Leader (reads.leader_read s.logs s.lead es m)

  abbrev pub at_correction : (V → Bool) → Service R → List (Entry V) → Message V → ℕ → Service R × List (Entry V) × Result (Reaction V) ServiceFault
  at_correction lawful s es m sequence =
      let p = corrections.correction_step lawful s.logs s.lead es m sequence in
      (with_lead (with_logs s p.0) p.1, p.2, on_result p.3 (λ o. Ok (sending_any o)) (λ e. Err (Leader e)))

  abbrev pub at_installed : V → Service R → List (Entry V) → ℕ → Service R × List (Entry V) × Result (Reaction V) ServiceFault
  at_installed blank s es session =
      let p = corrections.installed_step blank s.logs s.lead es session in
      (with_logs s p.0, p.1, on_result p.2 (λ u. Ok Ends) (λ e. Err (Leader e)))

  abbrev pub at_leader_reply : Service R → Message V → Result (Reaction V) ServiceFault
  at_leader_reply s m = sending Relay (relay.leader_reply s.relay m)

  abbrev pub at_copy_reply : Service R → Message V → Stamp → Result (Reaction V) ServiceFault
  at_copy_reply s m stamp = sending Relay (relay.copy_reply s.relay m stamp)

  abbrev pub at_correction_reply : Service R → Message V → ℕ → Outcome → Settlement → Service R × Result (Reaction V) ServiceFault
  at_correction_reply s m sequence o t =
      let p = relay.correction_reply s.relay m sequence o t in (with_relay s p.0, sending Relay p.1)

  abbrev pub at_answer : Service R → ℕ → ℕ → Answer V → Service R × Result (Reaction V) ServiceFault
  at_answer s c n a =
      cond (unseated s.seats c) (s, Err (Client NotAwaited))
      (let p = take_step (slice_index_or s.clients c idle_client) n a in
      (with_clients s (slice_set s.clients c p.0), on_result p.1 (λ b. Ok (Answers b)) (λ e. Err (Client e))))
