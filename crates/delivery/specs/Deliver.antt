-- The step deliver: a message is taken, does what its kind says, and at most one new message goes to the end.
use Rattle.std.specs.Prelude.{ℕ, Bool, cond, not, List, length, Ok, Err, Result, nat_le}
use Rattle.entries.specs.declared.entry.Entry.{Entry}
use Rattle.copies.specs.Shape.{shaped}
use Rattle.relay.specs.declared.message.Body.{Body}
use Rattle.relay.specs.declared.message.Body.TheVariants as bodies
use Rattle.relay.specs.declared.message.Message.{Message}
use Rattle.client.specs.declared.client.Answer.TheVariants as answers
use Rattle.state.specs.declared.service.Service.{Service}
use Rattle.state.specs.declared.fault.ServiceFault.{ServiceFault}
use Rattle.state.specs.declared.fault.ServiceFault.TheVariants.{Memory, NoSuch}
use Rattle.state.specs.Memory.{table_fits, taken, put_at}
use Rattle.state.specs.Parts.{with_table}
use Rattle.delivery.specs.declared.step.Effect.{Effect}
use Rattle.delivery.specs.declared.step.Effect.TheVariants.{Done, Dropped, Answered}
use Rattle.delivery.specs.declared.react.Reaction.{Reaction}
use Rattle.delivery.specs.declared.react.Reaction.TheVariants.{Sends, Answers, Ends}
use Rattle.delivery.specs.Kinds.{at_read_request, at_correction_request, at_copy_read, at_leader_read, at_correction, at_installed, at_leader_reply, at_copy_reply, at_correction_reply, at_answer}

module _ {V R : Type 0} where
  -- where the entries stay as they are
  abbrev pub kept : List (Entry V) → Service R × Result (Reaction V) ServiceFault → Service R × List (Entry V) × Result (Reaction V) ServiceFault
  kept es p = (p.0, es, p.1)

  -- the message does what its kind says
  unfoldable pub react : V → (V → Bool) → (V → V → Bool) → Service R → List (Entry V) → Message V → Body → Service R × List (Entry V) × Result (Reaction V) ServiceFault
  react blank lawful alike s es m bodies.ReadRequest = kept es (at_read_request s m)
  react blank lawful alike s es m bodies.CorrectionRequest = kept es (at_correction_request s m)
  react blank lawful alike s es m (bodies.CopyRead r i) = kept es (at_copy_read alike s es m r i)
  react blank lawful alike s es m bodies.LeaderRead = (s, es, at_leader_read s es m)
  react blank lawful alike s es m (bodies.Correction n) = at_correction lawful s es m n
  react blank lawful alike s es m bodies.Installed = at_installed blank s es m.session
  react blank lawful alike s es m bodies.LeaderReply = (s, es, at_leader_reply s m)
  react blank lawful alike s es m (bodies.CopyReply r w) = (s, es, at_copy_reply s m w)
  react blank lawful alike s es m (bodies.CorrectionReply n o t) = kept es (at_correction_reply s m n o t)
  react blank lawful alike s es m bodies.ReadAnswer = kept es (at_answer s m.client m.number (answers.Reading m.value))
  react blank lawful alike s es m (bodies.CorrectionAnswer o i) = kept es (at_answer s m.client m.number (answers.Correction o i))

  -- what the reaction comes to: a new message goes to the end
  abbrev pub concluded : Service R → List (Entry V) → List (Message V) → Result (Reaction V) ServiceFault → Service R × List (Entry V) × List (Message V) × Result (Effect V) ServiceFault
  concluded s es ms (Ok (Sends m)) = let p = put_at s.table ms m in (with_table s p.0, es, p.1, Ok (Done 0))
  concluded s es ms (Ok (Answers a)) = (s, es, ms, Ok (Answered a))
  concluded s es ms (Ok Ends) = (s, es, ms, Ok (Done 0))
  concluded s es ms (Err f) = (s, es, ms, Ok (Dropped f))

  -- deliver: 1, 2; the last message moves into the place before the message does what its kind says
  abbrev pub deliver_step : V → (V → Bool) → (V → V → Bool) → Service R → List (Entry V) → List (Message V) → ℕ → Service R × List (Entry V) × List (Message V) × Result (Effect V) ServiceFault
  deliver_step blank lawful alike s es ms i =
      cond (not (shaped s.logs (length es))) (s, es, ms, Err Memory)
      (cond (not (table_fits s.table (length ms))) (s, es, ms, Err Memory)
      (cond (nat_le s.table.count i) (s, es, ms, Err NoSuch)
      (let t = taken s.table ms i in
      let p = react blank lawful alike (with_table s t.0) es t.2 t.2.body in
      concluded p.0 p.1 t.1 p.2)))
