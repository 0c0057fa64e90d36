-- The step deliver: what each kind of message does where it arrives. What is dropped alters nothing.
use Rattle.std.specs.Prelude.{ℕ, Bool, cond, length, Ok, Err, Result, ◌==◌, nat_le}
use Rattle.entries.specs.declared.entry.Stamp.{Stamp}
use Rattle.raft_log.specs.declared.fault.LogFault.TheVariants.{NotCommitted}
use Rattle.relay.specs.declared.message.Outcome.{Outcome}
use Rattle.relay.specs.declared.message.Body.{Body}
use Rattle.relay.specs.declared.message.Body.TheVariants as bodies
use Rattle.relay.specs.declared.message.Message.{Message}
use Rattle.relay.specs.declared.rows.Settlement.{Settlement}
use Rattle.relay.specs.Delivery as relay
use Rattle.leader.specs.declared.fault.LeaderFault.TheVariants.{Log}
use Rattle.leader.specs.Faults.{on_result}
use Rattle.rules.specs.Reads.{copy_read_move, leader_read}
use Rattle.rules.specs.Corrections.{correction_move, installed_move}
use Rattle.client.specs.declared.client.Answer.{Answer}
use Rattle.client.specs.declared.client.Answer.TheVariants as answers
use Rattle.client.specs.declared.fault.ClientFault.TheVariants.{NotAwaited}
use Rattle.state.specs.declared.fault.ServiceFault.{ServiceFault}
use Rattle.state.specs.declared.fault.ServiceFault.TheVariants.{NoSuch, Leader, Relay, Client}
use Rattle.state.specs.Memory.{message_at}
use Rattle.rules.specs.declared.effect.Effect.{Effect}
use Rattle.rules.specs.declared.effect.Effect.TheVariants.{Done, Dropped, Answered}
use Rattle.delivery.specs.declared.react.Reaction.{Reaction}
use Rattle.delivery.specs.declared.react.Reaction.TheVariants.{Sends, Answers, Ends}
use Rattle.delivery.specs.Kinds.{sending as passed, sending_any as replying}
use Rattle.rules.specs.Whole.{Open, Whole, with_logs, with_lead, with_relay, with_messages, sending, without}
use Rattle.rules.specs.Whole.Open.{idle, reading, correcting}
use Rattle.rules.specs.Steps.{unseated, asking}

module _ {V : Type 0} where
  -- read request, at the relay: 20
  abbrev pub read_request_arrives : Whole V → Message V → Whole V × Result (Reaction V) ServiceFault
  read_request_arrives w m = let p = relay.read_request w.logs.copies w.relay m in (with_relay w p.0, passed Relay p.1)

  -- correction request, at the relay: 20, 28
  abbrev pub correction_request_arrives : Whole V → Message V → Whole V × Result (Reaction V) ServiceFault
  correction_request_arrives w m = let p = relay.correction_request w.relay m in (with_relay w p.0, passed Relay p.1)

  -- copy read, at its copy: 26. One to no copy is dropped like one to a copy that is behind
  abbrev pub copy_read_arrives : (V → V → Bool) → Whole V → Message V → ℕ → ℕ → Whole V × Result (Reaction V) ServiceFault
  copy_read_arrives alike w m r index =
      cond (nat_le w.logs.copies r) (w, Err (Leader (Log NotCommitted)))
      (let p = copy_read_move alike w.logs m r index in (with_logs w p.0, passed Leader p.1))

  -- leader read, at the leader: 21, 23
  abbrev pub leader_read_arrives : Whole V → Message V → Whole V × Result (Reaction V) ServiceFault
  leader_read_arrives w m = (w, passed Leader (leader_read w.logs w.lead m))

  -- correction, at the leader: 21, 22, unlawful, 24, known already, 25
  abbrev pub correction_arrives : (V → Bool) → Whole V → Message V → ℕ → Whole V × Result (Reaction V) ServiceFault
  correction_arrives lawful w m sequence =
      let p = correction_move lawful w.logs w.lead m sequence in
      (with_lead (with_logs w p.0) p.1, on_result p.2 (λ o. Ok (replying o)) (λ e. Err (Leader e)))

  -- installed, at the leader: 21, 29, 25
  abbrev pub installed_arrives : V → Whole V → ℕ → Whole V × Result (Reaction V) ServiceFault
  installed_arrives blank w session =
      let p = installed_move blank w.logs w.lead session in (with_logs w p.0, on_result p.1 (λ u. Ok Ends) (λ e. Err (Leader e)))

  -- the leader's read reply, at the relay: 20, 21
  abbrev pub leader_reply_arrives : Whole V → Message V → Whole V × Result (Reaction V) ServiceFault
  leader_reply_arrives w m = (w, passed Relay (relay.leader_reply w.relay m))

  -- a copy's read reply, at the relay: 20, 21
  abbrev pub copy_reply_arrives : Whole V → Message V → Stamp → Whole V × Result (Reaction V) ServiceFault
  copy_reply_arrives w m stamp = (w, passed Relay (relay.copy_reply w.relay m stamp))

  -- correction reply, at the relay: 20, 21
  abbrev pub correction_reply_arrives : Whole V → Message V → ℕ → Outcome → Settlement → Whole V × Result (Reaction V) ServiceFault
  correction_reply_arrives w m sequence o t =
      let p = relay.correction_reply w.relay m sequence o t in (with_relay w p.0, passed Relay p.1)

  -- an answer of the number to a client with an open request: 27, unless it waits for that kind and number
  abbrev pub answer_taken : Whole V → ℕ → ℕ → Answer V → ℕ → Open V → Whole V × Result (Reaction V) ServiceFault
  answer_taken w c n a k idle = (w, Err (Client NotAwaited))
  answer_taken w c n (answers.Reading v) k (reading s) = cond (n == k) (asking w c k idle, Ok (Answers (answers.Reading v))) (w, Err (Client NotAwaited))
  answer_taken w c n (answers.Correction o i) k (reading s) = (w, Err (Client NotAwaited))
  answer_taken w c n (answers.Reading v) k (correcting s x) = (w, Err (Client NotAwaited))
  answer_taken w c n (answers.Correction o i) k (correcting s x) =
      cond (n == k) (asking w c k idle, Ok (Answers (answers.Correction o i))) (w, Err (Client NotAwaited))

  -- answer, at its client: 27
  abbrev pub answer_arrives : Whole V → ℕ → ℕ → Answer V → Whole V × Result (Reaction V) ServiceFault
  answer_arrives w c n a =
      cond (unseated w c) (w, Err (Client NotAwaited)) (answer_taken w c n a (w.clients c).number (w.clients c).request)

  -- each message where it arrives, by its kind
  unfoldable pub arrive : V → (V → Bool) → (V → V → Bool) → Whole V → Message V → Body → Whole V × Result (Reaction V) ServiceFault
  arrive blank lawful alike w m bodies.ReadRequest = read_request_arrives w m
  arrive blank lawful alike w m bodies.CorrectionRequest = correction_request_arrives w m
  arrive blank lawful alike w m (bodies.CopyRead r i) = copy_read_arrives alike w m r i
  arrive blank lawful alike w m bodies.LeaderRead = leader_read_arrives w m
  arrive blank lawful alike w m (bodies.Correction n) = correction_arrives lawful w m n
  arrive blank lawful alike w m bodies.Installed = installed_arrives blank w m.session
  arrive blank lawful alike w m bodies.LeaderReply = leader_reply_arrives w m
  arrive blank lawful alike w m (bodies.CopyReply r stamp) = copy_reply_arrives w m stamp
  arrive blank lawful alike w m (bodies.CorrectionReply n o t) = correction_reply_arrives w m n o t
  arrive blank lawful alike w m bodies.ReadAnswer = answer_arrives w m.client m.number (answers.Reading m.value)
  arrive blank lawful alike w m (bodies.CorrectionAnswer o i) = answer_arrives w m.client m.number (answers.Correction o i)

  -- what the reaction to message m comes to: a new message goes to the end
  abbrev pub concluded : Whole V → Message V → Result (Reaction V) ServiceFault → Whole V × Result (Effect V) ServiceFault
  concluded w m (Ok (Sends n)) = (sending w n, Ok (Done 0))
  concluded w m (Ok (Answers a)) = (w, Ok (Answered m.client m.number a))
  concluded w m (Ok Ends) = (w, Ok (Done 0))
  concluded w m (Err f) = (w, Ok (Dropped f))

  -- deliver: 2 no such place. The last message moves into the place, and then the message does what its kind says
  unfoldable pub deliver_move : V → (V → Bool) → (V → V → Bool) → Whole V → ℕ → Whole V × Result (Effect V) ServiceFault
  deliver_move blank lawful alike w i =
      cond (nat_le (length w.messages) i) (w, Err NoSuch)
      (let m = message_at w.messages i in
      let p = arrive blank lawful alike (with_messages w (without w.messages i)) m m.body in
      concluded p.0 m p.1)
