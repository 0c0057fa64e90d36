-- The fourteen steps but for deliver, in the order of their codes: the checks in their order, then the effect. A refused step
-- leaves the service as it is.
use Rattle.std.specs.Prelude.{ℕ, ◌/◌, ◌^◌, Bool, cond, not, ◌||◌, length, Ok, Err, Result, nat_le, nat_lt}
use Rattle.raft_log.specs.Moves as log
use Rattle.relay.specs.declared.message.Message.{Message}
use Rattle.relay.specs.Rows.{closed, installed, installable}
use Rattle.leader.specs.declared.fault.LeaderFault.TheVariants.{Log}
use Rattle.leader.specs.Faults.{on_result}
use Rattle.rules.specs.Sessions.{open_move as open_session}
use Rattle.rules.specs.Corrections.{reply_of}
use Rattle.client.specs.declared.fault.ClientFault.{ClientFault}
use Rattle.client.specs.declared.fault.ClientFault.TheVariants.{Busy, Idle}
use Rattle.client.specs.Client.{number_after, read_request, correction_request}
use Rattle.state.specs.declared.fault.ServiceFault.{ServiceFault}
use Rattle.state.specs.declared.fault.ServiceFault.TheVariants.{NoSuch, TableFull, Malformed, Leader, Relay, Client}
use Rattle.state.specs.Memory.{message_at}
use Rattle.requests.specs.Clients.{no_star}
use Rattle.requests.specs.Table.{installed_message}
use Rattle.rules.specs.Whole.{Open, Asker, Whole, with_logs, with_lead, with_snapshot, with_relay, with_client, with_messages, full, sending, without}
use Rattle.rules.specs.Whole.Open.{idle, reading, correcting}

module _ {V : Type 0} where
  -- there is no such client
  abbrev pub unseated : Whole V → ℕ → Bool
  unseated w c = nat_le w.seats c

  -- the number of a client's next request: 9 it waits; 11 its numbers are used up
  abbrev pub next_after : ℕ → Open V → Result ℕ ClientFault
  next_after n idle = number_after n
  next_after n (reading s) = Err Busy
  next_after n (correcting s v) = Err Busy

  abbrev pub next_number : Asker V → Result ℕ ClientFault
  next_number a = next_after a.number a.request

  -- a client's open request as a message: 10 it is idle
  abbrev pub message_of : ℕ → ℕ → Open V → Result (Message V) ClientFault
  message_of c n idle = Err Idle
  message_of c n (reading s) = Ok (read_request c n s)
  message_of c n (correcting s v) = Ok (correction_request c n s v)

  -- the client asks, under the number n
  abbrev pub asking : Whole V → ℕ → ℕ → Open V → Whole V
  asking w c n o = with_client w c (record { number = n; request = o })

  -- a message is put at the end and the answer is n: 12 the table is full
  abbrev pub posting : Whole V → Whole V → Message V → ℕ → Whole V × Result ℕ ServiceFault
  posting w next m n = cond (full w) (w, Err TableFull) (sending next m, Ok n)

  -- elect: 2 no such copy, or a bit for none; then the log's 3, 4, 5. The session's part becomes 0
  abbrev pub elect_move : (ℕ → Bool) → Whole V → ℕ → ℕ → Whole V × Result ℕ ServiceFault
  elect_move elects w copy voters =
      cond (nat_le w.logs.copies copy || nat_lt 0 (voters / 2 ^ w.logs.copies)) (w, Err NoSuch)
      (let p = log.elect_move elects w.logs copy voters in
      on_result p.1 (λ t. (with_lead (with_logs w p.0) (record { part = 0; last = w.lead.last }), Ok t)) (λ e. (w, Err (Leader (Log e)))))

  -- open: 6, 7. The snapshot is written over the last
  abbrev pub open_move : (V → V → Bool) → Whole V → Whole V × Result ℕ ServiceFault
  open_move alike w =
      let p = open_session alike w.logs w.lead in
      on_result p.1 (λ s. (with_snapshot (with_lead w p.0) s, Ok s.session)) (λ e. (w, Err (Leader e)))

  -- install: 8, 12. The relay is opened with the snapshot, and the leader is told
  abbrev pub install_move : Whole V → Whole V × Result ℕ ServiceFault
  install_move w =
      on_result (installable w.relay w.snapshot)
      (λ s. posting w (with_relay w (installed s)) (installed_message s.session) s.session)
      (λ e. (w, Err (Relay e)))

  -- restart: the relay is closed, and only its highest installed session survives
  abbrev pub restart_move : Whole V → Whole V
  restart_move w = with_relay w (closed w.relay.session)

  -- what read and correct begin with: 2, 9, 11
  abbrev pub beginning : Whole V → ℕ → ℕ → Result ℕ ServiceFault
  beginning w c star =
      cond (unseated w c || no_star star) (Err NoSuch) (on_result (next_number (w.clients c)) Ok (λ e. Err (Client e)))

  -- read: 2, 9, 11, 12
  abbrev pub read_move : Whole V → ℕ → ℕ → Whole V × Result ℕ ServiceFault
  read_move w c star =
      on_result (beginning w c star) (λ n. posting w (asking w c n (reading star)) (read_request c n star) n) (λ e. (w, Err e))

  -- correct: 19, 2, 9, 11, 12
  abbrev pub correct_move : (V → Bool) → Whole V → ℕ → ℕ → V → Whole V × Result ℕ ServiceFault
  correct_move well_formed w c star v =
      cond (not (well_formed v)) (w, Err Malformed)
      (on_result (beginning w c star) (λ n. posting w (asking w c n (correcting star v)) (correction_request c n star v) n) (λ e. (w, Err e)))

  -- again: 2, 10, 12
  abbrev pub again_move : Whole V → ℕ → Whole V × Result ℕ ServiceFault
  again_move w c =
      cond (unseated w c) (w, Err NoSuch)
      (on_result (message_of c (w.clients c).number (w.clients c).request) (λ m. posting w w m m.number) (λ e. (w, Err (Client e))))

  abbrev pub abandon_of : Whole V → ℕ → ℕ → Open V → Whole V × Result (Unit {0}) ServiceFault
  abandon_of w c n idle = (w, Err (Client Idle))
  abandon_of w c n (reading s) = (asking w c n idle, Ok tt)
  abandon_of w c n (correcting s v) = (asking w c n idle, Ok tt)

  -- abandon: 2, 10
  abbrev pub abandon_move : Whole V → ℕ → Whole V × Result (Unit {0}) ServiceFault
  abandon_move w c = cond (unseated w c) (w, Err NoSuch) (abandon_of w c (w.clients c).number (w.clients c).request)

  -- lose: 2 no such place
  abbrev pub lose_move : Whole V → ℕ → Whole V × Result (Unit {0}) ServiceFault
  lose_move w i = cond (nat_le (length w.messages) i) (w, Err NoSuch) (with_messages w (without w.messages i), Ok tt)

  -- double: 2, 12
  abbrev pub double_move : Whole V → ℕ → Whole V × Result ℕ ServiceFault
  double_move w i =
      cond (nat_le (length w.messages) i) (w, Err NoSuch)
      (let t = sending w (message_at w.messages i) in cond (full w) (w, Err TableFull) (t, Ok (length t.messages)))

  -- copy: 2 no such copy; then the log's 6, 13
  abbrev pub copy_move : Whole V → ℕ → Whole V × Result ℕ ServiceFault
  copy_move w r =
      cond (nat_le w.logs.copies r) (w, Err NoSuch)
      (let p = log.copy_move w.logs r in on_result p.1 (λ n. (with_logs w p.0, Ok n)) (λ e. (w, Err (Leader (Log e)))))

  -- commit: the log's 6, 14, 15, 16
  abbrev pub commit_move : (V → V → Bool) → (ℕ → Bool) → Whole V → ℕ → Whole V × Result ℕ ServiceFault
  commit_move alike commits w n =
      let p = log.commit_move alike commits w.logs n in on_result p.1 (λ k. (with_logs w p.0, Ok k)) (λ e. (w, Err (Leader (Log e))))

  -- reply: 6, 14, 17, 12
  abbrev pub reply_move : V → (V → V → Bool) → Whole V → ℕ → Whole V × Result ℕ ServiceFault
  reply_move blank alike w i =
      on_result (reply_of blank alike w.logs w.lead i) (λ m. posting w w m i) (λ e. (w, Err (Leader e)))
