-- Requests, answers, and what a client does with them.
use Rattle.std.specs.Prelude.{ℕ, ◌+◌, cond, Some, None, Ok, Err, Result, ◌==◌}
use Rattle.relay.specs.declared.message.Body.TheVariants.{ReadRequest, CorrectionRequest}
use Rattle.relay.specs.declared.message.Message.{Message}
use Rattle.client.specs.declared.client.Waiting.{Waiting}
use Rattle.client.specs.declared.client.Waiting.TheVariants as waits
use Rattle.client.specs.declared.client.Client.{Client}
use Rattle.client.specs.declared.client.Answer.{Answer}
use Rattle.client.specs.declared.client.Answer.TheVariants as answers
use Rattle.client.specs.declared.fault.ClientFault.{ClientFault}
use Rattle.client.specs.declared.fault.ClientFault.TheVariants.{Busy, Idle, NumbersUsedUp, NotAwaited}

-- the client waiting for something else
abbrev pub waiting_for : Client → Waiting → Client
waiting_for c w = record { number = c.number; waiting = w }

abbrev pub number_after : ℕ → Result ℕ ClientFault
number_after n = cond (n == 65535) (Err NumbersUsedUp) (Ok (n + 1))

abbrev pub next_of : ℕ → Waiting → Result ℕ ClientFault
next_of n waits.Nothing = number_after n
next_of n (waits.Reading s) = Err Busy
next_of n (waits.Correction s) = Err Busy

-- the number of the next request, if the client may make one
abbrev pub next_number : Client → Result ℕ ClientFault
next_number c = next_of c.number c.waiting

abbrev pub abandon_of : Client → Waiting → Client × Result (Unit {0}) ClientFault
abandon_of c waits.Nothing = (c, Err Idle)
abandon_of c (waits.Reading s) = (waiting_for c waits.Nothing, Ok tt)
abandon_of c (waits.Correction s) = (waiting_for c waits.Nothing, Ok tt)

-- the open request is given up
abbrev pub abandon_step : Client → Client × Result (Unit {0}) ClientFault
abandon_step c = abandon_of c c.waiting

module _ {V : Type 0} where
  abbrev pub read_request : ℕ → ℕ → ℕ → Message V
  read_request c n s = record { client = c; number = n; star = s; session = 0; body = ReadRequest; value = None }

  abbrev pub correction_request : ℕ → ℕ → ℕ → V → Message V
  correction_request c n s v = record { client = c; number = n; star = s; session = 0; body = CorrectionRequest; value = Some v }

  abbrev pub repeat_of : ℕ → ℕ → V → Waiting → Result (Message V) ClientFault
  repeat_of n c v waits.Nothing = Err Idle
  repeat_of n c v (waits.Reading s) = Ok (read_request c n s)
  repeat_of n c v (waits.Correction s) = Ok (correction_request c n s v)

  -- the open request once more, of client c with the kept value v
  abbrev pub repeated : Client → ℕ → V → Result (Message V) ClientFault
  repeated s c v = repeat_of s.number c v s.waiting

  -- an answer is taken only by a client that waits for that kind and number
  abbrev pub take_of : Client → ℕ → Waiting → Answer V → Client × Result (Answer V) ClientFault
  take_of c n waits.Nothing a = (c, Err NotAwaited)
  take_of c n (waits.Reading s) (answers.Reading v) = cond (n == c.number) (waiting_for c waits.Nothing, Ok (answers.Reading v)) (c, Err NotAwaited)
  take_of c n (waits.Reading s) (answers.Correction o i) = (c, Err NotAwaited)
  take_of c n (waits.Correction s) (answers.Reading v) = (c, Err NotAwaited)
  take_of c n (waits.Correction s) (answers.Correction o i) = cond (n == c.number) (waiting_for c waits.Nothing, Ok (answers.Correction o i)) (c, Err NotAwaited)

  abbrev pub take_step : Client → ℕ → Answer V → Client × Result (Answer V) ClientFault
  take_step c n a = take_of c n c.waiting a
