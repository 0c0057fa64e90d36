-- The steps of a client: the checks in their order, then the effect.
use Rattle.std.specs.Prelude.{ℕ, Bool, cond, not, ◌||◌, List, length, Ok, Err, Result, ◌==◌, nat_lt, slice_index_or, slice_set}
use Rattle.relay.specs.declared.message.Message.{Message}
use Rattle.leader.specs.Faults.{lifted, on_result}
use Rattle.client.specs.declared.client.Client.{Client}
use Rattle.client.specs.declared.client.Waiting.{Waiting}
use Rattle.client.specs.declared.client.Waiting.TheVariants.{Reading, Correction}
use Rattle.client.specs.Client as client
use Rattle.state.specs.declared.service.Service.{Service}
use Rattle.state.specs.declared.fault.ServiceFault.{ServiceFault}
use Rattle.state.specs.declared.fault.ServiceFault.TheVariants.{Memory, NoSuch, Malformed, Client as AtClient}
use Rattle.state.specs.Memory.{table_fits, seats_fit, unseated, posted}
use Rattle.state.specs.Parts.{idle_client, with_clients, with_table}

-- stars are 1 to 65,535
abbrev pub no_star : ℕ → Bool
no_star star = star == 0 || nat_lt 65535 star

module _ {R : Type 0} where
  abbrev pub client_at : Service R → ℕ → Client
  client_at s c = slice_index_or s.clients c idle_client

  -- the number of the client's next request: 2, 9, 11
  abbrev pub begin_of : Service R → ℕ → ℕ → Result ℕ ServiceFault
  begin_of s c star = cond (unseated s.seats c || no_star star) (Err NoSuch) (lifted AtClient (client.next_number (client_at s c)))

  -- abandon: 2, 10
  abbrev pub abandon_step : Service R → ℕ → Service R × Result (Unit {0}) ServiceFault
  abandon_step s c =
      cond (unseated s.seats c) (s, Err NoSuch)
      (let p = client.abandon_step (client_at s c) in (with_clients s (slice_set s.clients c p.0), lifted AtClient p.1))

  -- the client with a request of the number open
  abbrev pub asking : Service R → ℕ → ℕ → Waiting → Service R
  asking s c n w = with_clients s (slice_set s.clients c (record { number = n; waiting = w }))

module _ {V R : Type 0} where
  -- read: 1, 2, 9, 11, 12
  abbrev pub read_step : Service R → List (Message V) → ℕ → ℕ → Service R × List (Message V) × Result ℕ ServiceFault
  read_step s ms c star =
      cond (not (table_fits s.table (length ms))) (s, ms, Err Memory)
      (on_result (begin_of s c star)
      (λ n.
      let p = posted s.table ms (client.read_request c n star) in
      on_result p.2 (λ u. (asking (with_table s p.0) c n (Reading star), p.1, Ok n)) (λ e. (with_table s p.0, p.1, Err e)))
      (λ e. (s, ms, Err e)))

  -- the number of the client's correction: 1, 19, 2, 9, 11
  abbrev pub begin_correction : (V → Bool) → Service R → List V → ℕ → ℕ → V → Result ℕ ServiceFault
  begin_correction well_formed s ks c star v =
      cond (not (seats_fit s.seats (length ks))) (Err Memory)
      (cond (not (well_formed v)) (Err Malformed)
      (begin_of s c star))

  -- correct: 1, 19, 2, 9, 11, 12; the value is kept
  abbrev pub correct_step : (V → Bool) → Service R → List (Message V) → List V → ℕ → ℕ → V → Service R × List (Message V) × List V × Result ℕ ServiceFault
  correct_step well_formed s ms ks c star v =
      cond (not (table_fits s.table (length ms))) (s, ms, ks, Err Memory)
      (on_result (begin_correction well_formed s ks c star v)
      (λ n.
      let p = posted s.table ms (client.correction_request c n star v) in
      on_result p.2 (λ u. (asking (with_table s p.0) c n (Correction star), p.1, slice_set ks c v, Ok n)) (λ e. (with_table s p.0, p.1, ks, Err e)))
      (λ e. (s, ms, ks, Err e)))

  -- the client's open request: 1, 2, 10
  abbrev pub open_request : V → Service R → List V → ℕ → Result (Message V) ServiceFault
  open_request blank s ks c =
      cond (not (seats_fit s.seats (length ks))) (Err Memory)
      (cond (unseated s.seats c) (Err NoSuch)
      (lifted AtClient (client.repeated (client_at s c) c (slice_index_or ks c blank))))

  -- again: 1, 2, 10, 12
  abbrev pub again_step : V → Service R → List (Message V) → List V → ℕ → Service R × List (Message V) × Result ℕ ServiceFault
  again_step blank s ms ks c =
      cond (not (table_fits s.table (length ms))) (s, ms, Err Memory)
      (on_result (open_request blank s ks c)
      (λ m. let p = posted s.table ms m in (with_table s p.0, p.1, on_result p.2 (λ u. Ok m.number) Err))
      (λ e. (s, ms, Err e)))
