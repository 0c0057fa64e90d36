-- A new service, and a service with one part changed.
use Rattle.std.specs.Prelude.{ℕ, cond, not, List, replicate, None, Ok, Err, Option, Result}
use Rattle.copies.specs.declared.logs.Logs.{Logs}
use Rattle.copies.specs.Shape.{new_logs, shaped}
use Rattle.relay.specs.declared.rows.Relay.{Relay}
use Rattle.relay.specs.declared.rows.Snapshot.{Snapshot}
use Rattle.relay.specs.Rows.{closed}
use Rattle.leader.specs.declared.lead.Lead.{Lead}
use Rattle.client.specs.declared.client.Client.{Client}
use Rattle.client.specs.declared.client.Waiting.TheVariants.{Nothing}
use Rattle.state.specs.declared.service.Table.{Table}
use Rattle.state.specs.declared.service.Service.{Service}
use Rattle.state.specs.declared.fault.ServiceFault.{ServiceFault}
use Rattle.state.specs.declared.fault.ServiceFault.TheVariants.{Memory}
use Rattle.state.specs.Memory.{table_fits, seats_fit}

abbrev pub no_lead : Lead
no_lead = record { part = 0; last = 0 }

abbrev pub idle_client : Client
idle_client = record { number = 0; waiting = Nothing }

abbrev pub empty_table : ℕ → Table
empty_table size = record { size = size; count = 0 }

module _ {R : Type 0} where
  -- all numbers 0, no leader, all logs and the table empty, every client idle, the relay closed
  abbrev pub new_service : R → ℕ → ℕ → ℕ → ℕ → Service R
  new_service rule copies capacity size seats =
      record { rule = rule; logs = new_logs copies capacity; lead = no_lead; snapshot = None; relay = closed 0; clients = replicate 8 idle_client; seats = seats; table = empty_table size }

  -- a service is made if every size is within its bounds and the lent memory is enough
  abbrev pub new_step : R → ℕ → ℕ → ℕ → ℕ → ℕ → ℕ → ℕ → Result (Service R) ServiceFault
  new_step rule copies capacity size seats entries messages kept =
      cond (not (shaped (new_logs copies capacity) entries)) (Err Memory)
      (cond (not (table_fits (empty_table size) messages)) (Err Memory)
      (cond (not (seats_fit seats kept)) (Err Memory)
      (Ok (new_service rule copies capacity size seats))))

  abbrev pub with_logs : Service R → Logs → Service R
  with_logs s l = record { rule = s.rule; logs = l; lead = s.lead; snapshot = s.snapshot; relay = s.relay; clients = s.clients; seats = s.seats; table = s.table }

  abbrev pub with_lead : Service R → Lead → Service R
  with_lead s d = record { rule = s.rule; logs = s.logs; lead = d; snapshot = s.snapshot; relay = s.relay; clients = s.clients; seats = s.seats; table = s.table }

  abbrev pub with_snapshot : Service R → Option Snapshot → Service R
  with_snapshot s p = record { rule = s.rule; logs = s.logs; lead = s.lead; snapshot = p; relay = s.relay; clients = s.clients; seats = s.seats; table = s.table }

  abbrev pub with_relay : Service R → Relay → Service R
  with_relay s y = record { rule = s.rule; logs = s.logs; lead = s.lead; snapshot = s.snapshot; relay = y; clients = s.clients; seats = s.seats; table = s.table }

  abbrev pub with_clients : Service R → List Client → Service R
  with_clients s c = record { rule = s.rule; logs = s.logs; lead = s.lead; snapshot = s.snapshot; relay = s.relay; clients = c; seats = s.seats; table = s.table }

  abbrev pub with_table : Service R → Table → Service R
  with_table s t = record { rule = s.rule; logs = s.logs; lead = s.lead; snapshot = s.snapshot; relay = s.relay; clients = s.clients; seats = s.seats; table = t }
