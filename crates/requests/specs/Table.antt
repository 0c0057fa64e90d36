-- The steps at the relay's switch and the message table: the checks in their order, then the effect.
use Rattle.std.specs.Prelude.{ℕ, cond, not, List, length, None, Ok, Err, Result, nat_le}
use Rattle.relay.specs.declared.message.Body.TheVariants.{Installed}
use Rattle.relay.specs.declared.message.Message.{Message}
use Rattle.relay.specs.declared.rows.Snapshot.{Snapshot}
use Rattle.relay.specs.Rows.{closed, installed, installable}
use Rattle.leader.specs.Faults.{on_result}
use Rattle.state.specs.declared.service.Service.{Service}
use Rattle.state.specs.declared.fault.ServiceFault.{ServiceFault}
use Rattle.state.specs.declared.fault.ServiceFault.TheVariants.{Memory, NoSuch, Relay}
use Rattle.state.specs.Memory.{table_fits, message_at, taken, posted}
use Rattle.state.specs.Parts.{with_relay, with_table}

module _ {R : Type 0} where
  -- restart: the relay is closed, and only its highest installed session survives
  abbrev pub restart_step : Service R → Service R
  restart_step s = with_relay s (closed s.relay.session)

-- the message that tells the leader of an installed session
abbrev pub installed_message : {V : Type 0} → ℕ → Message V
installed_message session = record { client = 0; number = 0; star = 0; session = session; body = Installed; value = None }

module _ {V R : Type 0} where
  -- the relay is opened with the snapshot, unless the table is full
  abbrev pub install_with : Service R → List (Message V) → Snapshot → Service R × List (Message V) × Result ℕ ServiceFault
  install_with s ms w =
      let p = posted s.table ms (installed_message w.session) in
      on_result p.2 (λ u. (with_relay (with_table s p.0) (installed w), p.1, Ok w.session)) (λ e. (with_table s p.0, p.1, Err e))

  -- install: 1, 8, 12
  abbrev pub install_step : Service R → List (Message V) → Service R × List (Message V) × Result ℕ ServiceFault
  install_step s ms =
      cond (not (table_fits s.table (length ms))) (s, ms, Err Memory)
      (on_result (installable s.relay s.snapshot) (install_with s ms) (λ e. (s, ms, Err (Relay e))))

  -- lose: 1, 2
  abbrev pub lose_step : Service R → List (Message V) → ℕ → Service R × List (Message V) × Result (Unit {0}) ServiceFault
  lose_step s ms i =
      cond (not (table_fits s.table (length ms))) (s, ms, Err Memory)
      (cond (nat_le s.table.count i) (s, ms, Err NoSuch)
      (let p = taken s.table ms i in (with_table s p.0, p.1, Ok tt)))

  -- double: 1, 2, 12
  abbrev pub double_step : Service R → List (Message V) → ℕ → Service R × List (Message V) × Result ℕ ServiceFault
  double_step s ms i =
      cond (not (table_fits s.table (length ms))) (s, ms, Err Memory)
      (cond (nat_le s.table.count i) (s, ms, Err NoSuch)
      (let p = posted s.table ms (message_at ms i) in
      (with_table s p.0, p.1, on_result p.2 (λ u. Ok p.0.count) Err)))
