-- The steps at the copies and the leader: the checks in their order, then the effect.
use Rattle.std.specs.Prelude.{ℕ, ◌/◌, ◌^◌, Bool, cond, not, ◌||◌, List, length, Some, Ok, Err, Result, nat_le, nat_lt}
use Rattle.entries.specs.declared.entry.Entry.{Entry}
use Rattle.copies.specs.Shape.{shaped}
use Rattle.relay.specs.declared.message.Message.{Message}
use Rattle.leader.specs.Faults.{lifted, on_result}
use Rattle.leader.specs.Steps as leader
use Rattle.leader.specs.Sessions as sessions
use Rattle.leader.specs.Corrections as corrections
use Rattle.state.specs.declared.service.Service.{Service}
use Rattle.state.specs.declared.fault.ServiceFault.{ServiceFault}
use Rattle.state.specs.declared.fault.ServiceFault.TheVariants.{Memory, NoSuch, Leader}
use Rattle.state.specs.Memory.{table_fits, posted}
use Rattle.state.specs.Parts.{with_logs, with_lead, with_snapshot, with_table}

module _ {V R : Type 0} where
  -- elect: 1, 2, then the log's refusals
  abbrev pub elect_step : (R → ℕ → Bool) → Service R → List (Entry V) → ℕ → ℕ → Service R × Result ℕ ServiceFault
  elect_step elects s es copy voters =
      cond (not (shaped s.logs (length es))) (s, Err Memory)
      (cond (nat_le s.logs.copies copy || nat_lt 0 (voters / 2 ^ s.logs.copies)) (s, Err NoSuch)
      (let p = leader.elect_step (elects s.rule) s.logs s.lead es copy voters in
      (with_lead (with_logs s p.0) p.1, lifted Leader p.2)))

  -- copy: 1, 2, then the log's refusals
  abbrev pub copy_step : V → Service R → List (Entry V) → ℕ → Service R × List (Entry V) × Result ℕ ServiceFault
  copy_step blank s es r =
      cond (not (shaped s.logs (length es))) (s, es, Err Memory)
      (cond (nat_le s.logs.copies r) (s, es, Err NoSuch)
      (let p = leader.copy_step blank s.logs es r in (with_logs s p.0, p.1, lifted Leader p.2)))

  -- commit: 1, then the log's refusals
  abbrev pub commit_step : (V → V → Bool) → (R → ℕ → Bool) → Service R → List (Entry V) → ℕ → Service R × Result ℕ ServiceFault
  commit_step alike commits s es n =
      cond (not (shaped s.logs (length es))) (s, Err Memory)
      (let p = leader.commit_step alike (commits s.rule) s.logs es n in (with_logs s p.0, lifted Leader p.1))

  -- open: 1, 6, 7; the snapshot is written over the last
  abbrev pub open_step : (V → V → Bool) → Service R → List (Entry V) → Service R × Result ℕ ServiceFault
  open_step alike s es =
      cond (not (shaped s.logs (length es))) (s, Err Memory)
      (let p = sessions.open_step alike s.logs s.lead es in
      on_result p.1 (λ w. (with_snapshot (with_lead s p.0) (Some w), Ok w.session)) (λ e. (with_lead s p.0, Err (Leader e))))

  -- the fresh reply for entry i: 1, 6, 14, 17
  unfoldable pub fresh_reply : V → (V → V → Bool) → Service R → List (Entry V) → ℕ → Result (Message V) ServiceFault
  fresh_reply blank alike s es i =
      cond (not (shaped s.logs (length es))) (Err Memory)
      (lifted Leader (corrections.reply_step blank alike s.logs s.lead es i))

  -- reply: 1, 6, 14, 17, 12
  abbrev pub reply_step : V → (V → V → Bool) → Service R → List (Entry V) → List (Message V) → ℕ → Service R × List (Message V) × Result ℕ ServiceFault
  reply_step blank alike s es ms i =
      cond (not (table_fits s.table (length ms))) (s, ms, Err Memory)
      (on_result (fresh_reply blank alike s es i)
      (λ m. let p = posted s.table ms m in (with_table s p.0, p.1, on_result p.2 (λ u. Ok i) Err))
      (λ e. (s, ms, Err e)))
