-- Elect, copy and commit as the leader's part carries them out: the log's calls, its faults passed up.
use Rattle.std.specs.Prelude.{ℕ, Bool, List, Ok, Err, Result}
use Rattle.entries.specs.declared.entry.Entry.{Entry}
use Rattle.copies.specs.declared.logs.Logs.{Logs}
use Rattle.raft_log.specs.Calls as calls
use Rattle.leader.specs.declared.lead.Lead.{Lead}
use Rattle.leader.specs.declared.fault.LeaderFault.{LeaderFault}
use Rattle.leader.specs.declared.fault.LeaderFault.TheVariants.{Log}
use Rattle.leader.specs.Faults.{lifted, on_result}

module _ {V : Type 0} where
  -- a done election begins part 0; the last sequence number stays
  abbrev pub elect_step : (ℕ → Bool) → Logs → Lead → List (Entry V) → ℕ → ℕ → Logs × Lead × Result ℕ LeaderFault
  elect_step elects l d es candidate voters =
      let p = calls.elect_step elects l es candidate voters in
      on_result p.1 (λ t. (p.0, record { part = 0; last = d.last }, Ok t)) (λ e. (p.0, d, Err (Log e)))

  abbrev pub copy_step : V → Logs → List (Entry V) → ℕ → Logs × List (Entry V) × Result ℕ LeaderFault
  copy_step blank l es r = let p = calls.copy_step blank l es r in (p.0, p.1, lifted Log p.2)

  abbrev pub commit_step : (V → V → Bool) → (ℕ → Bool) → Logs → List (Entry V) → ℕ → Logs × Result ℕ LeaderFault
  commit_step alike commits l es n = let p = calls.commit_step alike commits l es n in (p.0, lifted Log p.1)
