-- Sessions, and the snapshot that one begins with.
use Rattle.std.specs.Prelude.{ℕ, ◌+◌, ◌*◌, Bool, cond, List, map, Some, None, Ok, Err, Option, Result, ◌==◌, nat_lt}
use Rattle.std.specs.List.{range_with_len}
use Rattle.entries.specs.declared.entry.Entry.{Entry}
use Rattle.entries.specs.declared.entry.Sought.TheVariants.{Zone}
use Rattle.entries.specs.Search.{last_of, index_of, zone_stamp}
use Rattle.copies.specs.declared.logs.Logs.{Logs}
use Rattle.copies.specs.Shape.{known_of}
use Rattle.copies.specs.View.{log_of, view_of}
use Rattle.copies.specs.Questions.{known_log, holders}
use Rattle.raft_log.specs.declared.fault.LogFault.TheVariants.{NoLeader}
use Rattle.relay.specs.declared.rows.Row.{Row}
use Rattle.relay.specs.declared.rows.Snapshot.{Snapshot}
use Rattle.relay.specs.Rows.{unsettled_row, settled_row}
use Rattle.leader.specs.declared.lead.Lead.{Lead}
use Rattle.leader.specs.declared.fault.LeaderFault.{LeaderFault}
use Rattle.leader.specs.declared.fault.LeaderFault.TheVariants.{PartsUsedUp, OtherSession, Log}

-- a session is a term and a part, as one number
abbrev pub session_of : ℕ → ℕ → ℕ
session_of term part = term * 65536 + part

-- the leader, if the session is its present one
abbrev pub present : Logs → Lead → ℕ → Option ℕ → Result ℕ LeaderFault
present l d session None = Err OtherSession
present l d session (Some a) = cond (session == session_of l.term d.part) (Ok a) (Err OtherSession)

module _ {V : Type 0} where
  -- the zone is settled if its last entry in the leader's log lies within the known count
  abbrev pub zone_row : Logs → List (Entry V) → ℕ → ℕ → ℕ → Row
  zone_row l es a held z =
      cond (nat_lt (known_of l a) (index_of (last_of (Zone z) (log_of l es a)))) (unsettled_row 0)
      (settled_row 0 (record { index = known_of l a; holders = held; stamp = zone_stamp z (known_log (view_of l es) a) }))

  -- the rows of all sixteen zones
  unfoldable pub zone_rows : Logs → List (Entry V) → ℕ → ℕ → List Row
  zone_rows l es a held = map (zone_row l es a held) (range_with_len 0 16)

  -- the snapshot of the session that leader a begins as its part p
  abbrev pub snapshot_of : (V → V → Bool) → Logs → List (Entry V) → ℕ → ℕ → Snapshot
  snapshot_of alike l es a p =
      record { session = session_of l.term p; leader = a; rows = zone_rows l es a (holders alike (view_of l es) a (known_of l a)) }

  abbrev pub open_by : (V → V → Bool) → Logs → Lead → List (Entry V) → Option ℕ → Lead × Result Snapshot LeaderFault
  open_by alike l d es None = (d, Err (Log NoLeader))
  open_by alike l d es (Some a) =
      cond (d.part == 65535) (d, Err PartsUsedUp)
      (record { part = d.part + 1; last = 0 }, Ok (snapshot_of alike l es a (d.part + 1)))

  -- the next part begins with last number 0 and its snapshot
  abbrev pub open_step : (V → V → Bool) → Logs → Lead → List (Entry V) → Lead × Result Snapshot LeaderFault
  open_step alike l d es = open_by alike l d es l.leader
