-- Sessions, and the snapshot that one begins with, over logs as lists.
use Rattle.std.specs.Prelude.{ℕ, ◌+◌, Bool, cond, List, map, Some, None, Ok, Err, Option, Result, ◌==◌, nat_lt}
use Rattle.std.specs.List.{range_with_len}
use Rattle.entries.specs.declared.entry.Sought.TheVariants.{Zone}
use Rattle.entries.specs.Search.{last_of, index_of, zone_stamp}
use Rattle.copies.specs.View.{View}
use Rattle.copies.specs.Questions.{known_log, holders}
use Rattle.raft_log.specs.declared.fault.LogFault.TheVariants.{NoLeader}
use Rattle.relay.specs.declared.rows.Row.{Row}
use Rattle.relay.specs.declared.rows.Snapshot.{Snapshot}
use Rattle.relay.specs.Rows.{unsettled_row, settled_row}
use Rattle.leader.specs.declared.lead.Lead.{Lead}
use Rattle.leader.specs.Sessions.{session_of}
use Rattle.leader.specs.declared.fault.LeaderFault.{LeaderFault}
use Rattle.leader.specs.declared.fault.LeaderFault.TheVariants.{PartsUsedUp, OtherSession, Log}

-- the leader, if the session is its present one: the term, and the part that it has come to
abbrev pub present : ℕ → Lead → ℕ → Option ℕ → Result ℕ LeaderFault
present term d session None = Err OtherSession
present term d session (Some a) = cond (session == session_of term d.part) (Ok a) (Err OtherSession)

module _ {V : Type 0} where
  -- the zone is settled if its last entry in the leader's log lies within the known count
  abbrev pub zone_row : View V → ℕ → ℕ → ℕ → Row
  zone_row s a held z =
      cond (nat_lt (s.known a) (index_of (last_of (Zone z) (s.log a)))) (unsettled_row 0)
      (settled_row 0 (record { index = s.known a; holders = held; stamp = zone_stamp z (known_log s a) }))

  -- the rows of all sixteen zones
  unfoldable pub zone_rows : View V → ℕ → ℕ → List Row
  zone_rows s a held = map (zone_row s a held) (range_with_len 0 16)

  -- the snapshot of the session that leader a begins as its part p
  abbrev pub snapshot_of : (V → V → Bool) → View V → ℕ → ℕ → Snapshot
  snapshot_of alike s a p =
      record { session = session_of s.term p; leader = a; rows = zone_rows s a (holders alike s a (s.known a)) }

  abbrev pub open_by : (V → V → Bool) → View V → Lead → Option ℕ → Lead × Result Snapshot LeaderFault
  open_by alike s d None = (d, Err (Log NoLeader))
  open_by alike s d (Some a) =
      cond (d.part == 65535) (d, Err PartsUsedUp)
      (record { part = d.part + 1; last = 0 }, Ok (snapshot_of alike s a (d.part + 1)))

  -- 6 no leader; 7 parts used up; the next part begins with last number 0 and its snapshot
  abbrev pub open_move : (V → V → Bool) → View V → Lead → Lead × Result Snapshot LeaderFault
  open_move alike s d = open_by alike s d s.leader
