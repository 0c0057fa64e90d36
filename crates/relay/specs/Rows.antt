-- The rows of the zones, the snapshot that a session begins with, and the relay.
use Rattle.std.specs.Prelude.{ℕ, Bool, cond, ◌&&◌, Some, None, Ok, Err, Option, Result, ◌==◌, nat_lt}
use Rattle.entries.specs.declared.entry.Stamp.{Stamp}
use Rattle.entries.specs.Search.{no_stamp}
use Rattle.relay.specs.declared.rows.Settlement.{Settlement}
use Rattle.relay.specs.declared.rows.Row.{Row}
use Rattle.relay.specs.declared.rows.Snapshot.{Snapshot}
use Rattle.relay.specs.declared.rows.Relay.{Relay}
use Rattle.relay.specs.declared.fault.RelayFault.{RelayFault}
use Rattle.relay.specs.declared.fault.RelayFault.TheVariants.{NothingToInstall}

-- an unsettled row has its latest number and nothing else
abbrev pub unsettled_row : ℕ → Row
unsettled_row n = record { latest = n; settled = None }

abbrev pub settled_row : ℕ → Settlement → Row
settled_row n t = record { latest = n; settled = Some t }

-- the index alone, as in a reply that settles nothing
abbrev pub index_alone : ℕ → Settlement
index_alone i = record { index = i; holders = 0; stamp = no_stamp }

-- the two stamps are one
abbrev pub stamp_alike : Stamp → Stamp → Bool
stamp_alike a b = a.session == b.session && a.number == b.number

-- a closed relay: only the highest installed session is known
abbrev pub closed : ℕ → Relay
closed h = record { session = h; opened = None }

-- the relay as a snapshot opens it
abbrev pub installed : Snapshot → Relay
installed p = record { session = p.session; opened = Some (record { sequence = 0; turn = 0; rows = p.rows }) }

-- the snapshot, if it is above the highest installed session
abbrev pub installable : Relay → Option Snapshot → Result Snapshot RelayFault
installable s None = Err NothingToInstall
installable s (Some p) = cond (nat_lt s.session p.session) (Ok p) (Err NothingToInstall)
