-- What each message does at the relay: the relay after it, and the message that is sent, or why it is dropped.
use Rattle.std.specs.Prelude.{ℕ, ◌+◌, Bool, true, false, cond, not, ◌&&◌, Some, None, Ok, Err, Option, Result, ◌==◌, slice_index_or, slice_set}
use Rattle.entries.specs.declared.entry.Stamp.{Stamp}
use Rattle.entries.specs.Search.{zone_of}
use Rattle.relay.specs.declared.message.Outcome.{Outcome}
use Rattle.relay.specs.declared.message.Outcome.TheVariants.{Fresh, KnownAlready, Unlawful}
use Rattle.relay.specs.declared.message.Body.{Body}
use Rattle.relay.specs.declared.message.Body.TheVariants.{CopyRead, LeaderRead, Correction, ReadAnswer, CorrectionAnswer}
use Rattle.relay.specs.declared.message.Message.{Message}
use Rattle.relay.specs.declared.rows.Settlement.{Settlement}
use Rattle.relay.specs.declared.rows.Row.{Row}
use Rattle.relay.specs.declared.rows.Opened.{Opened}
use Rattle.relay.specs.declared.rows.Relay.{Relay}
use Rattle.relay.specs.declared.fault.RelayFault.{RelayFault}
use Rattle.relay.specs.declared.fault.RelayFault.TheVariants.{Closed, OtherSession, NumbersUsedUp}
use Rattle.relay.specs.Choice.{chosen, turn_after}
use Rattle.relay.specs.Rows.{unsettled_row, settled_row, stamp_alike}

-- the row of a star's zone
abbrev pub row_of : Opened → ℕ → Row
row_of o star = slice_index_or o.rows (zone_of star) (unsettled_row 0)

-- the open part with another row for the star's zone, all other rows as they are
abbrev pub with_row : Opened → ℕ → Row → Opened
with_row o star r = record { sequence = o.sequence; turn = o.turn; rows = slice_set o.rows (zone_of star) r }

abbrev pub with_turn : Opened → ℕ → Opened
with_turn o t = record { sequence = o.sequence; turn = t; rows = o.rows }

abbrev pub with_sequence : Opened → ℕ → Opened
with_sequence o n = record { sequence = n; turn = o.turn; rows = o.rows }

-- the open relay with another open part
abbrev pub with_opened : Relay → Opened → Relay
with_opened s o = record { session = s.session; opened = Some o }

-- a reply is taken only in its own session
abbrev pub check_session : ℕ → ℕ → Result (Unit {0}) RelayFault
check_session own session = cond (not (session == own)) (Err OtherSession) (Ok tt)

-- replies are dropped by a closed relay, and if they are of another session
abbrev pub admitted : ℕ → ℕ → Option Opened → Result Opened RelayFault
admitted own session None = Err Closed
admitted own session (Some o) = cond (not (session == own)) (Err OtherSession) (Ok o)

abbrev pub is_fresh : Outcome → Bool
is_fresh Fresh = true
is_fresh KnownAlready = false
is_fresh Unlawful = false

-- the row is settled with that stamp
abbrev pub settled_with : Option Settlement → Stamp → Bool
settled_with None w = false
settled_with (Some t) w = stamp_alike w t.stamp

-- f of what is admitted, g of why it is not
abbrev pub on_admitted : {X : Type 0} → Result Opened RelayFault → (Opened → X) → (RelayFault → X) → X
on_admitted (Ok o) f g = f o
on_admitted (Err e) f g = g e

module _ {V : Type 0} where
  -- the message goes on for the same client, number, star and value
  abbrev pub sent : Message V → ℕ → Body → Message V
  sent m session b = record { client = m.client; number = m.number; star = m.star; session = session; body = b; value = m.value }

  -- the leader is asked for the client's reading
  abbrev pub asked : Relay → Message V → Message V
  asked s m = record { client = m.client; number = m.number; star = m.star; session = s.session; body = LeaderRead; value = None }

  -- a copy read of the index to the copy, and the turn moves past it; without a copy the leader is asked
  abbrev pub read_at : ℕ → Relay → Opened → Message V → ℕ → Option ℕ → Relay × Result (Message V) RelayFault
  read_at copies s o m index None = (s, Ok (sent m s.session LeaderRead))
  read_at copies s o m index (Some r) = (with_opened s (with_turn o (turn_after copies r)), Ok (sent m s.session (CopyRead r index)))

  -- a reading of an unsettled zone goes to the leader, of a settled one to a copy
  abbrev pub read_settled : ℕ → Relay → Opened → Message V → Option Settlement → Relay × Result (Message V) RelayFault
  read_settled copies s o m None = (s, Ok (sent m s.session LeaderRead))
  read_settled copies s o m (Some t) = read_at copies s o m t.index (chosen copies t.holders o.turn)

  abbrev pub read_opened : ℕ → Relay → Message V → Option Opened → Relay × Result (Message V) RelayFault
  read_opened copies s m None = (s, Err Closed)
  read_opened copies s m (Some o) = read_settled copies s o m (row_of o m.star).settled

  abbrev pub read_request : ℕ → Relay → Message V → Relay × Result (Message V) RelayFault
  read_request copies s m = read_opened copies s m s.opened

  abbrev pub correction_opened : Relay → Message V → Option Opened → Relay × Result (Message V) RelayFault
  correction_opened s m None = (s, Err Closed)
  correction_opened s m (Some o) =
      let n = o.sequence + 1 in
      cond (o.sequence == 65535) (s, Err NumbersUsedUp)
      (with_opened s (with_row (with_sequence o n) m.star (unsettled_row n)), Ok (sent m s.session (Correction n)))

  abbrev pub correction_request : Relay → Message V → Relay × Result (Message V) RelayFault
  correction_request s m = correction_opened s m s.opened

  abbrev pub leader_reply : Relay → Message V → Result (Message V) RelayFault
  leader_reply s m = on_admitted (admitted s.session m.session s.opened) (λ o. Ok (sent m 0 ReadAnswer)) Err

  abbrev pub copy_reply : Relay → Message V → Stamp → Result (Message V) RelayFault
  copy_reply s m stamp =
      on_admitted (admitted s.session m.session s.opened)
      (λ o. cond (settled_with (row_of o m.star).settled stamp) (Ok (sent m 0 ReadAnswer)) (Ok (asked s m)))
      Err

  abbrev pub correction_reply : Relay → Message V → ℕ → Outcome → Settlement → Relay × Result (Message V) RelayFault
  correction_reply s m sequence o t =
      on_admitted (admitted s.session m.session s.opened)
      (λ p. (cond (is_fresh o && sequence == (row_of p m.star).latest) (with_opened s (with_row p m.star (settled_row (row_of p m.star).latest t))) s, Ok (sent m 0 (CorrectionAnswer o t.index))))
      (λ e. (s, Err e))
