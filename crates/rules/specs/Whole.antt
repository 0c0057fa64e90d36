-- The whole service as its rules speak of it: logs as lists, the messages under way in their order, each client with its open
-- request. One definition links it to the struct and the lent memory.
use Rattle.std.specs.Prelude.{ℕ, ◌-◌, Bool, List, [], ◌∷◌, ◌++◌, length, take, Some, None, Option, nat_le, slice_index_or, slice_set}
use Rattle.entries.specs.declared.entry.Entry.{Entry}
use Rattle.copies.specs.View.{View, view_of}
use Rattle.raft_log.specs.Moves.{put}
use Rattle.relay.specs.declared.message.Message.{Message}
use Rattle.relay.specs.declared.rows.Relay.{Relay}
use Rattle.relay.specs.declared.rows.Snapshot.{Snapshot}
use Rattle.relay.specs.Rows.{closed}
use Rattle.leader.specs.declared.lead.Lead.{Lead}
use Rattle.client.specs.declared.client.Client.{Client}
use Rattle.client.specs.declared.client.Waiting.{Waiting}
use Rattle.client.specs.declared.client.Waiting.TheVariants as waits
use Rattle.state.specs.declared.service.Service.{Service}
use Rattle.state.specs.Memory.{message_at}
use Rattle.state.specs.Parts.{no_lead, idle_client}

-- a client's open request
pub data Open (V : Type 0) : Type 0 where
  idle : Open V
  reading : (star : ℕ) → Open V
  correcting : (star : ℕ) (value : V) → Open V

-- a client: the number of its last request, and what of it is open
pub record Asker (V : Type 0) : Type 0 where
  pub number : ℕ
  pub request : Open V

pub record Whole (V : Type 0) : Type 0 where
  -- the copies' logs, known counts, term and leader
  pub logs : View V
  -- the leader's part: the session's part and the last sequence number
  pub lead : Lead
  pub snapshot : Option Snapshot
  pub relay : Relay
  pub clients : ℕ → Asker V
  -- how many clients there are, and how many messages the table takes
  pub seats : ℕ
  pub size : ℕ
  -- the messages under way, in the order of their places
  pub messages : List (Message V)

module _ {V : Type 0} where
  abbrev pub open_of : Waiting → V → Open V
  open_of waits.Nothing v = idle
  open_of (waits.Reading s) v = reading s
  open_of (waits.Correction s) v = correcting s v

  -- a client and its kept value, which shows only while a correction is open
  abbrev pub asker_of : Client → V → Asker V
  asker_of c v = record { number = c.number; request = open_of c.waiting v }

  -- what the struct and the lent memory stand for; unused entries, places and kept values do not show
  abbrev pub whole_of : {R : Type 0} → V → Service R → List (Entry V) → List (Message V) → List V → Whole V
  whole_of blank s es ms ks = record {
    logs = view_of s.logs es;
    lead = s.lead;
    snapshot = s.snapshot;
    relay = s.relay;
    clients = λ c. asker_of (slice_index_or s.clients c idle_client) (slice_index_or ks c blank);
    seats = s.seats;
    size = s.table.size;
    messages = take s.table.count ms;
  }

  -- no leader, and all logs empty
  abbrev pub empty_logs : ℕ → ℕ → View V
  empty_logs copies capacity = record { copies = copies; capacity = capacity; log = λ r. []; known = λ r. 0; term = 0; leader = None }

  -- a new service: numbers 0, no leader, all logs and the table empty, every client idle, the relay closed
  abbrev pub new_whole : ℕ → ℕ → ℕ → ℕ → Whole V
  new_whole copies capacity size seats = record {
    logs = empty_logs copies capacity;
    lead = no_lead;
    snapshot = None;
    relay = closed 0;
    clients = λ c. record { number = 0; request = idle };
    seats = seats;
    size = size;
    messages = [];
  }

  abbrev pub with_logs : Whole V → View V → Whole V
  with_logs w l = record { logs = l; lead = w.lead; snapshot = w.snapshot; relay = w.relay; clients = w.clients; seats = w.seats; size = w.size; messages = w.messages }

  abbrev pub with_lead : Whole V → Lead → Whole V
  with_lead w d = record { logs = w.logs; lead = d; snapshot = w.snapshot; relay = w.relay; clients = w.clients; seats = w.seats; size = w.size; messages = w.messages }

  abbrev pub with_snapshot : Whole V → Snapshot → Whole V
  with_snapshot w p = record { logs = w.logs; lead = w.lead; snapshot = Some p; relay = w.relay; clients = w.clients; seats = w.seats; size = w.size; messages = w.messages }

  abbrev pub with_relay : Whole V → Relay → Whole V
  with_relay w y = record { logs = w.logs; lead = w.lead; snapshot = w.snapshot; relay = y; clients = w.clients; seats = w.seats; size = w.size; messages = w.messages }

  abbrev pub with_client : Whole V → ℕ → Asker V → Whole V
  with_client w c a = record { logs = w.logs; lead = w.lead; snapshot = w.snapshot; relay = w.relay; clients = put w.clients c a; seats = w.seats; size = w.size; messages = w.messages }

  abbrev pub with_messages : Whole V → List (Message V) → Whole V
  with_messages w ms = record { logs = w.logs; lead = w.lead; snapshot = w.snapshot; relay = w.relay; clients = w.clients; seats = w.seats; size = w.size; messages = ms }

  -- the table is full
  abbrev pub full : Whole V → Bool
  full w = nat_le w.size (length w.messages)

  -- a new message goes to the end
  abbrev pub sending : Whole V → Message V → Whole V
  sending w m = with_messages w (w.messages ++ m ∷ [])

  -- the messages without the one at place i: the last moves into its place
  abbrev pub without : List (Message V) → ℕ → List (Message V)
  without ms i = slice_set (take (length ms - 1) ms) i (message_at ms (length ms - 1))
