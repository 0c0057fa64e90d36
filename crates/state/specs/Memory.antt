-- What the service's numbers and the lent memory must be for a step to be carried out, and the message table.
use Rattle.std.specs.Prelude.{ℕ, ◌+◌, ◌-◌, ◌≤◌, Bool, cond, ◌&&◌, ◌||◌, List, Some, None, Ok, Err, Option, Result, nat_le, slice_index_or, slice_set}
use Rattle.relay.specs.declared.message.Body.TheVariants.{ReadRequest}
use Rattle.relay.specs.declared.message.Message.{Message}
use Rattle.state.specs.declared.service.Table.{Table}
use Rattle.state.specs.declared.fault.ServiceFault.{ServiceFault}
use Rattle.state.specs.declared.fault.ServiceFault.TheVariants.{Memory, NoSuch, TableFull}

-- the table takes 1 to 256 messages, holds no more, and m places are enough for it
abbrev pub table_fits : Table → ℕ → Bool
table_fits t m = nat_le 1 t.size && nat_le t.size 256 && nat_le t.count t.size && nat_le t.size m

-- the same, as the functions of this crate take it
pub record TableShaped (t : Table) (m : ℕ) : Type 0 where
  pub small : t.size ≤ 256
  pub within : t.count ≤ t.size
  pub room : t.size ≤ m

-- there are 1 to 8 clients, and m kept values are enough for them
abbrev pub seats_fit : ℕ → ℕ → Bool
seats_fit n m = nat_le 1 n && nat_le n 8 && nat_le n m

-- a step is refused where the lent memory is not enough
abbrev pub enough : Bool → Result (Unit {0}) ServiceFault
enough b = cond b (Ok tt) (Err Memory)

-- there is no such client
abbrev pub unseated : ℕ → ℕ → Bool
unseated n c = nat_le n c || nat_le 8 c

-- the client's seat among n that take part
abbrev pub seat_of : ℕ → ℕ → Option ℕ
seat_of n c = cond (unseated n c) None (Some c)

-- the place, if a message is at it
abbrev pub occupied : Table → ℕ → Result ℕ ServiceFault
occupied t i = cond (nat_le t.count i) (Err NoSuch) (Ok i)

abbrev pub with_count : Table → ℕ → Table
with_count t n = record { size = t.size; count = n }

module _ {V : Type 0} where
  -- what stands for a message where there is none
  abbrev pub no_message : Message V
  no_message = record { client = 0; number = 0; star = 0; session = 0; body = ReadRequest; value = None }

  -- the message at the place, counted from 0
  abbrev pub message_at : List (Message V) → ℕ → Message V
  message_at ms i = slice_index_or ms i no_message

  -- the message at the place is taken, and the last moves into its place
  abbrev pub taken : Table → List (Message V) → ℕ → Table × List (Message V) × Message V
  taken t ms i = (with_count t (t.count - 1), slice_set ms i (message_at ms (t.count - 1)), message_at ms i)

  -- a new message goes to the end
  abbrev pub put_at : Table → List (Message V) → Message V → Table × List (Message V)
  put_at t ms m = (with_count t (t.count + 1), slice_set ms t.count m)

  -- a new message goes to the end, unless the table is full
  abbrev pub posted : Table → List (Message V) → Message V → Table × List (Message V) × Result (Unit {0}) ServiceFault
  posted t ms m = cond (nat_le t.size t.count) (t, ms, Err TableFull) ((put_at t ms m).0, (put_at t ms m).1, Ok tt)
