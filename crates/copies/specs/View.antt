-- The copies' logs as lists, apart from the memory that they lie in.
use Rattle.std.specs.Prelude.{ℕ, ◌*◌, List, take, drop, Option}
use Rattle.entries.specs.declared.entry.Entry.{Entry}
use Rattle.copies.specs.declared.logs.Logs.{Logs}
use Rattle.copies.specs.Shape.{length_of, known_of}

-- copy r's log in the lent slice
abbrev pub log_of : {V : Type 0} → Logs → List (Entry V) → ℕ → List (Entry V)
log_of l es r = take (length_of l r) (drop (r * l.capacity) es)

-- what the log's rules speak of: how many copies there are and what a log takes, each copy's log and known count, the
-- present term and leader
pub record View (V : Type 0) : Type 0 where
  pub copies : ℕ
  pub capacity : ℕ
  pub log : ℕ → List (Entry V)
  pub known : ℕ → ℕ
  pub term : ℕ
  pub leader : Option ℕ

-- what the struct and the lent slice stand for; entries beyond a log's length do not show
abbrev pub view_of : {V : Type 0} → Logs → List (Entry V) → View V
view_of l es = record { copies = l.copies; capacity = l.capacity; log = log_of l es; known = known_of l; term = l.term; leader = l.leader }
