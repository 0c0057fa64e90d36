-- What the numbers of the logs must be for a step to be carried out.
use Rattle.std.specs.Prelude.{◌≡◌, ℕ, ◌*◌, ◌<◌, ◌≤◌, Bool, true, ◌&&◌, length, replicate, Some, None, Option, nat_le, nat_lt, slice_index_or}
use Rattle.copies.specs.declared.logs.Counts.{Counts}
use Rattle.copies.specs.declared.logs.Logs.{Logs}
use Rattle.copies.specs.Below.{all_below}

-- of a log that has nothing
abbrev pub no_counts : Counts
no_counts = record { length = 0; known = 0 }

-- how many entries copy k's log has
abbrev pub length_of : Logs → ℕ → ℕ
length_of l k = (slice_index_or l.counts k no_counts).length

-- how many entries copy k knows to be committed
abbrev pub known_of : Logs → ℕ → ℕ
known_of l k = (slice_index_or l.counts k no_counts).known

-- no leader, and all logs empty
abbrev pub new_logs : ℕ → ℕ → Logs
new_logs n c = record { copies = n; capacity = c; counts = replicate 7 no_counts; term = 0; leader = None }

-- copy k knows at most its log, and its log does not pass the capacity
abbrev pub count_fits : Logs → ℕ → Bool
count_fits l k = nat_le (length_of l k) l.capacity && nat_le (known_of l k) (length_of l k)

-- the leader, if there is one, is one of n copies
abbrev pub led_within : Option ℕ → ℕ → Bool
led_within None n = true
led_within (Some a) n = nat_lt a n

-- the sizes are within bounds, the counts fit them, and m entries are enough for all logs
abbrev pub shaped : Logs → ℕ → Bool
shaped l m =
    (nat_le 3 l.copies && nat_le l.copies 7) && ((nat_le 1 l.capacity && nat_le l.capacity 4096) && (nat_le (l.copies * l.capacity) m && (led_within l.leader l.copies && all_below (count_fits l) l.copies)))

-- the array has seven places, as every array of a program has its length
pub record SevenPlaces (l : Logs) : Type 0 where
  pub counts_seven : length l.counts ≡ 7

-- the same, as the functions of this crate take it
pub record Shaped (l : Logs) (m : ℕ) : Type 0 where
  pub some : 3 ≤ l.copies
  pub few : l.copies ≤ 7
  pub one : 1 ≤ l.capacity
  pub small : l.capacity ≤ 4096
  pub room : l.copies * l.capacity ≤ m
  pub led : (a : ℕ) → l.leader ≡ Some a → a < l.copies
  pub inside : (k : ℕ) → k < l.copies → length_of l k ≤ l.capacity
  pub places : SevenPlaces l
  pub knows : (k : ℕ) → k < l.copies → known_of l k ≤ length_of l k
