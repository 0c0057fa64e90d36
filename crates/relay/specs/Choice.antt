-- Which copy a reading is sent to.
use Rattle.std.specs.Prelude.{ℕ, ◌+◌, ◌-◌, ◌%◌, Option}
use Rattle.std.specs.List.{find, range_with_len}
use Rattle.std.specs.Option.{option_or}
use Rattle.votes.specs.Sets.{has}

-- the lowest of the m copies from k on that the set has
abbrev pub lowest_from : ℕ → ℕ → ℕ → Option ℕ
lowest_from set k m = find (has set) (range_with_len k m)

-- the lowest copy in the set at or above the turn, else the lowest in the set
abbrev pub chosen : ℕ → ℕ → ℕ → Option ℕ
chosen copies set turn = option_or (lowest_from set turn (copies - turn)) (lowest_from set 0 copies)

-- the turn moves past the copy that was chosen
abbrev pub turn_after : ℕ → ℕ → ℕ
turn_after copies r = (r + 1) % copies
