-- A small log with three copies, and what is asked of it.
use Rattle.std.specs.Prelude.{◌≡◌, ℕ, true, false, cond, List, [], ◌∷◌, take, pos, Some, None, ◌==◌}
use Rattle.kinds.specs.declared.place.Place.{Place}
use Rattle.kinds.specs.Place.{same_place, blank_place}
use Rattle.entries.specs.declared.entry.Stamp.{Stamp}
use Rattle.entries.specs.declared.entry.Entry.{Entry}
use Rattle.entries.specs.declared.entry.Sought.TheVariants.{Request}
use Rattle.entries.specs.Search.{no_stamp, last_of, index_of, last_value, zone_stamp}
use Rattle.entries.specs.Fronts.{holds_first, newer, gap}
use Rattle.copies.specs.View.{View}
use Rattle.copies.specs.Questions.{committed, ready, holders, holds_committed}
use Rattle.raft_log.specs.Moves.{copied}

-- the place of right ascension n
abbrev pub at : ℕ → Place
at n = record { ascension = n; declination = pos 0; motion_ra = pos 0; motion_dec = pos 0; year = 2000 }

-- the stamp of session 1.1 and the number
abbrev pub stamp : ℕ → Stamp
stamp n = record { session = 65537; number = n }

-- the opening entry of term 1; three corrections, of stars 4,097, 4,098 and again 4,097; an entry of term 2
abbrev pub opening : Entry Place
opening = record { term = 1; stamp = stamp 0; client = 0; number = 0; star = 0; value = blank_place }

abbrev pub first : Entry Place
first = record { term = 1; stamp = stamp 1; client = 1; number = 1; star = 4097; value = at 10 }

abbrev pub second : Entry Place
second = record { term = 1; stamp = stamp 2; client = 2; number = 1; star = 4098; value = at 20 }

abbrev pub third : Entry Place
third = record { term = 1; stamp = stamp 3; client = 1; number = 2; star = 4097; value = at 30 }

abbrev pub later : Entry Place
later = record { term = 2; stamp = record { session = 131073; number = 0 }; client = 0; number = 0; star = 0; value = blank_place }

abbrev pub full : List (Entry Place)
full = opening ∷ first ∷ second ∷ third ∷ []

abbrev pub short : List (Entry Place)
short = opening ∷ first ∷ []

abbrev pub other : List (Entry Place)
other = opening ∷ later ∷ []

-- copies 0, 1 and 2 have the full, the short and the other log; 0 and 1 know two entries, 2 knows one; copy 0 leads term 1
abbrev pub copies : View Place
copies = record {
  copies = 3;
  capacity = 8;
  log = λ r. cond (r == 0) full (cond (r == 1) short other);
  known = λ r. cond (r == 2) 1 2;
  term = 1;
  leader = Some 0;
}

-- the shorter log holds two entries of the full one and not three; the log with a later term is newer
abbrev pub Holding : Type 0
Holding =
    (holds_first same_place 2 full short ≡ true) × (holds_first same_place 3 full short ≡ false) × (holds_first same_place 2 full other ≡ false)
    × (newer other full ≡ true) × (newer full short ≡ true) × (newer full full ≡ false)
    × (holders same_place copies 0 2 ≡ 3) × (holders same_place copies 0 0 ≡ 7)

-- the committed log is what copy 0 knows, and copy 2 does not hold it
abbrev pub Committing : Type 0
Committing =
    (committed copies ≡ short)
    × (holds_committed same_place copies 1 2 ≡ true) × (holds_committed same_place copies 2 2 ≡ false) × (holds_committed same_place copies 2 1 ≡ true)
    × (ready copies 0 ≡ true) × (ready copies 2 ≡ true)

-- a star's last value and a zone's last stamp within a count; the opening entry counts for no zone
abbrev pub Searching : Type 0
Searching =
    (last_value 4097 (take 2 full) ≡ Some (at 10)) × (last_value 4097 (take 4 full) ≡ Some (at 30)) × (last_value 4097 (take 1 full) ≡ None)
    × (zone_stamp 1 (take 3 full) ≡ stamp 2) × (zone_stamp 0 full ≡ no_stamp)
    × (index_of (last_of (Request 2 1) full) ≡ 3) × (index_of (last_of (Request 2 2) full) ≡ 0)

-- where a log parts from the full one, and what a copy of one entry leaves
abbrev pub Copying : Type 0
Copying =
    (gap full short ≡ 2) × (gap full other ≡ 1) × (gap full full ≡ 4)
    × (copied full short ≡ opening ∷ first ∷ second ∷ []) × (copied full other ≡ opening ∷ first ∷ [])

abbrev pub LogExamples : Type 0
LogExamples = Holding × Committing × Searching × Copying
