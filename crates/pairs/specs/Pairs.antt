-- Small cases of the rules.
use Rattle.std.specs.Prelude.{◌≡◌, ℕ, true, false, [], ◌∷◌, map, pos, Some}
use Rattle.kinds.specs.declared.place.Place.{Place}
use Rattle.kinds.specs.Place.{lawful_place, blank_place}
use Rattle.votes.specs.Rules.{majority, every_copy, any_copy}
use Rattle.entries.specs.declared.entry.Entry.{Entry}
use Rattle.entries.specs.Search.{no_stamp, zone_of}
use Rattle.entries.specs.Fronts.{newer}
use Rattle.relay.specs.Choice.{chosen, turn_after}

-- stars 4,095 and 4,096 lie in zones 0 and 1
abbrev pub Zones : Type 0
Zones = (zone_of 4095 ≡ 0) × (zone_of 4096 ≡ 1)

-- of 5 copies, set 3 is no majority and set 19 is; of 3 under every copy, set 7 commits and 3 does not, set 1 elects and 0 does not
abbrev pub Quorums : Type 0
Quorums =
    (majority 5 3 ≡ false) × (majority 5 19 ≡ true)
    × (every_copy 3 7 ≡ true) × (every_copy 3 3 ≡ false)
    × (any_copy 3 1 ≡ true) × (any_copy 3 0 ≡ false)

-- a place that is lawful but for its declination
abbrev pub place_at_declination : ℕ → Place
place_at_declination d = record { ascension = 0; declination = pos d; motion_ra = pos 0; motion_dec = pos 0; year = 2000 }

-- declination 324,000,000 is lawful, one more is not
abbrev pub Places : Type 0
Places = (lawful_place (place_at_declination 324000000) ≡ true) × (lawful_place (place_at_declination 324000001) ≡ false)

-- an entry of the term
abbrev pub of_term : ℕ → Entry Place
of_term t = record { term = t; stamp = no_stamp; client = 0; number = 0; star = 0; value = blank_place }

-- a log of terms 1, 1, 2 is newer than one of terms 1, 1, 1, 1, and not the other way round
abbrev pub Newer : Type 0
Newer =
    (newer (map of_term (1 ∷ 1 ∷ 2 ∷ [])) (map of_term (1 ∷ 1 ∷ 1 ∷ 1 ∷ [])) ≡ true)
    × (newer (map of_term (1 ∷ 1 ∷ 1 ∷ 1 ∷ [])) (map of_term (1 ∷ 1 ∷ 2 ∷ [])) ≡ false)

-- of 3 copies, set 5 and turn 1 choose copy 2, and the turn becomes 0
abbrev pub Choices : Type 0
Choices = (chosen 3 5 1 ≡ Some 2) × (turn_after 3 2 ≡ 0)

-- the whole table
abbrev pub CheckedPairs : Type 0
CheckedPairs = Zones × Quorums × Places × Newer × Choices
