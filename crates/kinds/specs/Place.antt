-- Where a star stands, and how it moves.
use Rattle.std.specs.Prelude.{ℕ, ◌^◌, ◌<◌, Bool, cond, ◌&&◌, List, [], ◌∷◌, ◌++◌, ℤ, pos, negsuc, Some, None, Option, FitsSigned, ◌==◌, int_le, nat_le, slice_index}
use Rattle.std.proofs.Common.{to_z, of_z}
use Rattle.std.specs.Int.{w16, w32}
use Rattle.std.specs.Ordering.{int_eq}
use Rattle.kinds.specs.declared.place.Place.{Place}
use Rattle.kinds.specs.Bytes.{le16, le32, at16, at32}
use Rattle.kinds.specs.Numbers.{lawful_year}

-- each number of the place fits its type
abbrev pub place_fits : Place → Type 0
place_fits p = (p.ascension < 2 ^ 32) × FitsSigned w32 p.declination × FitsSigned w16 p.motion_ra × FitsSigned w16 p.motion_dec × (p.year < 2 ^ 16)

-- a declination from -90 to 90 degrees, in thousandths of a second of arc
abbrev pub lawful_declination : ℤ → Bool
lawful_declination d = int_le (negsuc 323999999) d && int_le d (pos 324000000)

-- a motion from -20,000 to 20,000
abbrev pub lawful_motion : ℤ → Bool
lawful_motion m = int_le (negsuc 19999) m && int_le m (pos 20000)

-- each number of the place is in its range
abbrev pub lawful_place : Place → Bool
lawful_place p =
    nat_le p.ascension 1295999999 && lawful_declination p.declination
    && lawful_motion p.motion_ra && lawful_motion p.motion_dec && lawful_year p.year

-- the numbers one after the other, a negative one as its two's complement, and two zero bytes
abbrev pub place_bytes : Place → List ℕ
place_bytes p = le32 p.ascension ++ le32 (of_z w32 p.declination) ++ le16 (of_z w16 p.motion_ra) ++ le16 (of_z w16 p.motion_dec) ++ le16 p.year ++ (0 ∷ 0 ∷ [])

-- the last two bytes are zero
abbrev pub place_ends_in_zeros : List ℕ → Bool
place_ends_in_zeros b = slice_index b 14 == 0 && slice_index b 15 == 0

-- the numbers as they stand in the bytes
abbrev pub place_at : List ℕ → Place
place_at b = record { ascension = at32 b 0; declination = to_z w32 (at32 b 4); motion_ra = to_z w16 (at16 b 8); motion_dec = to_z w16 (at16 b 10); year = at16 b 12 }

-- bytes that do not end in two zeros are refused
abbrev pub place_parsed : List ℕ → Option Place
place_parsed b = cond (place_ends_in_zeros b) (Some (place_at b)) None

-- the place of sixteen zero bytes
abbrev pub blank_place : Place
blank_place = record { ascension = 0; declination = pos 0; motion_ra = pos 0; motion_dec = pos 0; year = 0 }

-- whether two places are one
abbrev pub same_place : Place → Place → Bool
same_place p q =
    p.ascension == q.ascension
    && (int_eq p.declination q.declination && (int_eq p.motion_ra q.motion_ra && (int_eq p.motion_dec q.motion_dec && p.year == q.year)))
