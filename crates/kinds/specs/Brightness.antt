-- How bright a star is: two magnitudes, and the year that they hold for.
use Rattle.std.specs.Prelude.{ℕ, ◌^◌, ◌<◌, Bool, true, false, cond, not, ◌&&◌, ◌||◌, T, List, [], ◌∷◌, ◌++◌, pos, negsuc, Some, None, Option, ◌==◌, slice_index, Float}
use Rattle.std.specs.Bool.{beq}
use Rattle.std.specs.Ordering.{int_eq}
use Rattle.std.specs.Float.Ieee as Ieee
use Rattle.std.specs.Float.{nan, inf, fin, binary32}
use Rattle.kinds.specs.declared.brightness.Brightness.{Brightness}
use Rattle.kinds.specs.Bytes.{le16, le32, at16, at32}
use Rattle.kinds.specs.Numbers.{lawful_year}

-- each number of the brightness fits its type
abbrev pub brightness_fits : Brightness → Type 0
brightness_fits p = T (Ieee.fits binary32 p.visual) × T (Ieee.fits binary32 p.blue) × (p.year < 2 ^ 16)

-- no magnitude is a NaN
abbrev pub well_formed_brightness : Brightness → Bool
well_formed_brightness p = not (Ieee.is_nan p.visual) && not (Ieee.is_nan p.blue)

-- a magnitude from -30 to 30, both included
abbrev pub lawful_magnitude : Float → Bool
lawful_magnitude x = Ieee.le (Ieee.of_int binary32 (negsuc 29)) x && Ieee.le x (Ieee.of_int binary32 (pos 30))

-- each number of the brightness is in its range
abbrev pub lawful_brightness : Brightness → Bool
lawful_brightness p = lawful_magnitude p.visual && lawful_magnitude p.blue && lawful_year p.year

-- the bits of the magnitudes, the year, and six zero bytes
abbrev pub brightness_bytes : Brightness → List ℕ
brightness_bytes p = le32 (Ieee.to_bits binary32 p.visual) ++ le32 (Ieee.to_bits binary32 p.blue) ++ le16 p.year ++ (0 ∷ 0 ∷ 0 ∷ 0 ∷ 0 ∷ 0 ∷ [])

-- the last six bytes are zero
abbrev pub brightness_ends_in_zeros : List ℕ → Bool
brightness_ends_in_zeros b = slice_index b 10 == 0 && slice_index b 11 == 0 && slice_index b 12 == 0 && slice_index b 13 == 0 && slice_index b 14 == 0 && slice_index b 15 == 0

-- the bits of a magnitude are a NaN's
abbrev pub has_nan : List ℕ → Bool
has_nan b = Ieee.nan_bits binary32 (at32 b 0) || Ieee.nan_bits binary32 (at32 b 4)

-- the numbers as they stand in the bytes
abbrev pub brightness_at : List ℕ → Brightness
brightness_at b = record { visual = Ieee.of_bits binary32 (at32 b 0); blue = Ieee.of_bits binary32 (at32 b 4); year = at16 b 8 }

-- bytes that do not end in six zeros, or hold a NaN, are refused
abbrev pub brightness_parsed : List ℕ → Option Brightness
brightness_parsed b = cond (brightness_ends_in_zeros b && not (has_nan b)) (Some (brightness_at b)) None

-- the brightness of sixteen zero bytes
abbrev pub blank_brightness : Brightness
blank_brightness = record { visual = Ieee.of_bits binary32 0; blue = Ieee.of_bits binary32 0; year = 0 }

-- whether two magnitudes are one: by sign, digits and exponent, so that minus zero and plus zero are two
abbrev pub same_magnitude : Float → Float → Bool
same_magnitude nan nan = true
same_magnitude nan (inf t) = false
same_magnitude nan (fin t n d) = false
same_magnitude (inf s) nan = false
same_magnitude (inf s) (inf t) = beq s t
same_magnitude (inf s) (fin t n d) = false
same_magnitude (fin s m e) nan = false
same_magnitude (fin s m e) (inf t) = false
same_magnitude (fin s m e) (fin t n d) = beq s t && m == n && int_eq e d

-- whether two brightnesses are one
abbrev pub same_brightness : Brightness → Brightness → Bool
same_brightness p q = same_magnitude p.visual q.visual && same_magnitude p.blue q.blue && p.year == q.year
