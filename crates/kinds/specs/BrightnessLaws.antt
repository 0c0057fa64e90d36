-- Brightnesses and their bytes.
use Rattle.std.specs.Prelude.{◌≡◌, ℕ, Bool, true, false, not, ◌&&◌, ◌||◌, T, List, map, Some, ◌==◌, slice_index, Float}
use Rattle.std.proofs.Common.{sym, ap, subst, ◌∙◌, arith}
use Rattle.std.proofs.lemmas.Nat.{from_le_bytes-to_le_bytes_2, from_le_bytes-to_le_bytes_4}
use Rattle.std.specs.Float.Ieee as Ieee
use Rattle.std.specs.Float.{binary32}
use Rattle.std.specs.Float.Ieee.Fits.{and_i, and_l, and_r}
use Rattle.std.specs.Float.Ieee.Bits.{is_false, of_bits-fits, of_bits-to_bits, to_bits-lt, to_bits-of_bits, nan_bits_is}
use Rattle.std.specs.List.{range_with_len}
use Rattle.std.proofs.lemmas.Bool.Decides.{nat_tests}
use Rattle.std.proofs.lemmas.Option.{cond_some}
use Rattle.kinds.specs.declared.brightness.Brightness.{Brightness}
use Rattle.kinds.specs.Bytes.{Sixteen, at32}
use Rattle.kinds.specs.Brightness.{brightness_fits, well_formed_brightness, brightness_bytes, brightness_parsed, brightness_at, brightness_ends_in_zeros, has_nan}
use Rattle.kinds.specs.Codes.{le32_of, le16_of, below_32, below_16, sixteen}

no_nan_bits : (x : Float) → T (Ieee.fits binary32 x) → T (not (Ieee.is_nan x)) → Ieee.nan_bits binary32 (Ieee.to_bits binary32 x) ≡ false
no_nan_bits x f n = nan_bits_is binary32 (Ieee.to_bits binary32 x) ∙ ap Ieee.is_nan (of_bits-to_bits binary32 x f) ∙ is_false (Ieee.is_nan x) n

pub brightness_read : (v : Brightness) → brightness_fits v → T (well_formed_brightness v) → brightness_parsed (brightness_bytes v) ≡ Some v
brightness_read v h w =
    let nv = and_l (not (Ieee.is_nan v.visual)) (not (Ieee.is_nan v.blue)) w in
    let nb = and_r (not (Ieee.is_nan v.visual)) (not (Ieee.is_nan v.blue)) w in
    let a = from_le_bytes-to_le_bytes_4 (Ieee.to_bits binary32 v.visual) (to_bits-lt binary32 v.visual h.0) in
    let b = from_le_bytes-to_le_bytes_4 (Ieee.to_bits binary32 v.blue) (to_bits-lt binary32 v.blue h.1) in
    let y = from_le_bytes-to_le_bytes_2 v.year h.2 in
    rw (a, b, y, no_nan_bits v.visual h.0 nv, no_nan_bits v.blue h.1 nb, of_bits-to_bits binary32 v.visual h.0, of_bits-to_bits binary32 v.blue h.1)

-- what the tests say of bytes that are read
passed : (a b c d e f : ℕ) (x y : Bool) → (a == 0 && b == 0 && c == 0 && d == 0 && e == 0 && f == 0 && not (x || y)) ≡ true → (a ≡ 0) × (b ≡ 0) × (c ≡ 0) × (d ≡ 0) × (e ≡ 0) × (f ≡ 0) × (x ≡ false) × (y ≡ false)
passed a b c d e f x y h = grind (arith, nat_tests)

number : (n : ℕ) → Ieee.nan_bits binary32 n ≡ false → T (not (Ieee.is_nan (Ieee.of_bits binary32 n)))
number n e = let q = sym (nan_bits_is binary32 n) ∙ e in rw q tt

-- the numbers that are read fit their types
read_fits : (b : List ℕ) → Sixteen b → brightness_fits (brightness_at b)
read_fits b s = (of_bits-fits binary32 (at32 b 0), of_bits-fits binary32 (at32 b 4), below_16 _ _ (s.small 8) (s.small 9))

-- what is read is well formed, and is written as the same bytes
read_bytes : (b : List ℕ) → Sixteen b → (brightness_ends_in_zeros b && not (has_nan b)) ≡ true → T (well_formed_brightness (brightness_at b)) × (brightness_bytes (brightness_at b) ≡ b)
read_bytes b s t =
    let z = passed (slice_index b 10) (slice_index b 11) (slice_index b 12) (slice_index b 13) (slice_index b 14) (slice_index b 15) (Ieee.nan_bits binary32 (at32 b 0)) (Ieee.nan_bits binary32 (at32 b 4)) t in
    let h = s.small in
    let f0 = le32_of _ _ _ _ (h 0) (h 1) (h 2) (h 3) in
    let f4 = le32_of _ _ _ _ (h 4) (h 5) (h 6) (h 7) in
    let f8 = le16_of _ _ (h 8) (h 9) in
    let n0 = number (at32 b 0) z.6 in
    let n4 = number (at32 b 4) z.7 in
    let g0 = to_bits-of_bits binary32 (at32 b 0) (below_32 _ _ _ _ (h 0) (h 1) (h 2) (h 3)) n0 in
    let g4 = to_bits-of_bits binary32 (at32 b 4) (below_32 _ _ _ _ (h 4) (h 5) (h 6) (h 7)) n4 in
    let mid : brightness_bytes (brightness_at b) ≡ map (λ k. slice_index b k) (range_with_len 0 16) = rw (g0, g4) (cc) in
    (and_i _ _ n0 n4, mid ∙ sym (sixteen b s.long))

pub brightness_written : (b : List ℕ) (v : Brightness) → Sixteen b → brightness_parsed b ≡ Some v → brightness_fits v × T (well_formed_brightness v) × (brightness_bytes v ≡ b)
brightness_written b v s e =
    let p = cond_some (brightness_ends_in_zeros b && not (has_nan b)) (brightness_at b) v e in
    let r = read_bytes b s p.0 in
    (subst brightness_fits p.1 (read_fits b s), rw (← p.1) r.0, ap brightness_bytes (sym p.1) ∙ r.1)
