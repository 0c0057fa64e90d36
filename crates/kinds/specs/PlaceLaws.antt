-- Places and their bytes.
use Rattle.std.specs.Prelude.{◌≡◌, ℕ, true, ◌&&◌, List, map, Some, ◌==◌, slice_index}
use Rattle.std.proofs.Common.{sym, ap, subst, ◌∙◌, arith}
use borrow.Author.Gap.{read_sfits}
use Rattle.std.specs.Int.{w16, w32}
use Rattle.std.specs.List.{range_with_len}
use Rattle.std.proofs.lemmas.Int.{of_z-to_z}
use Rattle.std.proofs.lemmas.Bool.Decides.{nat_tests}
use Rattle.std.proofs.lemmas.Option.{cond_some}
use Rattle.kinds.specs.declared.place.Place.{Place}
use Rattle.kinds.specs.Bytes.{Sixteen, at16, at32}
use Rattle.kinds.specs.Place.{place_fits, place_bytes, place_parsed, place_at, place_ends_in_zeros}
use Rattle.kinds.specs.Codes.{le32_of, le16_of, below_32, below_16, sixteen}

zeros : (a b : ℕ) → (a == 0 && b == 0) ≡ true → (a ≡ 0) × (b ≡ 0)
zeros a b e = grind (arith, nat_tests)

-- the numbers that are read fit their types
read_fits : (b : List ℕ) → Sixteen b → place_fits (place_at b)
read_fits b s =
    let h = s.small in
    (below_32 _ _ _ _ (h 0) (h 1) (h 2) (h 3), read_sfits w32 (at32 b 4), read_sfits w16 (at16 b 8), read_sfits w16 (at16 b 10), below_16 _ _ (h 12) (h 13))

-- what is read is written as the same bytes
read_bytes : (b : List ℕ) → Sixteen b → place_ends_in_zeros b ≡ true → place_bytes (place_at b) ≡ b
read_bytes b s t =
    let z = zeros (slice_index b 14) (slice_index b 15) t in
    let h = s.small in
    let f0 = le32_of _ _ _ _ (h 0) (h 1) (h 2) (h 3) in
    let f4 = le32_of _ _ _ _ (h 4) (h 5) (h 6) (h 7) in
    let f8 = le16_of _ _ (h 8) (h 9) in
    let f10 = le16_of _ _ (h 10) (h 11) in
    let f12 = le16_of _ _ (h 12) (h 13) in
    let g4 = of_z-to_z w32 (at32 b 4) (below_32 _ _ _ _ (h 4) (h 5) (h 6) (h 7)) in
    let g8 = of_z-to_z w16 (at16 b 8) (below_16 _ _ (h 8) (h 9)) in
    let g10 = of_z-to_z w16 (at16 b 10) (below_16 _ _ (h 10) (h 11)) in
    let mid : place_bytes (place_at b) ≡ map (λ k. slice_index b k) (range_with_len 0 16) = rw (g4, g8, g10) (cc) in
    mid ∙ sym (sixteen b s.long)

pub place_written : (b : List ℕ) (v : Place) → Sixteen b → place_parsed b ≡ Some v → place_fits v × (place_bytes v ≡ b)
place_written b v s e =
    let p = cond_some (place_ends_in_zeros b) (place_at b) v e in
    (subst place_fits p.1 (read_fits b s), ap place_bytes (sym p.1) ∙ read_bytes b s p.0)
