-- What follows the first eight bytes of a record is its value.
use Rattle.std.proofs.Common.{◌≡◌, ℕ, ◌+◌, List, length, get_or, drop, arith}
use Rattle.std.proofs.lemmas.List.{get_or-drop, length-drop}
use Rattle.std.proofs.lemmas.List.FromFn.{fill_by_all}
use Rattle.rehearsal.specs.Decode.{value_bytes}

pub value_after : (r : List ℕ) → length r ≡ 24 → drop 8 r ≡ value_bytes r
unfolding value_bytes
value_after r h =
    let k : length (drop 8 r) ≡ 16 = simp length-drop (omega arith) in
    fill_by_all (λ i. get_or r (8 + i) 0) (drop 8 r) 16 0 k (λ i _. get_or-drop 8 r i 0)
