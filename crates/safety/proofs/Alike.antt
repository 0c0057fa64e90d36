-- Entries and runs of entries that the tests call alike are one.
use Rattle.std.proofs.Common.{◌≡◌, Bool, true, List, [], ◌∷◌, refl, arith}
use Rattle.std.proofs.lemmas.Bool.{and_parts, eqb-true}
use Rattle.entries.specs.declared.entry.Entry.{Entry}
use Rattle.entries.specs.Compare.{entry_alike, all_alike}
use Rattle.safety.specs.Runs.{Telling}

module _ {V : Type 0} (alike : V → V → Bool) (tells : Telling alike) where
  pub entries_one : (a b : Entry V) → entry_alike alike a b ≡ true → a ≡ b
  entries_one a b e = let h = (tells a.value b.value).0 in grind (arith, and_parts, eqb-true, h)

  pub all_one : (l m : List (Entry V)) → all_alike alike l m ≡ true → l ≡ m
  all_one [] [] e = refl
  all_one [] (y ∷ m) e = cc
  all_one (x ∷ l) [] e = cc
  all_one (x ∷ l) (y ∷ m) e = let k = all_one l m in grind (arith, entries_one x y, k)
