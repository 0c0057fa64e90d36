-- Entries compared, field by field, and runs of entries, one after the other.
use Rattle.std.specs.Prelude.{Bool, ◌&&◌, List, ◌==◌}
use Rattle.std.specs.Cmp.Lexicographic.{pointwise}
use Rattle.entries.specs.declared.entry.Entry.{Entry}

module _ {V : Type 0} (alike : V → V → Bool) where
  -- the same but for the terms
  abbrev pub content_alike : Entry V → Entry V → Bool
  content_alike a b =
      (a.stamp.session == b.stamp.session && a.stamp.number == b.stamp.number)
      && (a.client == b.client && (a.number == b.number && (a.star == b.star && alike a.value b.value)))

  -- the same in every field
  abbrev pub entry_alike : Entry V → Entry V → Bool
  entry_alike a b = a.term == b.term && content_alike a b

  -- of one length, and the same at each place
  abbrev pub all_alike : List (Entry V) → List (Entry V) → Bool
  all_alike = pointwise entry_alike
