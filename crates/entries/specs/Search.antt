-- What a search in a log finds.
use Rattle.std.specs.Prelude.{ℕ, suc, ◌/◌, Bool, cond, not, ◌&&◌, List, [], ◌∷◌, Some, None, Option, ◌==◌}
use Rattle.std.specs.Option.{option_map}
use Rattle.entries.specs.declared.entry.Stamp.{Stamp}
use Rattle.entries.specs.declared.entry.Entry.{Entry}
use Rattle.entries.specs.declared.entry.Sought.{Sought}
use Rattle.entries.specs.declared.entry.Sought.TheVariants.{Star, Zone, Request, Term}

-- the zone of a star
abbrev pub zone_of : ℕ → ℕ
zone_of star = star / 4096

-- no stamp at all
abbrev pub no_stamp : Stamp
no_stamp = record { session = 0; number = 0 }

module _ {V : Type 0} where
  -- the entry is one that is sought; an opening entry, of star 0, lies in no zone
  abbrev pub matches : Sought → Entry V → Bool
  matches (Star s) e = e.star == s
  matches (Zone z) e = not (e.star == 0) && zone_of e.star == z
  matches (Request c n) e = e.client == c && e.number == n
  matches (Term t) e = e.term == t

  -- the last of the entries that is sought, where n stand before them and found is the last among those
  abbrev pub last_from : Sought → ℕ → Option (ℕ × Entry V) → List (Entry V) → Option (ℕ × Entry V)
  last_from q n found [] = found
  last_from q n found (e ∷ l) = last_from q (suc n) (cond (matches q e) (Some (suc n, e)) found) l

  -- the last entry of the log that is sought, with its index counted from 1
  abbrev pub last_of : Sought → List (Entry V) → Option (ℕ × Entry V)
  last_of q l = last_from q 0 None l

  -- the value that the log has for the star: that of the star's last entry, or none
  abbrev pub last_value : ℕ → List (Entry V) → Option V
  last_value s l = option_map (λ p. p.1.value) (last_of (Star s) l)

  -- the stamp of an entry that was found, or zeros
  abbrev pub stamp_of : Option (ℕ × Entry V) → Stamp
  stamp_of None = no_stamp
  stamp_of (Some p) = p.1.stamp

  -- the stamp of the zone's last entry, or zeros
  abbrev pub zone_stamp : ℕ → List (Entry V) → Stamp
  zone_stamp z l = stamp_of (last_of (Zone z) l)

  -- the index of an entry that was found, or 0
  abbrev pub index_of : Option (ℕ × Entry V) → ℕ
  index_of None = 0
  index_of (Some p) = p.0
