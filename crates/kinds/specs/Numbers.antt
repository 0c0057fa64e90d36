-- What both kinds ask of their numbers.
use Rattle.std.specs.Prelude.{ℕ, Bool, ◌&&◌, nat_le}

-- a year from 1900 to 2100
abbrev pub lawful_year : ℕ → Bool
lawful_year y = nat_le 1900 y && nat_le y 2100
