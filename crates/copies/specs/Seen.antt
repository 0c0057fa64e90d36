-- What is seen of the copies' logs where they lie.
use Rattle.copies.specs.declared.replicas.Replicas.{Replicas}
use Rattle.copies.specs.View.{View, view_of}

-- what the numbers and their slice stand for
abbrev pub seen : {V : Type 0} → Replicas V → View V
seen s = view_of s.logs.now s.entries.now
