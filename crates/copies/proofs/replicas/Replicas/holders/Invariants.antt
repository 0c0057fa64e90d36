use Rattle.std.proofs.Common.{◌≡◌, ◌^◌, ◌<◌}
use Rattle.copies.specs.Below.{mask}
use Rattle.copies.specs.Seen.{seen}
use Rattle.copies.specs.Questions.{holds_of}
use Rattle.copies.proofs.replicas.Replicas.holders.Given as goal

abbrev pub invariant-loop-r : goal.invariant-loop-r
invariant-loop-r g l = (l.found ≡ mask (holds_of g.V.PartialEq.eq (seen l.self) l.leader l.n) l.r) × (l.found < 2 ^ l.r)
