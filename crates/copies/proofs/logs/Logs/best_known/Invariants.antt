use Rattle.std.proofs.Common.{◌≡◌, ◌<◌, ◌≤◌}
use Rattle.copies.specs.Shape.{known_of}
use Rattle.copies.specs.Questions.{greatest}
use Rattle.copies.proofs.logs.Logs.best_known.Given as goal

abbrev pub invariant-loop-r : goal.invariant-loop-r
invariant-loop-r l = (l.best ≡ greatest (known_of l.self) l.r) × (l.best ≤ l.r) × (0 < l.r → l.best < l.r)
