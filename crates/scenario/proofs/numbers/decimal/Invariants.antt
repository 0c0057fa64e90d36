use Rattle.std.proofs.Common.{◌≡◌, ◌≤◌, drop}
use Rattle.scenario.proofs.Reading.{read_from}
use Rattle.scenario.proofs.numbers.decimal.Given as goal

abbrev pub invariant-loop-byte : goal.invariant-loop-byte
invariant-loop-byte l = (read_from l.most 0 l.word ≡ read_from l.most l.n (drop l.byte-index l.word)) × (l.n ≤ l.most)
