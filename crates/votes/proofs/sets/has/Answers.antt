use Rattle.std.proofs.Common.{arith, rules}
use Rattle.std.proofs.lemmas.Bool.Decides.{nat_tests}
use Rattle.std.proofs.lemmas.Nat.Bits.{bit_at_above}
use Rattle.votes.proofs.sets.has.Goals as goal

pub returns-else-copy-lt8 : goal.returns-else-copy-lt8
returns-else-copy-lt8 c = let z = bit_at_above c.args.set 8 c.args.copy (search rules) c.if-copy-lt8.false in grind (arith, nat_tests)
