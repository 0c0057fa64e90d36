use Rattle.std.proofs.Common.{arith}
use Rattle.safety.proofs.Whole.{log_stays}
use Rattle.safety.proofs.committed_stays.Goals as goal

pub returns : goal.returns
returns g c = λ admitted.
    let r = c.args.rule in
    log_stays g.V.PartialEq.eq (g.R.VoteRule.commits r) (g.R.VoteRule.elects r) (g.R.VoteRule.count r)
    (omega (arith, admitted.0)) g.met.V.RecordKind.eq_decides (g.met.R.VoteRule.share r admitted)
