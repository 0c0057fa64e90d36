use Rattle.std.proofs.Common.{ap, ◌∙◌}
use Rattle.raft_log.proofs.Meaning.{seen_at, elect_means}
use Rattle.raft_log.proofs.calls.elect.Goals as goal

pub returns : goal.returns
returns g c =
    record { value = c.elect_step.ensures; means = ap (seen_at c.args.entries.now) c.elect_step.ensures ∙ elect_means c.args.logs.now c.args.entries.now c.requires.shape (g.R.VoteRule.elects c.args.rule) c.args.candidate c.args.voters }
