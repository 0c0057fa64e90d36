use Rattle.std.proofs.Common.{ap, ◌∙◌}
use Rattle.raft_log.proofs.Meaning.{seen_at, commit_means}
use Rattle.raft_log.proofs.calls.commit.Goals as goal

pub returns : goal.returns
returns g c =
    record { value = c.commit_step.ensures; means = ap (seen_at c.args.entries.now) c.commit_step.ensures ∙ commit_means c.args.logs.now c.args.entries.now c.requires.shape g.V.PartialEq.eq (g.R.VoteRule.commits c.args.rule) c.args.n }
