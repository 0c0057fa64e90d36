use Rattle.std.proofs.Common.{ap, ◌∙◌}
use Rattle.raft_log.proofs.Meaning.{seen, append_means}
use Rattle.raft_log.proofs.calls.append.Goals as goal

pub returns : goal.returns
returns g c =
    record { value = c.append_step.ensures; means = ap (seen) c.append_step.ensures ∙ append_means c.args.logs.now c.args.entries.now c.requires.shape c.args.a c.args.e c.requires.copy }
