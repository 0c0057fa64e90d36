use Rattle.std.proofs.Common.{ap, ◌∙◌}
use Rattle.raft_log.proofs.Meaning.{seen, copy_means}
use Rattle.raft_log.proofs.calls.copy.Goals as goal

pub returns : goal.returns
returns g c =
    record { value = c.copy_step.ensures; means = ap (seen) c.copy_step.ensures ∙ copy_means c.args.logs.now c.args.entries.now c.requires.shape g.V.RecordKind.blank_value c.args.r c.requires.copy }
