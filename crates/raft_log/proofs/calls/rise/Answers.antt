use Rattle.std.proofs.Common.{length, Result, sym, ap, ◌∙◌, subst}
use Rattle.copies.specs.declared.logs.Logs.{Logs}
use Rattle.copies.specs.Shape.{Shaped}
use Rattle.raft_log.specs.declared.fault.LogFault.{LogFault}
use Rattle.raft_log.proofs.Kept.{rise_kept}
use Rattle.raft_log.proofs.Meaning.{seen_at, rise_means}
use Rattle.raft_log.proofs.calls.rise.Goals as goal

pub returns : goal.returns
returns g c =
    record {
      value = c.rise_step.ensures;
      means = ap (seen_at c.args.entries.now) c.rise_step.ensures ∙ rise_means c.args.logs.now c.args.entries.now c.requires.shape g.V.PartialEq.eq c.args.r c.args.n c.requires.copy;
      shape = subst (λ (l : Logs). Shaped l (length c.args.entries.now)) (sym (ap (λ (p : Logs × Result (Unit {0}) LogFault). p.0) c.rise_step.ensures))
          (rise_kept g.V.PartialEq.eq c.args.logs.now c.args.entries.now c.args.r c.args.n (length c.args.entries.now) c.requires.shape c.requires.copy);
    }
