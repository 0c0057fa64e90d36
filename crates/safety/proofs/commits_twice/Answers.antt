use Rattle.safety.proofs.Example.{commits_twice}
use Rattle.safety.proofs.commits_twice.Goals as goal

pub returns : goal.returns
returns c = commits_twice
