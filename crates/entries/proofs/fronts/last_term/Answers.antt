use Rattle.std.proofs.Common.{rules}
use Rattle.entries.proofs.Parting.{last_term_is, last_term_none}
use Rattle.entries.proofs.fronts.last_term.Goals as goal

pub returns : goal.returns
returns g c = search (rules, last_term_is, last_term_none)
