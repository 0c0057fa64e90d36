use Rattle.std.proofs.Common.{◌∙◌, rules, tests}
use Rattle.std.proofs.lemmas.Iterator.{YieldsList-from_range}
use Rattle.std.proofs.lemmas.Iterator.Consumers.{YieldsList-from_filter, count_from_yields_List}
use Rattle.votes.specs.Sets.{has}
use Rattle.votes.proofs.Counted.{counted}
use Rattle.votes.proofs.sets.set_size.Goals as goal

pub returns : goal.returns
returns c =
    count_from_yields_List c.filter.result _ c.count.ensures.ran
    (YieldsList-from_filter _ (has c.args.set) (YieldsList-from_range 0 c.args.copies c.args.copies c.filter.ensures.source (search rules)) c.filter.ensures.closure (λ x b q k. search (rules, tests)))
    ∙ counted c.args.set c.args.copies
