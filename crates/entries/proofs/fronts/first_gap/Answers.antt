use Rattle.std.proofs.Common.{◌∙◌, eqb, rules, tests}
use Rattle.std.specs.List.{zip}
use Rattle.std.proofs.lemmas.Iterator.{YieldsList-from_slice, YieldsList-from_zip}
use Rattle.std.proofs.lemmas.Iterator.Consumers.{count_from_yields_List}
use Rattle.std.proofs.lemmas.Iterator.Search.{YieldsList-from_take_while}
use Rattle.std.proofs.lemmas.List.Folds.{length-prefix_len}
use Rattle.entries.proofs.Parting.{gap_is}
use Rattle.entries.proofs.fronts.first_gap.Goals as goal

pub returns-clause-value : goal.returns-clause-value
returns-clause-value g c =
    let led = c.args.led.now in
    let log = c.args.log.now in
    count_from_yields_List c.take_while.result _ c.count.ensures.ran
    (YieldsList-from_take_while _ (λ p. eqb p.0.term p.1.term) (YieldsList-from_zip (YieldsList-from_slice led (cc)) (YieldsList-from_slice log (cc))) c.take_while.ensures.closure c.take_while.ensures.done (λ x b q k. search (rules, tests)))
    ∙ length-prefix_len (λ p. eqb p.0.term p.1.term) (zip led log) ∙ gap_is led log
