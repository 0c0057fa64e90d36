use Rattle.std.proofs.Common.{rules, tests, ◌∙◌, refl, arith}
use Rattle.std.proofs.lemmas.Iterator.{YieldsList-from_range}
use Rattle.std.proofs.lemmas.Iterator.Search.{all_from_yields_List}
use Rattle.copies.specs.Shape.{count_fits}
use Rattle.copies.proofs.Chains.{all_of_range}
use Rattle.copies.proofs.logs.Logs.counts_fit.Goals as goal

pub returns-clause-value : goal.returns-clause-value
returns-clause-value c =
    let n = c.args.self.now.copies in
    all_from_yields_List (count_fits c.args.self.now) _ _ _ c.all.ensures.ran (YieldsList-from_range 0 n n refl (omega arith)) (λ x b q k. search (rules, tests))
    ∙ all_of_range (count_fits c.args.self.now) n
