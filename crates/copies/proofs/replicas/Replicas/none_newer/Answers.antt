use Rattle.std.proofs.Common.{not, rules, tests, ap, ◌∙◌, refl, arith}
use Rattle.std.proofs.lemmas.Iterator.{YieldsList-from_range}
use Rattle.std.proofs.lemmas.Iterator.Search.{any_from_yields_List}
use Rattle.copies.specs.Seen.{seen}
use Rattle.copies.specs.Questions.{objects_to}
use Rattle.copies.proofs.Chains.{none_of_range}
use Rattle.copies.proofs.replicas.Replicas.none_newer.Goals as goal

pub returns : goal.returns
returns g c =
    let n = c.args.self.now.logs.now.copies in
    let test = objects_to (seen c.args.self.now) c.args.candidate c.args.voters in
    ap not (any_from_yields_List test _ _ _ c.any.ensures.ran (YieldsList-from_range 0 n n refl (omega arith)) (λ x b q k. search (rules, tests)))
    ∙ none_of_range test n
