use Rattle.std.proofs.Common.{rules, ℕ, ap, subst, sym, eqb, ◌≡◌, ◌∙◌}
use Rattle.std.proofs.lemmas.Fn.{always_returns_same}
use Rattle.std.specs.Fn.{ComputesKey}
use Rattle.scenario.proofs.Cuts.{first_is}
use Rattle.scenario.proofs.bytes.before_comment.Goals as goal

pub returns : goal.returns
returns c =
    let p = λ (b : ℕ). eqb b 35 in
    ap (λ l. l.now) c.unwrap_or.ensures ∙ first_is p c.args.line.now _ _ _ c.next.result c.args.line c.next.ensures.steps c.split.ensures.rest c.split.ensures.done (subst (ComputesKey _ p) (sym c.split.ensures.closure) (always_returns_same _ (λ a r. r ≡ p a.0.now) _ (λ a r q k. search rules)))
