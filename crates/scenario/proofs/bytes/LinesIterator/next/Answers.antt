use Rattle.std.proofs.Common.{rules, arith, ℕ, subst, sym, eqb, take, ◌+◌, ◌∙◌, ◌≡◌}
use Rattle.std.specs.Fn.{ComputesKey}
use Rattle.std.specs.List.{position_or_len}
use Rattle.std.proofs.lemmas.Grind.{common_steps}
use Rattle.std.proofs.lemmas.Fn.{always_returns_same}
use Rattle.scenario.proofs.Cuts.{through_is}
use Rattle.scenario.proofs.bytes.LinesIterator.next.Goals as goal

pub returns-clause-steps : goal.returns-clause-steps
returns-clause-steps c =
    let p = λ (b : ℕ). eqb b 10 in
    let h = c.in_ok-line.ensures.steps in
    let line = c.in_ok-line.line.now in
    let key = through_is p _ _ _ _ line _ h.1.0 h.0 h.1.1 h.1.2 (subst (ComputesKey _ p) (sym c.split_inclusive.ensures.closure) (always_returns_same _ (λ a r. r ≡ p a.0.now) _ (λ a r q k. search rules))) in
    let whole = sym c.split_inclusive.ensures.rest ∙ h.0 in
    (search rules, grind (arith, common_steps, whole), subst (λ l. line ≡ take (position_or_len p l + 1) l) c.split_inclusive.ensures.rest key)
