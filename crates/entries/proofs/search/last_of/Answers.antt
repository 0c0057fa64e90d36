use Rattle.std.proofs.Common.{◌-◌, ◌≡◌, false, length, get_or, ap, ◌∙◌, rules, tests, arith}
use Rattle.std.proofs.iter.runs.Made.{chains}
use Rattle.entries.specs.Search.{matches, last_of}
use Rattle.entries.proofs.Found.{last_is, last_none, given, given_one}
use Rattle.entries.proofs.search.last_of.Goals as goal

pub returns-in_err-i-clause-value : goal.returns-in_err-i-clause-value
returns-in_err-i-clause-value g c =
    let h = c.in_err-i.ensures.runs in
    let l = h.0.from.rest.now in
    let r = c.iter.ensures.runs_back h.0 h.0.seen in
    let w = h.2.0 in
    let e : l ≡ c.args.log.now = search rules in
    search rules
    ∙ last_none c.args.sought l
    (λ k d lt. given (h.0.at (length l - 1 - k)) (λ y. y.now) (get_or l k d) _ (matches c.args.sought) false (r.2 k d lt (omega (arith, r.1 w))) (h.2.1 (search rules) (length l - 1 - k)) (λ x w. search (rules, tests)))
    ∙ ap (last_of c.args.sought) e

pub returns-clause-value : goal.returns-clause-value
returns-clause-value g c =
    let h = c.in_ok-i.ensures.runs in
    let l = h.0.from.rest.now in
    let r = c.iter.ensures.runs_back h.0 h.0.seen in
    let e : c.args.log.now ≡ l = search rules in
    last_is c.args.sought c.args.log.now c.in_ok-i.i c.index-log-i.result (search rules) (search rules) (search (rules, chains))
    (λ k d a b. rw e (given_one (h.0.at (length l - 1 - k)) (λ y. y.now) (get_or l k d) _ (matches c.args.sought) false (r.2 k d (omega (arith, ap length e)) (omega (arith, h.2.0, ap length e))) ((h.2.1 (search rules)).1 (length l - 1 - k) (omega (arith, ap length e))) (λ x w. search (rules, tests))))
