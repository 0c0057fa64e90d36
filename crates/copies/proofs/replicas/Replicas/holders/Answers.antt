use Rattle.std.proofs.Common.{ℕ, ◌+◌, Bool, ap, ◌∙◌, arith}
use Rattle.std.proofs.lemmas.Nat.{one_shl}
use Rattle.copies.specs.Seen.{seen}
use Rattle.copies.specs.Questions.{holds_of}
use Rattle.copies.proofs.Below.{mask_yes, mask_no}
use Rattle.copies.proofs.replicas.Replicas.holders.Goals as goal
use Rattle.copies.proofs.replicas.Replicas.holders.Goals.{then-holds, else-holds}

pub loop-r-preserved : goal.loop-r-preserved
loop-r-preserved g c =
    let p : ℕ → Bool = holds_of g.V.PartialEq.eq (seen c.args.self.now) c.args.leader c.args.n in
    let k = one_shl c.loop-r.r 8 (omega (arith, c.args.self.now.shaped.few)) in
    elim c.if-holds.branch [
      | then-holds w ↦
          let m = mask_yes p c.loop-r.r c.loop-r.found c.loop-r.invariant.0 c.loop-r.invariant.1 w.if-holds.ensures in
          (w.found-is ∙ ap (λ (x : ℕ). c.loop-r.found + x) k ∙ m.0, omega (arith, k, m.1, w.found-is))
      | else-holds w ↦
          let m = mask_no p c.loop-r.r c.loop-r.found c.loop-r.invariant.0 c.loop-r.invariant.1 w.if-holds.ensures in
          (w.found-is ∙ m.0, omega (arith, m.1, w.found-is))
    ]
