use Rattle.std.proofs.Common.{sym, ◌∙◌, arith}
use Rattle.copies.proofs.Fitting.{shape_means}
use Rattle.copies.proofs.logs.Logs.fits.Goals as goal

pub returns-clause-means : goal.returns-clause-means
returns-clause-means c = λ t.
    shape_means c.args.self.now c.args.n (omega arith) (omega arith) (omega arith) (omega arith) (omega arith) (sym c.if-not-leader_fits.ensures) (c.counts_fit.ensures.places t)
    (sym c.counts_fit.ensures.value ∙ t)
