-- Each that is asked for is among those of the function that is called. Assumes nothing.
use Rattle.eos_residual.proofs.sum.Terms.non_analytic_sums.Goals as goal

pub returns-then-all : goal.returns-then-all
returns-then-all c = λ k h. c.non_analytic_rows.ensures k (rw c.if-all.true at h)

pub returns-else-all : goal.returns-else-all
returns-else-all c = λ k h. c.non_analytic_rows-else-all.ensures k (rw c.if-all.false at h)
