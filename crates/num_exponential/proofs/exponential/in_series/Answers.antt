-- The two tests are the definition's. Assumes nothing.
use lib.Ieee.{of_bits, of_int, round}
use Rattle.num_working.specs.Number.{decimal, fraction, whole}
use Rattle.num_exponential.specs.Decay.{in_series}
use Rattle.num_exponential.proofs.exponential.in_series.Goals as goal

pub returns-then-x : goal.returns-then-x
unfolding in_series decimal fraction whole of_bits of_int round
returns-then-x c = simp (in_series, c.if-x.true)

pub returns-else-x : goal.returns-else-x
unfolding in_series decimal fraction whole of_bits of_int round
returns-else-x c = simp (in_series, c.if-x.false)
