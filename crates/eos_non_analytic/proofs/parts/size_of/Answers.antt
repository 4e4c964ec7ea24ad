-- The two arms of the definition. Assumes nothing.
use lib.Ieee.{of_bits, of_int}
use Rattle.num_working.specs.Number.{whole}
use Rattle.num_formulas.specs.Formula.{absolute}
use Rattle.eos_non_analytic.proofs.parts.size_of.Goals as goal

pub returns-then-x : goal.returns-then-x
unfolding absolute of_bits of_int whole
returns-then-x c = simp (absolute, c.if-x.true)

pub returns-else-x : goal.returns-else-x
unfolding absolute of_bits of_int whole
returns-else-x c = simp (absolute, c.if-x.false)
