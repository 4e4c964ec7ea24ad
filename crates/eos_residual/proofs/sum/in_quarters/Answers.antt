-- The formula, operation by operation. Assumes nothing.
use mathlib.Core.Path.{refl}
use lib.Ieee.{of_bits, of_int}
use Rattle.num_working.specs.Number.{whole}
use Rattle.num_formulas.specs.Formula.{value}
use Rattle.eos_residual.proofs.sum.in_quarters.Goals as goal

pub returns : goal.returns
unfolding value whole of_bits of_int
returns c = refl
