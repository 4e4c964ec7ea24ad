-- Two of the three contributions; the divisor is a finite constant, so that the quotient is a plain one. Assumes nothing.
use mathlib.Core.Path.{refl}
use lib.Ieee.{of_bits, of_int, round}
use Rattle.num_working.specs.Number.{whole}
use Rattle.num_formulas.specs.Formula.{value}
use Rattle.eos_conductivity.proofs.background.Goals as goal

pub returns : goal.returns
unfolding value of_bits whole of_int round
returns c = rw (c.residual.ensures, c.dilute.ensures) refl
