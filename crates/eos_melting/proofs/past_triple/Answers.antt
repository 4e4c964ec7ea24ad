-- The formula, operation by operation; the divisor is a finite constant, so the quotient is a plain one. Assumes nothing.
use mathlib.Core.Path.{refl}
use lib.Ieee.{of_bits, of_int, round}
use Rattle.num_working.specs.Number.{whole, fraction, decimal}
use Rattle.num_formulas.specs.Formula.{value}
use Rattle.eos_melting.proofs.past_triple.Goals as goal

pub returns : goal.returns
unfolding value of_bits decimal fraction whole of_int round
returns c = refl
