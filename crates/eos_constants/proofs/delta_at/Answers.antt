-- The divisor is a finite constant, so that the quotient is a plain one. Assumes nothing.
use mathlib.Core.Path.{refl}
use lib.Ieee.{of_int, round}
use Rattle.num_working.specs.Number.{whole, fraction, decimal}
use Rattle.num_formulas.specs.Formula.{value}
use Rattle.eos_constants.specs.Constant.{span_wagner}
use Rattle.eos_constants.proofs.delta_at.Goals as goal

pub returns : goal.returns
unfolding value span_wagner decimal fraction whole of_int round
returns c = rw c.span_wagner.ensures refl
