-- One test at the end stands for all; the divisor is a finite constant, so the quotient is a plain one. Assumes nothing.
use mathlib.Core.Path.{◌∙◌}
use lib.Ieee.{of_bits, of_int, round}
use Rattle.num_working.specs.Number.{whole, fraction, decimal}
use Rattle.eos_constants.specs.Constant.{span_wagner}
use Rattle.num_formulas.specs.Formula.{value}
use Rattle.num_formulas.proofs.Formulas.{once}
use Rattle.eos_saturation.specs.Saturation.{theta}
use Rattle.eos_saturation.proofs.theta_at.Goals as goal

pub returns : goal.returns
unfolding value of_bits span_wagner decimal fraction whole of_int round
returns c =
    (rw c.span_wagner.ensures at c.checked.ensures)
    ∙ once (theta c.args.t)
