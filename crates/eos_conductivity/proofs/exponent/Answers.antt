-- The formula, operation by operation, each literal the number as printed. Assumes nothing.
use mathlib.Core.Path.{refl}
use lib.Ieee.{of_bits, round}
use Rattle.num_working.specs.Number.{fraction, decimal}
use Rattle.num_powers.specs.Power.{power}
use Rattle.num_formulas.specs.Formula.{value}
use Rattle.eos_conductivity.specs.Conductivity as conductivity
use Rattle.eos_conductivity.proofs.exponent.Goals as goal

pub returns : goal.returns
unfolding conductivity.exponent value power decimal fraction of_bits round
returns c = refl
