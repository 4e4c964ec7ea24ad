-- The formula, operation by operation, each literal the number as printed and each power the array's. Assumes nothing.
use mathlib.Core.Path.{refl}
use lib.Ieee.{neg, of_bits, round}
use Rattle.num_working.specs.Number.{fraction, decimal}
use Rattle.num_powers.specs.Power.{power, powers}
use Rattle.num_formulas.specs.Formula.{value}
use Rattle.eos_conductivity.specs.Conductivity as conductivity
use Rattle.eos_conductivity.proofs.residual.Goals as goal

pub returns : goal.returns
unfolding conductivity.residual value power powers decimal fraction neg of_bits round
returns c = rw c.powers_to_10-p.ensures refl
