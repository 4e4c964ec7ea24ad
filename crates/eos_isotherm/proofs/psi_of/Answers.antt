-- The formula, operation by operation. Assumes nothing.
use mathlib.Core.Path.{refl}
use lib.Ieee.{of_bits, of_int}
use Rattle.num_working.specs.Number.{whole}
use Rattle.num_formulas.specs.Formula.{value}
use Rattle.eos_isotherm.specs.Isotherm.{psi_tau}
use Rattle.eos_isotherm.proofs.psi_of.Goals as goal

pub returns : goal.returns
unfolding psi_tau value whole of_bits of_int
returns c = refl
