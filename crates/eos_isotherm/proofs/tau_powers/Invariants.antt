-- Each turn puts the next row's power in its place. Assumes nothing.
use Rattle.eos_isotherm.specs.Isotherm.{tau_powers}
use Rattle.eos_isotherm.proofs.Fills.{Filled}
use Rattle.eos_isotherm.proofs.tau_powers.Given as goal

abbrev pub invariant-loop-i : goal.invariant-loop-i
invariant-loop-i l = Filled (tau_powers l.tau l.quarter) l.i l.power-items
