-- It is 1996's. Assumes nothing.
use mathlib.Core.Path.{ap}
use Rattle.eos_constants.specs.declared.Constants.{Constants}
use Rattle.equation.specs.Equation.{of1996}
use Rattle.equation.proofs.critical_temperature.Goals as goal

pub returns : goal.returns
unfolding of1996
returns c = ap (λ (k : Constants). k.temperature) c.span_wagner.ensures
