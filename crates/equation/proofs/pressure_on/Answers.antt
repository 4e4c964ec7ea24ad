-- It is 1996's. Assumes nothing.
use Rattle.equation.specs.Equation.{pressure_on}
use Rattle.equation.proofs.pressure_on.Goals as goal

pub returns : goal.returns
unfolding pressure_on
returns c = c.pressure_on.ensures
