-- It is 1996's. Assumes nothing.
use Rattle.equation.specs.Equation.{of1996}
use Rattle.equation.proofs.liquid_density.Goals as goal

pub returns : goal.returns
unfolding of1996
returns c = c.liquid_density.ensures
