-- It is 1996's. Assumes nothing.
use Rattle.equation.specs.Equation.{curve}
use Rattle.equation.proofs.curve_at.Goals as goal

pub returns : goal.returns
unfolding curve
returns c = rw c.at_temperature.ensures
