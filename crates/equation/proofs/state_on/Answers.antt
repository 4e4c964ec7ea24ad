-- It is 1996's. Assumes nothing.
use Rattle.equation.specs.Equation.{state_on}
use Rattle.equation.proofs.state_on.Goals as goal

pub returns : goal.returns
unfolding state_on
returns c = c.state_on.ensures
