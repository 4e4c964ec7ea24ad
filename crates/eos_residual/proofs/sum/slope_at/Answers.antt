-- The first sum, tested. Assumes nothing.
use mathlib.Core.Path.{◌∙◌}
use Rattle.eos_brackets.specs.Derivative.{Delta}
use Rattle.eos_residual.proofs.sum.slope_at.Goals as goal

pub returns : goal.returns
returns c = c.checked.ensures ∙ c.sums_at.ensures.0 Delta tt
