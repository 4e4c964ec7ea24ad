-- One test at the end stands for all. Assumes nothing.
use mathlib.Core.Path.{◌∙◌}
use Rattle.num_formulas.specs.Formula.{value}
use Rattle.num_formulas.proofs.Formulas.{once}
use Rattle.eos_constants.specs.Reduced.{delta}
use Rattle.eos_conductivity.specs.Conductivity.{reduced, dilute, residual, background, background_at}
use Rattle.eos_conductivity.proofs.background_at.Goals as goal

pub returns : goal.returns
unfolding background_at dilute residual value
returns c =
    let a = c.args in
    (rw (c.background.ensures, c.delta_at.ensures, c.reduced_at.ensures) at c.checked.ensures)
    ∙ once (background (reduced a.t) (delta a.rho))
