-- One test at the end stands for all, and each part is what its function ensures. Assumes nothing.
use mathlib.Core.Path.{◌∙◌}
use lib.Ieee.{of_bits, of_int, round}
use Rattle.num_working.specs.Number.{whole}
use Rattle.num_formulas.specs.Formula.{value}
use Rattle.num_formulas.proofs.Formulas.{once}
use Rattle.eos_constants.specs.Reduced.{delta}
use Rattle.eos_conductivity.specs.Conductivity.{reduced, dilute, residual, exponent, enhancement, conductivity, conductivity_at}
use Rattle.eos_conductivity.proofs.conductivity_at.Goals as goal

pub returns : goal.returns
unfolding conductivity_at dilute residual exponent enhancement value of_bits whole of_int round
returns c =
    let a = c.args in
    (rw (
      c.enhancement.ensures,
      c.background.ensures,
      c.delta_at-delta.ensures,
      c.reduced_at-r.ensures,
    ) at c.checked.ensures)
    ∙ once (conductivity (reduced a.t) (delta a.rho))
