-- Each part is the definition's. Assumes nothing.
use mathlib.Core.Path.{refl}
use Rattle.num_formulas.specs.Formula.{value}
use Rattle.eos_rows.specs.Row.{non_analytics}
use Rattle.eos_isotherm.specs.Isotherm.{quarter_of, isotherm}
use Rattle.eos_isotherm.proofs.at_temperature.Goals as goal

pub returns : goal.returns
unfolding isotherm quarter_of non_analytics value
returns c =
    rw (
      c.psi_of.ensures,
      c.non_analytic_row.ensures,
      c.four_bells.ensures,
      c.tau_powers.ensures,
      c.half_of-2.ensures,
      c.half_of.ensures,
      c.tau_at-tau.ensures,
    ) refl
