-- Each row's own β and γ. Assumes nothing.
use mathlib.Core.Path.{refl}
use Rattle.eos_rows.specs.Row.{gaussians}
use Rattle.eos_isotherm.specs.Isotherm.{four_bells}
use Rattle.eos_isotherm.proofs.four_bells.Goals as goal

pub returns : goal.returns
unfolding four_bells gaussians
returns c =
    rw (
      c.bell_of-4.ensures,
      c.gaussian_row-4.ensures,
      c.bell_of-3.ensures,
      c.gaussian_row-3.ensures,
      c.bell_of-2.ensures,
      c.gaussian_row-2.ensures,
      c.bell_of.ensures,
      c.gaussian_row.ensures,
    ) refl
