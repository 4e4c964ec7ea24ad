-- 1996 is such an equation as the doors' theorems take. Assumes nothing.
use mathlib.Core.Path.{◌∙◌}
use Rattle.eos_densities.proofs.Densities.{vapour_nonneg, liquid_nonneg}
use Rattle.eos_isotherm.specs.Isotherm.{isotherm}
use Rattle.eos_terms.proofs.Counts.{at_isotherm}
use Rattle.eos_state.proofs.States.{kept}
use Rattle.equation.specs.Equation.{Lawful, of1996, curve, pressure_on, state_on}

pub lawful : Lawful of1996
unfolding of1996 curve pressure_on state_on
lawful = record {
  vapour = vapour_nonneg;
  liquid = liquid_nonneg;
  temperature = λ t phase rho x e. (kept t (isotherm t) phase phase rho).temperature x e;
  pressure = λ t phase rho x e. (kept t (isotherm t) phase phase rho).pressure x e;
  density = λ t phase rho x e. (kept t (isotherm t) phase phase rho).density x e;
  phase = λ t phase rho x e. (kept t (isotherm t) phase phase rho).carried x e;
  fallen = λ t phase rho x e. (kept t (isotherm t) phase phase rho).counted x e ∙ at_isotherm t rho;
  same = λ t phase other rho x y e f. (kept t (isotherm t) phase other rho).same x y e f;
}
