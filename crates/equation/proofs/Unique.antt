-- No second answer meets a public function's promise. Assumes nothing.
use lib.Ieee.{Float}
use Rattle.num_working.specs.Working.{Worked}
use Rattle.num_working.proofs.Unique.{OneAnswer, by_equation}
use Rattle.eos_state.specs.State.{Stated}
use Rattle.equation.specs.declared.Curve.{Curve}
use Rattle.equation.proofs.conductivity_at.Reads as conductivity_at
use Rattle.equation.proofs.critical_temperature.Reads as critical_temperature
use Rattle.equation.proofs.curve_at.Reads as curve_at
use Rattle.equation.proofs.liquid_density.Reads as liquid_density
use Rattle.equation.proofs.melting_pressure.Reads as melting_pressure
use Rattle.equation.proofs.pressure_on.Reads as pressure_on
use Rattle.equation.proofs.state_on.Reads as state_on
use Rattle.equation.proofs.vapour_density.Reads as vapour_density
use Rattle.equation.proofs.vapour_pressure.Reads as vapour_pressure

pub critical_temperature_once : OneAnswer Float (critical_temperature.Post tt)
critical_temperature_once a r s x y = by_equation

pub vapour_pressure_once : OneAnswer Worked (vapour_pressure.Post tt)
vapour_pressure_once a r s x y = by_equation

pub vapour_density_once : OneAnswer Worked (vapour_density.Post tt)
vapour_density_once a r s x y = by_equation

pub liquid_density_once : OneAnswer Worked (liquid_density.Post tt)
liquid_density_once a r s x y = by_equation

pub melting_pressure_once : OneAnswer Worked (melting_pressure.Post tt)
melting_pressure_once a r s x y = by_equation

pub curve_at_once : OneAnswer Curve (curve_at.Post tt)
curve_at_once a r s x y = by_equation

pub pressure_on_once : OneAnswer Worked (pressure_on.Post tt)
pressure_on_once a r s x y = by_equation

pub state_on_once : OneAnswer Stated (state_on.Post tt)
state_on_once a r s x y = by_equation

pub conductivity_at_once : OneAnswer Worked (conductivity_at.Post tt)
conductivity_at_once a r s x y = by_equation
