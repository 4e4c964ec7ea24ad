-- What a door (RULES 5) needs of an equation of state, and the one of 1996. Definitions only.
use Rattle.std.specs.Prelude.{ℕ, ◌≡◌, T, Float, Some}
use Rattle.num_working.specs.Number.{nonneg}
use Rattle.num_working.specs.Working.{Worked}
use Rattle.eos_constants.specs.Constant.{span_wagner}
use Rattle.eos_saturation.specs.Saturation as saturation
use Rattle.eos_densities.specs.Density as density
use Rattle.eos_melting.specs.Melting as melting
use Rattle.eos_isotherm.specs.Isotherm.{isotherm}
use Rattle.eos_terms.specs.Fallen.{fallen_at}
use Rattle.eos_pressure.specs.Pressure as pressure
use Rattle.eos_state.specs.State as state
use Rattle.eos_state.specs.State.{eight, Stated}
use Rattle.eos_state.specs.declared.Phase.{Phase}
use Rattle.eos_state.specs.declared.State.{State}
use Rattle.eos_conductivity.specs.Conductivity.{conductivity_at}
use Rattle.equation.specs.declared.Curve.{Curve}

pub record Equation : Type 0 where
  pub critical : Float
  -- at a temperature
  pub vapour_pressure : Float → Worked
  pub vapour_density : Float → Worked
  pub liquid_density : Float → Worked
  pub melting_pressure : Float → Worked
  -- at a temperature and a density
  pub pressure : Float → Float → Worked
  pub state : Float → Phase → Float → Stated
  pub fallen : Float → Float → ℕ
  pub conductivity : Float → Float → Worked

-- ---- 1996

-- the temperature with what hangs on it, and what is worked of these at a density
unfoldable pub curve : Float → Curve
curve t = record { t = t; isotherm = isotherm t }

unfoldable pub pressure_on : Curve → Float → Worked
pressure_on c = pressure.pressure_on c.t c.isotherm

unfoldable pub state_on : Curve → Phase → Float → Stated
state_on c = state.state_on c.t c.isotherm

unfoldable pub of1996 : Equation
of1996 = record {
  critical = span_wagner.temperature;
  vapour_pressure = saturation.vapour_pressure;
  vapour_density = density.vapour_density;
  liquid_density = density.liquid_density;
  melting_pressure = melting.melting_pressure;
  pressure = λ t. pressure_on (curve t);
  state = λ t. state_on (curve t);
  fallen = fallen_at;
  conductivity = conductivity_at;
}

-- ---- what the doors' theorems take of an equation: its saturated densities have no minus sign; a state is at the temperature and density and of the phase
-- asked for, its pressure is the one worked there, its count that of the terms that fell away there, and, as RULES 5.3 needs it, its eight numbers don't hang
-- on the phase
pub record Lawful (E : Equation) : Type 0 where
  pub vapour : (t d : Float) → E.vapour_density t ≡ Some d → T (nonneg d)
  pub liquid : (t d : Float) → E.liquid_density t ≡ Some d → T (nonneg d)
  pub temperature : (t : Float) (phase : Phase) (rho : Float) (x : State) → E.state t phase rho ≡ Some x → x.t ≡ t
  pub pressure : (t : Float) (phase : Phase) (rho : Float) (x : State) → E.state t phase rho ≡ Some x → E.pressure t rho ≡ Some x.p
  pub density : (t : Float) (phase : Phase) (rho : Float) (x : State) → E.state t phase rho ≡ Some x → x.rho ≡ rho
  pub phase : (t : Float) (phase : Phase) (rho : Float) (x : State) → E.state t phase rho ≡ Some x → x.phase ≡ phase
  pub fallen : (t : Float) (phase : Phase) (rho : Float) (x : State) → E.state t phase rho ≡ Some x → x.fallen ≡ E.fallen t rho
  pub same : (t : Float) (phase other : Phase) (rho : Float) (x y : State) → E.state t phase rho ≡ Some x → E.state t other rho ≡ Some y → eight y ≡ eight x
