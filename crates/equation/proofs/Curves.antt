-- On the curve of a temperature stand the equation's pressure and state there; and a pressure that was worked is finite. Assumes nothing.
use Rattle.std.specs.Prelude.{Some}
use mathlib.Core.Path.{◌≡◌, refl}
use mathlib.Core.Bool.{true}
use lib.Ieee.{Float}
use lib.Ieee.Scale.{finite}
use Rattle.eos_pressure.proofs.Pressures as pressures
use Rattle.equation.specs.declared.Curve.{Curve}
use Rattle.equation.specs.Equation.{of1996, curve, pressure_on, state_on}

pub on_curve : (t : Float) → pressure_on (curve t) ≡ of1996.pressure t
unfolding of1996
on_curve t = refl

pub state_on_curve : (t : Float) → state_on (curve t) ≡ of1996.state t
unfolding of1996
state_on_curve t = refl

pub pressure_finite : (c : Curve) (rho x : Float) → pressure_on c rho ≡ Some x → finite x ≡ true
unfolding pressure_on
pressure_finite c rho x e = pressures.pressure_finite c.t c.isotherm rho x e
