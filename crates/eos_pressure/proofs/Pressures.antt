-- A pressure that was worked is finite; and what fails with the temperature. Assumes nothing.
use Rattle.std.specs.Prelude.{Some, None}
use mathlib.Core.Path.{◌≡◌, refl, subst}
use mathlib.Core.Bool.{true}
use lib.Dec.{T}
use lib.Ieee.{Float}
use lib.Ieee.Bits.{is_true}
use lib.Ieee.Scale.{finite}
use Rattle.num_working.specs.Working.{Worked}
use Rattle.num_working.proofs.Cases.{by_working}
use Rattle.num_formulas.specs.Formula.{work}
use Rattle.num_working.proofs.Sound.{sound}
use Rattle.num_formulas.proofs.Formulas.{work_sound}
use Rattle.eos_constants.specs.Reduced.{delta}
use Rattle.eos_brackets.specs.Derivative.{Delta}
use Rattle.eos_isotherm.specs.Isotherm.{quarter_of, isotherm}
use Rattle.eos_isotherm.specs.declared.Isotherm.{Isotherm}
use Rattle.eos_residual.specs.Sum.{residual}
use Rattle.eos_residual.proofs.Failures.{failed_with_temperature}
use Rattle.eos_pressure.specs.Pressure.{pressure_formula, pressure_on}

abbrev Sound : Worked → Type 0
Sound w = T (sound w)

pressure_sound : (t : Float) (iso : Isotherm) (rho : Float) → Sound (pressure_on t iso rho)
unfolding pressure_on
pressure_sound t iso rho =
    by_working Sound (work (delta rho)) _ _ (λ _. tt)
    (λ d _. by_working Sound (residual iso d Delta) _ _ (λ _. tt) (λ a _. work_sound (pressure_formula t rho a)))

pub pressure_finite : (t : Float) (iso : Isotherm) (rho x : Float) → pressure_on t iso rho ≡ Some x → finite x ≡ true
pressure_finite t iso rho x e = is_true (finite x) (subst Sound e (pressure_sound t iso rho))

-- where τ or its quarter root fails there is no pressure
pub no_pressure : (t rho : Float) → work (quarter_of t) ≡ None → pressure_on t (isotherm t) rho ≡ None
unfolding pressure_on
no_pressure t rho e =
    by_working (λ w. w ≡ None) (work (delta rho)) _ _ (λ _. refl) (λ d _. rw (failed_with_temperature t d Delta e) refl)
