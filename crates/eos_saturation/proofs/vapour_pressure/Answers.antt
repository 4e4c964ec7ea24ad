-- One test at the end stands for all, and a θ that was tested on the way is θ. Assumes nothing.
use mathlib.Core.Path.{◌≡◌, ◌∙◌}
use Rattle.num_working.specs.Working.{plain}
use Rattle.num_formulas.specs.Formula.{Formula, num, ◌⊗◌, e^, value, work}
use Rattle.num_formulas.proofs.Formulas.{once}
use Rattle.eos_constants.specs.Constant.{span_wagner}
use Rattle.eos_constants.specs.Reduced.{tau}
use Rattle.eos_saturation.specs.Saturation.{theta, pressure_sum, vapour_pressure}
use Rattle.eos_saturation.proofs.Theta.{tested}
use Rattle.eos_saturation.proofs.vapour_pressure.Goals as goal

-- eq. (3.13), of any τ and θ
abbrev pressure : Formula → Formula → Formula
pressure τ θ = num span_wagner.pressure ⊗ e^ (τ ⊗ pressure_sum θ)

by_theta : (τ θ φ : Formula) → work θ ≡ work φ → work (pressure τ θ) ≡ work (pressure τ φ)
unfolding pressure_sum work
by_theta τ θ φ h = rw h

pub returns : goal.returns
unfolding vapour_pressure value
returns c =
    let t = c.args.t in
    let θ = num (plain (work (theta t))) in
    let worked = simp (
      c.plain-2.ensures,
      c.answer_alone.ensures,
      c.exponential.ensures,
      c.tau_at.ensures,
      c.span_wagner.ensures,
      c.pressure_sum-sum.ensures,
      c.plain.ensures,
      c.theta_at.ensures,
    ) at c.checked.ensures in
    worked ∙ once (pressure (tau t) θ) ∙ by_theta (tau t) θ (theta t) (tested t)
