-- δ, the first sum and Table 3's formula are worked in plain f64 and tested, each once. Assumes nothing.
use mathlib.Core.Path.{◌≡◌, refl, sym, ◌∙◌}
use Rattle.num_formulas.specs.Formula.{work}
use Rattle.num_formulas.proofs.Tests.{tested}
use Rattle.eos_constants.specs.Reduced.{delta}
use Rattle.eos_pressure.specs.Pressure.{pressure_on}
use Rattle.eos_pressure.proofs.pressure_on.Goals as goal
use Rattle.eos_pressure.proofs.pressure_on.Goals.{After-checked}

delta_is : (c : After-checked) → work (delta c.args.rho) ≡ c.checked.result
delta_is c = tested _ _ _ c.delta_at.ensures c.checked.ensures

pub returns-in_err-delta : goal.returns-in_err-delta
unfolding pressure_on
returns-in_err-delta c = c.from_residual.ensures ∙ rw (delta_is (goal.at.returns-in_err-delta c).After-checked ∙ c.in_err-delta.was) refl

pub returns-in_err-a : goal.returns-in_err-a
unfolding pressure_on
returns-in_err-a c =
    c.from_residual-in_err-a.ensures
    ∙ rw (delta_is (goal.at.returns-in_err-a c).After-checked ∙ c.in_ok-delta.was, sym c.slope_at.ensures ∙ c.in_err-a.was) refl

pub returns : goal.returns
unfolding pressure_on
returns c =
    rw (delta_is (goal.at.returns c).After-checked ∙ c.in_ok-delta.was, sym c.slope_at.ensures ∙ c.in_ok-a.was)
    (sym (tested _ _ _ c.pressure_of.ensures c.checked-2.ensures))
