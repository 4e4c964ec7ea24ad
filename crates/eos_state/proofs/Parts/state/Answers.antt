-- Each number is its formula in plain f64, tested: the first that fails is the answer. Assumes nothing.
use mathlib.Core.Path.{refl, sym, ◌∙◌}
use native.Mathlib.Omega.{arith}
use Rattle.num_working.proofs.Workings.{checked_number}
use Rattle.num_formulas.proofs.Tests.{tested}
use Rattle.eos_state.specs.State.{state_of}
use Rattle.eos_state.proofs.Parts.state.Goals as goal

pub returns-in_err-checked : goal.returns-in_err-checked
unfolding state_of
returns-in_err-checked c =
    c.from_residual.ensures
    ∙ rw (tested _ _ _ c.pressure.ensures c.checked.ensures ∙ c.in_err-checked.was) refl

pub returns-in_err-checked-2 : goal.returns-in_err-checked-2
unfolding state_of
returns-in_err-checked-2 c =
    c.from_residual-in_err-checked-2.ensures
    ∙ rw (
      tested _ _ _ c.pressure.ensures c.checked.ensures ∙ c.in_ok-checked.was,
      tested _ _ _ c.energy.ensures c.checked-2.ensures ∙ c.in_err-checked-2.was,
    ) refl

pub returns-in_err-checked-3 : goal.returns-in_err-checked-3
unfolding state_of
returns-in_err-checked-3 c =
    c.from_residual-in_err-checked-3.ensures
    ∙ rw (
      tested _ _ _ c.pressure.ensures c.checked.ensures ∙ c.in_ok-checked.was,
      tested _ _ _ c.energy.ensures c.checked-2.ensures ∙ c.in_ok-checked-2.was,
      tested _ _ _ c.enthalpy.ensures c.checked-3.ensures ∙ c.in_err-checked-3.was,
    ) refl

pub returns-in_err-checked-4 : goal.returns-in_err-checked-4
unfolding state_of
returns-in_err-checked-4 c =
    c.from_residual-in_err-checked-4.ensures
    ∙ rw (
      tested _ _ _ c.pressure.ensures c.checked.ensures ∙ c.in_ok-checked.was,
      tested _ _ _ c.energy.ensures c.checked-2.ensures ∙ c.in_ok-checked-2.was,
      tested _ _ _ c.enthalpy.ensures c.checked-3.ensures ∙ c.in_ok-checked-3.was,
      tested _ _ _ c.heat_v.ensures c.checked-4.ensures ∙ c.in_err-checked-4.was,
    ) refl

pub returns-in_err-checked-5 : goal.returns-in_err-checked-5
unfolding state_of
returns-in_err-checked-5 c =
    c.from_residual-in_err-checked-5.ensures
    ∙ rw (
      tested _ _ _ c.pressure.ensures c.checked.ensures ∙ c.in_ok-checked.was,
      tested _ _ _ c.energy.ensures c.checked-2.ensures ∙ c.in_ok-checked-2.was,
      tested _ _ _ c.enthalpy.ensures c.checked-3.ensures ∙ c.in_ok-checked-3.was,
      tested _ _ _ c.heat_v.ensures c.checked-4.ensures ∙ c.in_ok-checked-4.was,
      tested _ _ _ c.heat_p.ensures c.checked-5.ensures ∙ c.in_err-checked-5.was,
    ) refl

pub returns-in_err-checked-6 : goal.returns-in_err-checked-6
unfolding state_of
returns-in_err-checked-6 c =
    c.from_residual-in_err-checked-6.ensures
    ∙ rw (
      tested _ _ _ c.pressure.ensures c.checked.ensures ∙ c.in_ok-checked.was,
      tested _ _ _ c.energy.ensures c.checked-2.ensures ∙ c.in_ok-checked-2.was,
      tested _ _ _ c.enthalpy.ensures c.checked-3.ensures ∙ c.in_ok-checked-3.was,
      tested _ _ _ c.heat_v.ensures c.checked-4.ensures ∙ c.in_ok-checked-4.was,
      tested _ _ _ c.heat_p.ensures c.checked-5.ensures ∙ c.in_ok-checked-5.was,
      tested _ _ _ c.sound_speed.ensures c.checked-6.ensures ∙ c.in_err-checked-6.was,
    ) refl

pub returns : goal.returns
unfolding state_of
returns c =
    rw (
      tested _ _ _ c.pressure.ensures c.checked.ensures ∙ c.in_ok-checked.was,
      tested _ _ _ c.energy.ensures c.checked-2.ensures ∙ c.in_ok-checked-2.was,
      tested _ _ _ c.enthalpy.ensures c.checked-3.ensures ∙ c.in_ok-checked-3.was,
      tested _ _ _ c.heat_v.ensures c.checked-4.ensures ∙ c.in_ok-checked-4.was,
      tested _ _ _ c.heat_p.ensures c.checked-5.ensures ∙ c.in_ok-checked-5.was,
      tested _ _ _ c.sound_speed.ensures c.checked-6.ensures ∙ c.in_ok-checked-6.was,
      -- the enthalpy that passed its test is the one that was tested
      sym (checked_number _ _ (sym c.checked-3.ensures ∙ c.in_ok-checked-3.was)).0,
      c.enthalpy.ensures,
    ) (grind arith)
