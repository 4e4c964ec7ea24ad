-- Each step is the definition's. Assumes nothing.
use mathlib.Core.Path.{◌≡◌, refl, sym, ap, ◌∙◌}
use Rattle.num_formulas.specs.Formula.{work}
use Rattle.num_formulas.proofs.Tests.{tested}
use Rattle.eos_constants.specs.Reduced.{delta}
use Rattle.eos_ideal.specs.Ideal.{ideal_part}
use Rattle.eos_ideal.specs.declared.Ideal.{Ideal}
use Rattle.eos_residual.specs.Sum.{residual_part, five_sums}
use Rattle.eos_residual.specs.declared.sum.Residual.{Residual}
use Rattle.eos_terms.specs.Fallen.{fallen_terms}
use Rattle.eos_state.specs.State.{state_ideal, state_on}
use Rattle.eos_state.proofs.state_on.Goals as goal
use Rattle.eos_state.proofs.state_on.Goals.{After-checked, After-residual_part-residual, After-ideal_part-ideal}

delta_is : (c : After-checked) → work (delta c.args.rho) ≡ c.checked.result
delta_is c = tested _ _ _ c.delta_at.ensures c.checked.ensures

sums_are : (c : After-residual_part-residual) → five_sums c.args.iso c.in_ok-delta.delta ≡ c.residual_part-residual.result.sums
unfolding residual_part
sums_are c = sym (ap (λ (r : Residual). r.sums) c.residual_part-residual.ensures)

count_is : (c : After-residual_part-residual) → c.residual_part-residual.result.fallen ≡ fallen_terms c.args.iso c.in_ok-delta.delta
unfolding residual_part
count_is c = ap (λ (r : Residual). r.fallen) c.residual_part-residual.ensures

first_is : (c : After-ideal_part-ideal) → (ideal_part c.args.iso.tau).first ≡ c.ideal_part-ideal.result.first
first_is c = sym (ap (λ (i : Ideal). i.first) c.ideal_part-ideal.ensures)

second_is : (c : After-ideal_part-ideal) → (ideal_part c.args.iso.tau).second ≡ c.ideal_part-ideal.result.second
second_is c = sym (ap (λ (i : Ideal). i.second) c.ideal_part-ideal.ensures)

pub returns-in_err-delta : goal.returns-in_err-delta
unfolding state_on
returns-in_err-delta c = c.from_residual.ensures ∙ rw (delta_is (goal.at.returns-in_err-delta c).After-checked ∙ c.in_err-delta.was) refl

pub returns-in_err-sums : goal.returns-in_err-sums
unfolding state_on
returns-in_err-sums c =
    let at = goal.at.returns-in_err-sums c in
    c.from_residual-in_err-sums.ensures
    ∙ rw (delta_is at.After-checked ∙ c.in_ok-delta.was, sums_are at.After-residual_part-residual ∙ c.in_err-sums.was) refl

pub returns-in_err-ideal : goal.returns-in_err-ideal
unfolding state_on state_ideal
returns-in_err-ideal c =
    let at = goal.at.returns-in_err-ideal c in
    c.from_residual-in_err-ideal.ensures
    ∙ rw (
      delta_is at.After-checked ∙ c.in_ok-delta.was,
      sums_are at.After-residual_part-residual ∙ c.in_ok-sums.was,
      first_is at.After-ideal_part-ideal ∙ c.in_err-ideal.was,
    ) refl

pub returns-in_err-ideal-2 : goal.returns-in_err-ideal-2
unfolding state_on state_ideal
returns-in_err-ideal-2 c =
    let at = goal.at.returns-in_err-ideal-2 c in
    c.from_residual-in_err-ideal-2.ensures
    ∙ rw (
      delta_is at.After-checked ∙ c.in_ok-delta.was,
      sums_are at.After-residual_part-residual ∙ c.in_ok-sums.was,
      first_is at.After-ideal_part-ideal ∙ c.in_ok-ideal.was,
      second_is at.After-ideal_part-ideal ∙ c.in_err-ideal-2.was,
    ) refl

pub returns : goal.returns
unfolding state_on state_ideal
returns c =
    let at = goal.at.returns c in
    c.state.ensures
    ∙ rw (
      delta_is at.After-checked ∙ c.in_ok-delta.was,
      sums_are at.After-residual_part-residual ∙ c.in_ok-sums.was,
      first_is at.After-ideal_part-ideal ∙ c.in_ok-ideal.was,
      second_is at.After-ideal_part-ideal ∙ c.in_ok-ideal-2.was,
      count_is at.After-residual_part-residual,
    ) refl
