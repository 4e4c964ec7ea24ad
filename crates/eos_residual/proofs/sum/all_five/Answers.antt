-- The five in turn, each tested: the first that fails is the answer. Assumes nothing.
use mathlib.Core.Path.{refl, sym, ◌∙◌}
use Rattle.num_working.proofs.Workings.{checked_number}
use Rattle.eos_residual.specs.Sum.{all_five}
use Rattle.eos_residual.proofs.sum.all_five.Goals as goal

pub returns-in_err-checked : goal.returns-in_err-checked
unfolding all_five
returns-in_err-checked c =
    c.from_residual.ensures
    ∙ rw (sym c.checked.ensures ∙ c.in_err-checked.was) refl

pub returns-in_err-checked-2 : goal.returns-in_err-checked-2
unfolding all_five
returns-in_err-checked-2 c =
    c.from_residual-in_err-checked-2.ensures
    ∙ rw (
      sym c.checked.ensures ∙ c.in_ok-checked.was,
      sym c.checked-2.ensures ∙ c.in_err-checked-2.was,
    ) refl

pub returns-in_err-checked-3 : goal.returns-in_err-checked-3
unfolding all_five
returns-in_err-checked-3 c =
    c.from_residual-in_err-checked-3.ensures
    ∙ rw (
      sym c.checked.ensures ∙ c.in_ok-checked.was,
      sym c.checked-2.ensures ∙ c.in_ok-checked-2.was,
      sym c.checked-3.ensures ∙ c.in_err-checked-3.was,
    ) refl

pub returns-in_err-checked-4 : goal.returns-in_err-checked-4
unfolding all_five
returns-in_err-checked-4 c =
    c.from_residual-in_err-checked-4.ensures
    ∙ rw (
      sym c.checked.ensures ∙ c.in_ok-checked.was,
      sym c.checked-2.ensures ∙ c.in_ok-checked-2.was,
      sym c.checked-3.ensures ∙ c.in_ok-checked-3.was,
      sym c.checked-4.ensures ∙ c.in_err-checked-4.was,
    ) refl

pub returns-in_err-checked-5 : goal.returns-in_err-checked-5
unfolding all_five
returns-in_err-checked-5 c =
    c.from_residual-in_err-checked-5.ensures
    ∙ rw (
      sym c.checked.ensures ∙ c.in_ok-checked.was,
      sym c.checked-2.ensures ∙ c.in_ok-checked-2.was,
      sym c.checked-3.ensures ∙ c.in_ok-checked-3.was,
      sym c.checked-4.ensures ∙ c.in_ok-checked-4.was,
      sym c.checked-5.ensures ∙ c.in_err-checked-5.was,
    ) refl

pub returns : goal.returns
unfolding all_five
returns c =
    let d = sym c.checked.ensures ∙ c.in_ok-checked.was in
    let dd = sym c.checked-2.ensures ∙ c.in_ok-checked-2.was in
    let t = sym c.checked-3.ensures ∙ c.in_ok-checked-3.was in
    let tt = sym c.checked-4.ensures ∙ c.in_ok-checked-4.was in
    let dt = sym c.checked-5.ensures ∙ c.in_ok-checked-5.was in
    -- what passed its test is the number that was tested
    rw (
      d,
      dd,
      t,
      tt,
      dt,
      sym (checked_number _ _ d).0,
      sym (checked_number _ _ dd).0,
      sym (checked_number _ _ t).0,
      sym (checked_number _ _ tt).0,
      sym (checked_number _ _ dt).0,
    ) refl
