-- Each return is the arm of the definition that the tests before it lead to. Assumes nothing.
use mathlib.Core.Path.{◌≡◌, sym, ap, ◌∙◌}
use lib.Ieee.{of_bits, of_int}
use Rattle.num_working.specs.Working.{Worked, checked, ◌/ᵂ◌}
use Rattle.num_working.specs.Number.{whole}
use Rattle.num_exponential.specs.Exponential.{steps}
use Rattle.num_exponential.proofs.exponential.steps.Goals as goal
use Rattle.num_exponential.proofs.exponential.steps.Goals.{After-falling-2}

-- past the tests: 1 divided by the exponential of −x
rising : (c : After-falling-2) → steps c.args.x ≡ checked (whole 1) /ᵂ c.falling-2.result
unfolding steps of_bits of_int whole
rising c =
    let f = sym c.is_finite.ensures ∙ c.if-not-is_finite.false in
    simp (steps, f, c.if-x.false, c.if-x-2.false, c.if-x-3.false, c.falling-2.ensures)

pub returns-then-not-is_finite : goal.returns-then-not-is_finite
unfolding steps
returns-then-not-is_finite c = simp (steps, sym c.is_finite.ensures ∙ c.if-not-is_finite.true)

pub returns-then-x : goal.returns-then-x
unfolding steps of_bits of_int whole
returns-then-x c = simp (steps, sym c.is_finite.ensures ∙ c.if-not-is_finite.false, c.if-x.true)

pub returns-then-x-2 : goal.returns-then-x-2
unfolding steps of_bits of_int whole
returns-then-x-2 c = simp (steps, sym c.is_finite.ensures ∙ c.if-not-is_finite.false, c.if-x.false, c.if-x-2.true)

pub returns-then-x-3 : goal.returns-then-x-3
unfolding steps of_bits of_int whole
returns-then-x-3 c =
    let f = sym c.is_finite.ensures ∙ c.if-not-is_finite.false in
    c.falling.ensures ∙ simp (steps, f, c.if-x.false, c.if-x-2.false, c.if-x-3.true)

pub returns-in_err-e : goal.returns-in_err-e
unfolding ◌/ᵂ◌ of_int whole
returns-in_err-e c =
    c.from_residual.ensures ∙ sym (rising (goal.at.returns-in_err-e c).After-falling-2 ∙ ap (λ (w : Worked). checked (whole 1) /ᵂ w) c.in_err-e.was)

pub returns : goal.returns
unfolding ◌/ᵂ◌ of_bits of_int whole
returns c =
    c.checked.ensures ∙ sym (rising (goal.at.returns c).After-falling-2 ∙ ap (λ (w : Worked). checked (whole 1) /ᵂ w) c.in_ok-e.was)
