-- By what the steps came to, and the test of the argument. Assumes nothing.
use mathlib.Core.Path.{refl, ◌∙◌}
use lib.Ieee.{of_bits, of_int}
use Rattle.num_working.specs.Number.{whole}
use Rattle.num_exponential.specs.Exponential.{exponential}
use Rattle.num_exponential.proofs.exponential.exponential.Goals as goal

pub returns-in_err-value : goal.returns-in_err-value
unfolding exponential
returns-in_err-value c = c.from_residual.ensures ∙ rw (← c.steps.ensures, c.in_err-value.was) refl

pub returns : goal.returns
unfolding exponential of_bits of_int whole
returns c = rw (← c.steps.ensures, c.in_ok-value.was) refl
