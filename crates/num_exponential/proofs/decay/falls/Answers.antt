-- Finite, and below −36. Assumes nothing.
use mathlib.Core.Path.{sym, ◌∙◌}
use lib.Ieee.{of_bits, of_int}
use Rattle.num_working.specs.Number.{whole}
use Rattle.num_exponential.proofs.Falls.{says, says_nothing}
use Rattle.num_exponential.proofs.decay.falls.Goals as goal

pub returns-then-is_finite : goal.returns-then-is_finite
unfolding of_bits of_int whole
returns-then-is_finite c = sym (says c.args.x (sym c.is_finite.ensures ∙ c.if-is_finite.true))

pub returns-else-is_finite : goal.returns-else-is_finite
returns-else-is_finite c = sym (says_nothing c.args.x (sym c.is_finite.ensures ∙ c.if-is_finite.false))
