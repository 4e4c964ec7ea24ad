-- Each arm is its formula. Assumes nothing.
use mathlib.Core.Path.{refl}
use Rattle.num_formulas.specs.Formula.{value}
use Rattle.eos_non_analytic.proofs.parts.raise.Goals as goal

pub returns-then-half : goal.returns-then-half
unfolding value
returns-then-half c = rw (c.size_of.ensures, c.if-half.true) refl

pub returns-else-half : goal.returns-else-half
unfolding value
returns-else-half c = rw c.if-half.false refl
