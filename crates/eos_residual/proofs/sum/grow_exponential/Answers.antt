-- The brackets that were worked: of the first sum alone the first. Assumes nothing.
use mathlib.Core.Path.{refl}
use Rattle.num_formulas.specs.Formula.{value}
use Rattle.eos_brackets.specs.Bracket.{exponential}
use Rattle.eos_residual.proofs.sum.grow_exponential.Goals as goal

pub returns-then-this-ne0 : goal.returns-then-this-ne0
unfolding exponential value
returns-then-this-ne0 g c = rw (c.grow.ensures, c.exponential_brackets.ensures, c.in_quarters-t.ensures) refl

pub returns-else-this-ne0 : goal.returns-else-this-ne0
unfolding exponential value
returns-else-this-ne0 g c = rw (c.grow_first.ensures, c.first_bracket.ensures, c.if-this-ne0.false) refl
