-- The term, and the brackets that were worked: of the first sum alone the first. Assumes nothing.
use mathlib.Core.Path.{refl}
use Rattle.num_formulas.specs.Formula.{value}
use Rattle.eos_non_analytic.proofs.figures.add.Goals as goal

pub returns-then-this-ne0 : goal.returns-then-this-ne0
unfolding value
returns-then-this-ne0 g c = rw (c.grow.ensures, c.brackets.ensures) refl

pub returns-else-this-ne0 : goal.returns-else-this-ne0
unfolding value
returns-else-this-ne0 g c = rw (c.grow_first.ensures, c.first_bracket.ensures, c.if-this-ne0.false) refl
