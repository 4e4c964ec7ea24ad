-- By m and P₂ as they are worked. Assumes nothing.
use mathlib.Core.Path.{refl}
use Rattle.num_formulas.specs.Formula.{value}
use Rattle.eos_non_analytic.specs.Figures.{brackets_by}
use Rattle.eos_non_analytic.proofs.figures.Placed.brackets.Goals as goal

pub returns : goal.returns
unfolding brackets_by value
returns c = rw (c.brackets_by.ensures, c.over-p2.ensures, c.m.ensures) refl
