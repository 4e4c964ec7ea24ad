-- The formula, operation by operation. Assumes nothing.
use mathlib.Core.Path.{refl}
use lib.Ieee.{of_bits, of_int, round, div}
use Rattle.num_working.specs.Number.{fraction, whole}
use Rattle.num_formulas.specs.Formula.{value}
use Rattle.eos_non_analytic.specs.Figures.{brackets_by}
use Rattle.eos_non_analytic.proofs.figures.Placed.first_bracket.Goals as goal

pub returns : goal.returns
unfolding brackets_by value fraction whole of_bits of_int round div
returns c = rw c.m.ensures refl
