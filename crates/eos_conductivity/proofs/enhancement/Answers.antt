-- The formula, operation by operation, each literal the number as printed. Assumes nothing.
use mathlib.Core.Path.{refl}
use lib.Ieee.{neg, of_bits, round}
use Rattle.num_working.specs.Number.{fraction, decimal}
use Rattle.num_formulas.specs.Formula.{value}
use Rattle.eos_conductivity.specs.Conductivity as conductivity
use Rattle.eos_conductivity.proofs.enhancement.Goals as goal

pub returns : goal.returns
unfolding conductivity.enhancement value decimal fraction neg of_bits round
returns c =
    rw (
      c.over.ensures,
      c.plain-e.ensures,
      c.answer_alone.ensures,
      c.exponential.ensures,
      c.exponent.ensures,
    ) refl
