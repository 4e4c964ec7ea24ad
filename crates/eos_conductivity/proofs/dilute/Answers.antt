-- The formula, operation by operation, each literal the number as printed. Assumes nothing.
use mathlib.Core.Path.{refl}
use lib.Ieee.{neg, of_bits, round}
use Rattle.num_working.specs.Number.{fraction, decimal}
use Rattle.num_powers.specs.Power.{power}
use Rattle.num_formulas.specs.Formula.{value}
use Rattle.eos_conductivity.specs.Conductivity as conductivity
use Rattle.eos_conductivity.proofs.dilute.Goals as goal

pub returns : goal.returns
unfolding conductivity.dilute value power decimal fraction neg of_bits round
returns c =
    rw (
      c.over-4.ensures,
      c.plain.ensures,
      c.root.ensures,
      c.over-3.ensures,
      c.over-2.ensures,
      c.over.ensures,
    ) refl
