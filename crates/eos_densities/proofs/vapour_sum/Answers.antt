-- Each part is what its function ensures, each literal the number as printed, and the sum the formula's, operation by operation. Assumes nothing.
use lib.Ieee.{neg, of_bits, round}
use Rattle.num_working.specs.Number.{fraction, decimal}
use Rattle.num_formulas.specs.Formula.{value}
use Rattle.eos_densities.specs.Density.{vapour_sum}
use Rattle.eos_densities.proofs.vapour_sum.Goals as goal

pub returns : goal.returns
unfolding vapour_sum value decimal fraction neg of_bits round
returns c =
    simp (
      c.to-4.ensures,
      c.whole_power-2.ensures,
      c.to-3.ensures,
      c.whole_power.ensures,
      c.to-2.ensures,
      c.to.ensures,
      c.worked_as.ensures,
    )
