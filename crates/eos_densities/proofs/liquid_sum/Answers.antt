-- Each part is what its function ensures, each literal the number as printed, and the sum the formula's, operation by operation. Assumes nothing.
use lib.Ieee.{neg, of_bits, round}
use Rattle.num_working.specs.Number.{fraction, decimal}
use Rattle.num_formulas.specs.Formula.{value}
use Rattle.eos_densities.specs.Density.{liquid_sum}
use Rattle.eos_densities.proofs.liquid_sum.Goals as goal

pub returns : goal.returns
unfolding liquid_sum value decimal fraction neg of_bits round
returns c =
    simp (
      c.to-4.ensures,
      c.to-3.ensures,
      c.worked_as-2.ensures,
      c.to-2.ensures,
      c.to.ensures,
      c.worked_as.ensures,
    )
