-- Each part is what its function ensures, each literal the number as printed, and the sum the formula's, operation by operation. Assumes nothing.
use lib.Ieee.{neg, of_bits, round}
use Rattle.num_working.specs.Number.{fraction, decimal}
use Rattle.num_formulas.specs.Formula.{value}
use Rattle.eos_saturation.specs.Saturation.{pressure_sum}
use Rattle.eos_saturation.proofs.pressure_sum.Goals as goal

pub returns : goal.returns
unfolding pressure_sum value decimal fraction neg of_bits round
returns c =
    simp (
      c.whole_power-2.ensures,
      c.whole_power.ensures,
      c.plain.ensures,
      c.root.ensures,
    )
