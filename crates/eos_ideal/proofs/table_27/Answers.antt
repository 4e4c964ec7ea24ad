-- The literals are the numbers as printed: by computation. Assumes nothing.
use mathlib.Core.Path.{refl}
use lib.Ieee.{neg, of_bits, round}
use Rattle.num_working.specs.Number.{fraction, decimal}
use Rattle.eos_ideal.specs.Ideal.{table27}
use Rattle.eos_ideal.proofs.table_27.Goals as goal

pub returns : goal.returns
unfolding table27 decimal fraction neg of_bits round
returns c = refl
