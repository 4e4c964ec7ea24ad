-- The literals are the numbers as printed: by computation. Assumes nothing.
use mathlib.Core.Path.{refl}
use lib.Ieee.{of_bits, of_int, round}
use Rattle.num_working.specs.Number.{fraction, decimal, whole}
use Rattle.eos_constants.specs.Constant.{span_wagner}
use Rattle.eos_constants.proofs.span_wagner.Goals as goal

pub returns : goal.returns
unfolding span_wagner decimal fraction whole of_bits of_int round
returns c = refl
