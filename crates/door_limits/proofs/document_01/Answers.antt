-- Each number is the definition's, by computation. Assumes nothing.
use mathlib.Core.Path.{refl}
use lib.Ieee.{of_bits, of_int, round}
use Rattle.num_working.specs.Number.{decimal, fraction, whole}
use Rattle.door_limits.specs.Limits.{document01}
use Rattle.door_limits.proofs.document_01.Goals as goal

pub returns : goal.returns
unfolding document01 decimal fraction whole of_bits of_int round
returns c = refl
