-- Each number is the definition's, by computation. Assumes nothing.
use mathlib.Core.Path.{refl}
use lib.Ieee.{of_bits, of_int, round}
use Rattle.num_working.specs.Number.{decimal, fraction, whole}
use Rattle.door_limits.specs.Limits.{search_ends}
use Rattle.door_limits.proofs.search_ends.Goals as goal

pub returns : goal.returns
unfolding search_ends decimal fraction whole of_bits of_int round
returns c = refl
