-- One difference, and its range. Assumes nothing.
use mathlib.Core.Path.{refl}
use lib.Ieee.{of_bits, of_int, neg}
use Rattle.num_working.specs.Number.{whole}
use Rattle.desk_look.specs.Gauge.{near}
use Rattle.desk_look.proofs.gauge.is_near.Goals as goal

pub returns : goal.returns
unfolding near whole of_bits of_int neg
returns c = rw c.is_outside.ensures refl
