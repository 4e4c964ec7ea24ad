-- A density is compared with 750. Assumes nothing.
use mathlib.Core.Path.{refl}
use lib.Ieee.{of_bits, of_int}
use Rattle.num_working.specs.Number.{whole}
use Rattle.desk_look.proofs.held.is_heavy.Goals as goal

pub returns-in-Mass : goal.returns-in-Mass
unfolding whole of_bits of_int
returns-in-Mass c = rw c.in-Mass.is refl
