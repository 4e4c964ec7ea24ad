-- Each number is worked as the definition has it. Assumes nothing.
use mathlib.Core.Path.{refl}
use lib.Ieee.{of_bits, of_int}
use Rattle.num_working.specs.Number.{whole}
use Rattle.num_formulas.specs.Formula.{value}
use Rattle.eos_non_analytic.proofs.parts.near_critical.Goals as goal

pub returns : goal.returns
unfolding value whole of_bits of_int
returns c = rw (c.two_roots-roots.ensures, c.worked_as.ensures) refl
