-- Table 3's formula, operation by operation. Assumes nothing.
use mathlib.Core.Path.{refl}
use lib.Ieee.{of_bits, of_int}
use Rattle.num_working.specs.Number.{whole}
use Rattle.num_formulas.specs.Formula.{value}
use Rattle.eos_state.proofs.Parts.heat_p.Goals as goal

pub returns : goal.returns
unfolding value of_bits of_int whole
returns c = rw (c.over.ensures, c.k.ensures, c.z.ensures, c.g-g.ensures, c.span_wagner.ensures) refl
