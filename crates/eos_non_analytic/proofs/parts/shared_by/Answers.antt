-- The formulas, operation by operation; a power of X is seen by its value. Assumes nothing.
use mathlib.Core.Path.{◌≡◌, refl}
use mathlib.Core.Bool.{Bool, true, false}
use lib.Ieee.{of_bits, of_int}
use Rattle.num_working.specs.Number.{whole}
use Rattle.num_powers.specs.Power.{power}
use Rattle.num_formulas.specs.Formula.{Formula, num, ◌^^◌, value}
use Rattle.eos_non_analytic.specs.Parts.{raised}
use Rattle.eos_non_analytic.proofs.parts.shared_by.Goals as goal

seen : (half : Bool) (e y : Formula) → value (raised half (num (value e)) (num (value y))) ≡ value (raised half e y)
unfolding value
seen true e y = refl
seen false e y = refl

pub returns : goal.returns
unfolding value power whole of_bits of_int
returns c =
    let a = c.args in
    let e = num a.n.e in
    let X = num a.n.x in
    rw (
      c.raise-low.ensures,
      c.raise.ensures,
      seen a.row.half e (X ^^ 2),
      seen a.row.half e (X ^^ 3),
    ) refl
