-- θ that was tested on the way, as a number in a formula, is worked as θ. Assumes nothing.
use mathlib.Core.Path.{◌≡◌}
use lib.Ieee.{Float}
use Rattle.num_working.specs.Working.{plain}
use Rattle.num_formulas.specs.Formula.{num, work}
use Rattle.num_working.proofs.Sound.{checked_plain}
use Rattle.num_formulas.proofs.Formulas.{work_sound}
use Rattle.eos_saturation.specs.Saturation.{theta}

pub tested : (t : Float) → work (num (plain (work (theta t)))) ≡ work (theta t)
unfolding work
tested t = checked_plain (work (theta t)) (work_sound (theta t))
