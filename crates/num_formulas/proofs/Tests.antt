-- A formula that code works in plain f64 and tests once is the formula worked. Assumes nothing.
use mathlib.Core.Path.{◌≡◌, sym, ap, ◌∙◌}
use lib.Ieee.{Float}
use Rattle.num_working.specs.Working.{checked, Worked}
use Rattle.num_formulas.specs.Formula.{Formula, value, work}
use Rattle.num_formulas.proofs.Formulas.{once}

pub tested : (e : Formula) (x : Float) (w : Worked) → x ≡ value e → w ≡ checked x → work e ≡ w
tested e x w v t = sym (t ∙ ap checked v ∙ once e)
