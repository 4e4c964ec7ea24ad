-- What the saturated densities share: a density from its sum, which was worked in plain f64, of a θ that was tested on the way. Assumes nothing.
use mathlib.Core.Path.{◌≡◌, ap, ◌∙◌}
use lib.Ieee.{Float}
use Rattle.num_working.specs.Working.{plain}
use Rattle.num_formulas.specs.Formula.{Formula, num, value, work}
use Rattle.num_formulas.proofs.Formulas.{once}
use Rattle.eos_saturation.specs.Saturation.{theta}
use Rattle.eos_saturation.proofs.Theta.{tested}
use Rattle.eos_densities.specs.Density.{liquid_sum, vapour_sum, density_of}

by_sum : (a b : Formula) → work a ≡ work b → density_of a ≡ density_of b
unfolding density_of work
by_sum a b h = rw h

-- a sum in which θ is worked first
abbrev pub OfTheta : (Formula → Formula) → Type 0
OfTheta sum = (a b : Formula) → work a ≡ work b → work (sum a) ≡ work (sum b)

pub liquid_of_theta : OfTheta liquid_sum
unfolding liquid_sum work
liquid_of_theta a b h = rw h

pub vapour_of_theta : OfTheta vapour_sum
unfolding vapour_sum work
vapour_of_theta a b h = rw h

pub density_from : (sum : Formula → Formula) → OfTheta sum →
    (t : Float) {x : Float} → x ≡ value (sum (num (plain (work (theta t))))) → density_of (num x) ≡ density_of (sum (theta t))
unfolding work
density_from sum of t h =
    let θ = num (plain (work (theta t))) in
    ap (λ (y : Float). density_of (num y)) h ∙ by_sum (num (value (sum θ))) (sum (theta t)) (once (sum θ) ∙ of θ (theta t) (tested t))
