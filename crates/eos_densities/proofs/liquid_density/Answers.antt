-- A density from its sum. Assumes nothing.
use mathlib.Core.Path.{◌∙◌}
use Rattle.eos_densities.specs.Density.{liquid_sum, liquid_density}
use Rattle.eos_densities.proofs.Sums.{density_from, liquid_of_theta}
use Rattle.eos_densities.proofs.liquid_density.Goals as goal

pub returns : goal.returns
unfolding liquid_density
returns c =
    let t = c.args.t in
    let summed = simp (c.plain.ensures, c.theta_at.ensures) at c.liquid_sum.ensures in
    c.density_of.ensures ∙ density_from liquid_sum liquid_of_theta t summed
