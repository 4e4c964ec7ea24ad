-- A density from its sum. Assumes nothing.
use mathlib.Core.Path.{◌∙◌}
use Rattle.eos_densities.specs.Density.{vapour_sum, vapour_density}
use Rattle.eos_densities.proofs.Sums.{density_from, vapour_of_theta}
use Rattle.eos_densities.proofs.vapour_density.Goals as goal

pub returns : goal.returns
unfolding vapour_density
returns c =
    let t = c.args.t in
    let summed = simp (c.plain.ensures, c.theta_at.ensures) at c.vapour_sum.ensures in
    c.density_of.ensures ∙ density_from vapour_sum vapour_of_theta t summed
