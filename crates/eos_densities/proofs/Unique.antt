-- No second answer meets a public function's promise. Assumes nothing.
use Rattle.num_working.specs.Working.{Worked}
use Rattle.num_working.proofs.Unique.{OneAnswer, by_equation}
use Rattle.eos_densities.proofs.liquid_density.Reads as liquid_density
use Rattle.eos_densities.proofs.vapour_density.Reads as vapour_density

pub liquid_density_once : OneAnswer Worked (liquid_density.Post tt)
liquid_density_once a r s x y = by_equation

pub vapour_density_once : OneAnswer Worked (vapour_density.Post tt)
vapour_density_once a r s x y = by_equation
