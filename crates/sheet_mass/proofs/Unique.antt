-- No second answer meets a public function's promise. Assumes nothing.
use Rattle.num_working.proofs.Unique.{OneAnswer, by_equation}
use Rattle.sheet_mass.specs.Mass.{Scaled}
use Rattle.sheet_mass.proofs.from_scale.Reads as from_scale

pub from_scale_once : OneAnswer Scaled (from_scale.Post tt)
from_scale_once a r s x y = by_equation
