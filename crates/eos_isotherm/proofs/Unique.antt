-- No second answer meets a public function's promise. Assumes nothing.
use Rattle.num_working.proofs.Unique.{OneAnswer, by_equation}
use Rattle.eos_isotherm.specs.declared.Isotherm.{Isotherm}
use Rattle.eos_isotherm.proofs.at_temperature.Reads as at_temperature

pub at_temperature_once : OneAnswer Isotherm (at_temperature.Post tt)
at_temperature_once a r s x y = by_equation
