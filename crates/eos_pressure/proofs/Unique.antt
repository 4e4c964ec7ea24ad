-- No second answer meets a public function's promise. Assumes nothing.
use lib.Ieee.{Float}
use Rattle.num_working.specs.Working.{Worked}
use Rattle.num_working.proofs.Unique.{OneAnswer, by_equation}
use Rattle.eos_pressure.proofs.pressure_of.Reads as pressure_of
use Rattle.eos_pressure.proofs.pressure_on.Reads as pressure_on

pub pressure_of_once : OneAnswer Float (pressure_of.Post tt)
pressure_of_once a r s x y = by_equation

pub pressure_on_once : OneAnswer Worked (pressure_on.Post tt)
pressure_on_once a r s x y = by_equation
