-- No second answer meets a public function's promise. Assumes nothing.
use Rattle.num_working.specs.Working.{Worked}
use Rattle.num_working.proofs.Unique.{OneAnswer, by_equation}
use Rattle.eos_melting.proofs.melting_pressure.Reads as melting_pressure

pub melting_pressure_once : OneAnswer Worked (melting_pressure.Post tt)
melting_pressure_once a r s x y = by_equation
