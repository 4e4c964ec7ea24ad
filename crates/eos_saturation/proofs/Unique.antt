-- No second answer meets a public function's promise. Assumes nothing.
use Rattle.num_working.specs.Working.{Worked}
use Rattle.num_working.proofs.Unique.{OneAnswer, by_equation}
use Rattle.eos_saturation.proofs.theta_at.Reads as theta_at
use Rattle.eos_saturation.proofs.vapour_pressure.Reads as vapour_pressure

pub theta_at_once : OneAnswer Worked (theta_at.Post tt)
theta_at_once a r s x y = by_equation

pub vapour_pressure_once : OneAnswer Worked (vapour_pressure.Post tt)
vapour_pressure_once a r s x y = by_equation
