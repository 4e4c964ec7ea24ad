-- No second answer meets a public function's promise. Assumes nothing.
use lib.Ieee.{Float}
use Rattle.num_working.proofs.Unique.{OneAnswer, by_equation}
use Rattle.num_powers.proofs.whole_power.Reads as whole_power

pub whole_power_once : OneAnswer Float (whole_power.Post tt)
whole_power_once a r s x y = by_equation
