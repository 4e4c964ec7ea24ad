-- No second answer meets a public function's promise. Assumes nothing.
use Rattle.num_working.proofs.Unique.{OneAnswer, by_equation}
use Rattle.door_saturation.specs.Saturation.{Saturated}
use Rattle.door_saturation.proofs.saturated_at.Reads as saturated_at

pub saturated_at_once : OneAnswer Saturated (saturated_at.Post tt)
saturated_at_once a r s x y = by_equation
