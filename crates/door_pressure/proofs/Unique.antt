-- No second answer meets a public function's promise. Assumes nothing.
use Rattle.num_working.proofs.Unique.{OneAnswer, by_equation}
use Rattle.door_answers.specs.Answer.{Answer}
use Rattle.door_pressure.proofs.from_pressure.Reads as from_pressure

pub from_pressure_once : OneAnswer Answer (from_pressure.Post tt)
from_pressure_once a r s x y = by_equation
