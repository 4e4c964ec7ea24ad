-- No second answer meets a public function's promise. Assumes nothing.
use Rattle.num_working.proofs.Unique.{OneAnswer, by_equation}
use Rattle.door_answers.specs.Answer.{Answer}
use Rattle.door_density.proofs.from_density.Reads as from_density

pub from_density_once : OneAnswer Answer (from_density.Post tt)
from_density_once a r s x y = by_equation
