-- No second answer meets a public function's promise. Assumes nothing.
use Rattle.num_working.proofs.Unique.{OneAnswer, by_equation}
use Rattle.door_conductivity.specs.Conducted.{Conducted}
use Rattle.door_conductivity.proofs.with_conductivity.Reads as with_conductivity

pub with_conductivity_once : OneAnswer Conducted (with_conductivity.Post tt)
with_conductivity_once a r s x y = by_equation
