-- No second answer meets a public function's promise. Assumes nothing.
use Rattle.num_working.proofs.Unique.{OneAnswer, by_equation}
use Rattle.eos_ideal.specs.declared.Ideal.{Ideal}
use Rattle.eos_ideal.proofs.ideal_part.Reads as ideal_part

pub ideal_part_once : OneAnswer Ideal (ideal_part.Post tt)
ideal_part_once a r s x y = by_equation
