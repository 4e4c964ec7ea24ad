-- No second answer meets a public function's promise. Assumes nothing.
use Rattle.num_working.proofs.Unique.{OneAnswer, by_equation}
use Rattle.eos_terms.specs.declared.term.Told.{Told}
use Rattle.eos_terms.proofs.term.at_density.Reads as at_density

pub at_density_once : OneAnswer Told (at_density.Post tt)
at_density_once a r s x y = by_equation
