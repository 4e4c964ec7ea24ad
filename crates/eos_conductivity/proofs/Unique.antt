-- No second answer meets a public function's promise. Assumes nothing.
use Rattle.num_working.specs.Working.{Worked}
use Rattle.num_working.proofs.Unique.{OneAnswer, by_equation}
use Rattle.eos_conductivity.proofs.background_at.Reads as background_at
use Rattle.eos_conductivity.proofs.conductivity_at.Reads as conductivity_at
use Rattle.eos_conductivity.proofs.dilute_at.Reads as dilute_at

pub conductivity_at_once : OneAnswer Worked (conductivity_at.Post tt)
conductivity_at_once a r s x y = by_equation

pub background_at_once : OneAnswer Worked (background_at.Post tt)
background_at_once a r s x y = by_equation

pub dilute_at_once : OneAnswer Worked (dilute_at.Post tt)
dilute_at_once a r s x y = by_equation
