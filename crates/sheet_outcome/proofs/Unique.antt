-- No second answer meets a public function's promise. Assumes nothing.
use Rattle.num_working.proofs.Unique.{OneAnswer, by_equation}
use Rattle.sheet_outcome.specs.Outcome.{Admitted}
use Rattle.sheet_outcome.specs.declared.Ending.{Ending}
use Rattle.sheet_outcome.proofs.admit.Reads as admit
use Rattle.sheet_outcome.proofs.conclude.Reads as conclude

pub admit_once : OneAnswer Admitted (admit.Post tt)
admit_once a r s x y = by_equation

pub conclude_once : OneAnswer Ending (conclude.Post tt)
conclude_once a r s x y = by_equation
