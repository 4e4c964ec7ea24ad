-- No second answer meets a public function's promise. Assumes nothing.
use Rattle.num_working.proofs.Unique.{OneAnswer, by_equation}
use Rattle.num_whole.specs.Whole.{Below}
use Rattle.num_whole.proofs.whole_below.Reads as whole_below

pub whole_below_once : OneAnswer Below (whole_below.Post tt)
whole_below_once a r s x y = by_equation
