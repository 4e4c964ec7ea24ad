-- No second answer meets a public function's promise. Assumes nothing.
use Rattle.num_working.proofs.Unique.{OneAnswer, by_equation}
use Rattle.eos_state.specs.State.{Stated}
use Rattle.eos_state.proofs.state_on.Reads as state_on

pub state_on_once : OneAnswer Stated (state_on.Post tt)
state_on_once a r s x y = by_equation
