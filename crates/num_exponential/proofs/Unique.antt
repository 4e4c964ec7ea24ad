-- No second answer meets a public function's promise. Assumes nothing.
use mathlib.Core.Bool.{Bool}
use Rattle.num_working.specs.Working.{Worked}
use Rattle.num_working.proofs.Unique.{OneAnswer, by_equation}
use Rattle.num_exponential.specs.Exponential.{Raised}
use Rattle.std.specs.Prelude.{List, Float}
use Rattle.num_exponential.proofs.decay.falls.Reads as falls
use Rattle.num_exponential.proofs.decay.twelve_decays.Reads as twelve_decays
use Rattle.num_exponential.proofs.exponential.answer_alone.Reads as answer_alone
use Rattle.num_exponential.proofs.exponential.exponential.Reads as exponential

pub exponential_once : OneAnswer Raised (exponential.Post tt)
exponential_once a r s x y = by_equation

pub answer_alone_once : OneAnswer Worked (answer_alone.Post tt)
answer_alone_once a r s x y = by_equation

pub falls_once : OneAnswer Bool (falls.Post tt)
falls_once a r s x y = by_equation

pub twelve_decays_once : OneAnswer (List Float) (twelve_decays.Post tt)
twelve_decays_once a r s x y = by_equation
