-- No second answer meets a public function's promise. Assumes nothing.
use lib.Ieee.{Float}
use Rattle.num_working.proofs.Unique.{OneAnswer, by_equation}
use Rattle.num_roots.specs.declared.root.Exponent.{Exponent}
use Rattle.eos_constants.specs.declared.Constants.{Constants}
use Rattle.eos_constants.proofs.delta_at.Reads as delta_at
use Rattle.eos_constants.proofs.span_wagner.Reads as span_wagner
use Rattle.eos_constants.proofs.tau_at.Reads as tau_at
use Rattle.eos_constants.proofs.worked_as.Reads as worked_as

pub worked_as_once : OneAnswer Exponent (worked_as.Post tt)
worked_as_once a r s x y = by_equation

pub span_wagner_once : OneAnswer Constants (span_wagner.Post tt)
span_wagner_once a r s x y = by_equation

pub delta_at_once : OneAnswer Float (delta_at.Post tt)
delta_at_once a r s x y = by_equation

pub tau_at_once : OneAnswer Float (tau_at.Post tt)
tau_at_once a r s x y = by_equation
