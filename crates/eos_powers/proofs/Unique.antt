-- No second answer meets a public function's promise. Assumes nothing.
use mathlib.Core.List.{List}
use lib.Ieee.{Float}
use Rattle.num_working.proofs.Unique.{OneAnswer, by_equation}
use Rattle.eos_powers.proofs.powers_to_3.Reads as powers_to_3
use Rattle.eos_powers.proofs.powers_to_10.Reads as powers_to_10
use Rattle.eos_powers.proofs.powers_to_28.Reads as powers_to_28

pub powers_to_3_once : OneAnswer (List Float) (powers_to_3.Post tt)
powers_to_3_once a r s x y = by_equation

pub powers_to_10_once : OneAnswer (List Float) (powers_to_10.Post tt)
powers_to_10_once a r s x y = by_equation

pub powers_to_28_once : OneAnswer (List Float) (powers_to_28.Post tt)
powers_to_28_once a r s x y = by_equation
