-- No second answer meets a public function's promise. Assumes nothing.
use Prim.Native.Nat.{ℕ}
use Rattle.num_working.proofs.Unique.{OneAnswer, by_equation}
use Rattle.door_checks.specs.Check.{Check}
use Rattle.door_checks.proofs.in_range.Reads as in_range
use Rattle.door_checks.proofs.not_solid.Reads as not_solid
use Rattle.door_checks.proofs.number_of.Reads as number_of
use Rattle.door_checks.proofs.out_of_box.Reads as out_of_box

pub in_range_once : OneAnswer Check (in_range.Post tt)
in_range_once a r s x y = by_equation

pub not_solid_once : OneAnswer Check (not_solid.Post tt)
not_solid_once a r s x y = by_equation

pub out_of_box_once : OneAnswer Check (out_of_box.Post tt)
out_of_box_once a r s x y = by_equation

pub number_of_once : OneAnswer ℕ (number_of.Post tt)
number_of_once a r s x y = by_equation
