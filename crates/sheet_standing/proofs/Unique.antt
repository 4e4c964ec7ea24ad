-- No second answer meets a public function's promise. Assumes nothing.
use Prim.Native.Nat.{ℕ}
use contract.Lifetimes.{Lfts}
use Rattle.num_working.proofs.Unique.{OneAnswer, by_equation}
use Rattle.door_checks.specs.Check.{Check}
use Rattle.sheet_standing.proofs.standing_of.Reads as standing_of
use Rattle.sheet_standing.proofs.first_with.Reads as first_with

pub standing_of_once : (κs : Lfts 1) → OneAnswer Check (standing_of.Post κs)
standing_of_once κs a r s x y = by_equation

pub first_with_once : OneAnswer ℕ (first_with.Post tt)
first_with_once a r s x y = by_equation
