-- No second answer meets a public function's promise. Assumes nothing.
use Prim.Native.Nat.{ℕ}
use Rattle.num_working.proofs.Unique.{OneAnswer, by_equation}
use Rattle.door_answers.specs.Answer.{Answer}
use Rattle.door_answers.proofs.answer_with.Reads as answer_with
use Rattle.door_answers.proofs.refusal_number.Reads as refusal_number

pub answer_with_once : OneAnswer Answer (answer_with.Post tt)
answer_with_once a r s x y = by_equation

pub refusal_number_once : OneAnswer ℕ (refusal_number.Post tt)
refusal_number_once a r s x y = by_equation
