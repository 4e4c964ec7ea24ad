-- RULES 3.5: what a door answers, a state or a refusal's number and nothing else. Definitions only.
use Rattle.refusal.specs.Refused.{refused}
use Rattle.std.specs.Prelude.{ℕ, Some, None, Ok, Err, Result}
use Rattle.eos_state.specs.State.{Stated}
use Rattle.eos_state.specs.declared.State.{State}
use Rattle.door_checks.specs.Check.{Check}
use Rattle.refusal.specs.declared.Refusal.{Refusal}

-- RULES 3.5: a state, or a refusal and nothing else
abbrev pub Answer : Type 0
Answer = Result State Refusal

-- a refusal, or what the steps after the check answer
abbrev pub passed : Check → Answer → Answer
passed (Err n) a = Err n
passed (Ok tt) a = a

-- RULES 4.2: a working that fails is 7
abbrev pub answer_with : Stated → Answer
answer_with None = refused 7
answer_with (Some x) = Ok x

-- the refusal's number, to be handed on; of a state 0, which is no refusal and is not handed on
abbrev pub refusal_number : Answer → ℕ
refusal_number (Err n) = n.0
refusal_number (Ok x) = 0
