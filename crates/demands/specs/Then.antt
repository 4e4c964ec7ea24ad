-- Before.antt, Counts.antt and Scales.antt keep definitions word for word as they once stood. What the names in them mean today. Definitions only.
use Rattle.std.specs.Prelude.{ℕ, None, Ok, Result}
use Rattle.eos_state.specs.State.{Stated}
use Rattle.refusal.specs.Refused.{refused}
use Rattle.refusal.specs.declared.Refusal.{Refusal}
use Rattle.door_checks.specs.Check.{Check}
use Rattle.sheet_outcome.specs.Outcome.{Weighed}

-- a check
abbrev pub Passed : Check
Passed = Ok tt

abbrev pub No : ℕ → Check
No n = refused n

-- what a door answers, and what comes of a line
abbrev pub Refused : {A : Type 0} → ℕ → Result A Refusal
Refused n = refused n

-- a state that could not be worked
abbrev pub Unknown : Stated
Unknown = None

-- what came of a line, in a struct then
pub record Mark : Type 0 where
  pub weighed : Weighed

abbrev pub weighed_of : Mark → Weighed
weighed_of m = m.weighed
