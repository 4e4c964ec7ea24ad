-- RULES 12: what a caller in another language gets of a report: a number back, and bytes in what it lent. Definitions only.
use Rattle.std.specs.Prelude.{ℕ, List}
use Rattle.sheet_write.specs.Writing.{Fitted}

-- the report bs: its length, and its bytes over the front of the output; or 0 where it doesn't fit, and the output stays
abbrev pub ReportedIn : List ℕ → List ℕ → List ℕ → ℕ → Type 0
ReportedIn = Fitted
