-- RULES 13: what the program's functions promise. No contract can say which bytes are read from a file or written to one; these say that what lies between
-- is the report. Definitions only.
use Rattle.std.specs.Prelude.{ℕ, ◌≤◌, ◌≡◌, List, length, take, Result, Ok, Err}
use Rattle.std.specs.declared.io.Error.{Error}
use Rattle.door_limits.specs.Limits.{document01}
use Rattle.sheet_write.specs.Writing.{Wrote}
use Rattle.sheet_read.specs.Form.{in_form}
use Rattle.sheet_score.specs.Score.{report}

-- what was read is at the front of the lent space
abbrev pub ReadInto : List ℕ → Result ℕ Error → Type 0
ReadInto space (Ok n) = n ≤ length space
ReadInto space (Err e) = Unit {0}

-- the text's report is at the front of the output, which was o, and its length is long
pub record Reports (text o out : List ℕ) (long : ℕ) : Type 0 where
  pub wrote : Wrote o out long (report document01 (in_form text))
  pub fits : long ≤ length out

-- what was read is at the front of the lent space, and its report at the front of the output
abbrev pub Scores : List ℕ → List ℕ → List ℕ → Result (ℕ × ℕ) Error → Type 0
Scores space o out (Ok (n, long)) = (n ≤ length space) × Reports (take n space) o out long
Scores space o out (Err e) = out ≡ o
