-- RULES 7: the report as bytes. Definitions only.
use Rattle.std.specs.Prelude.{ℕ, ◌+◌, ◌≤◌, ◌<◌, ◌≡◌, List, [], ◌∷◌, ◌++◌, length, Ok, Err, Result}
use Rattle.sheet_text.specs.Decimal.{decimal}
use Rattle.sheet_write.specs.Writing.{ascii, Wrote}
use Rattle.sheet_outcome.specs.Outcome.{marks_of, Weighed}
use Rattle.sheet_outcome.specs.declared.Ending.{Ending}
use Rattle.sheet_outcome.specs.declared.Outcome.{Outcome}
use Rattle.refusal.specs.declared.Refusal.{Refusal}

-- how many bytes were written
abbrev pub Written : Type 0
Written = Result ℕ Refusal

-- `M mg` or `R no`, and the line's end
unfoldable pub weighed_bytes : Weighed → List ℕ
weighed_bytes (Ok mg) = ascii "M " ++ decimal mg.0 ++ ascii "\n"
weighed_bytes (Err refusal) = ascii "R " ++ decimal refusal.0 ++ ascii "\n"

-- RULES 7.1: `L i M mg` or `L i R no`
unfoldable pub line_bytes : ℕ → Weighed → List ℕ
line_bytes i w = ascii "L " ++ decimal i ++ ascii " " ++ weighed_bytes w

-- a line for each of the marks, counted from i
unfoldable pub lines_bytes : ℕ → List Weighed → List ℕ
lines_bytes i [] = []
lines_bytes i (m ∷ ms) = line_bytes i m ++ lines_bytes (i + 1) ms

-- RULES 7.2: the last line
unfoldable pub ending_bytes : Ending → List ℕ
ending_bytes (Ending.Covered mg) = ascii "TOTAL " ++ decimal mg.0 ++ ascii " COVERED\n"
ending_bytes (Ending.Short mg) = ascii "TOTAL " ++ decimal mg.0 ++ ascii " SHORT\n"
ending_bytes (Ending.SentBack refusal) = ascii "SENT BACK " ++ decimal refusal.0 ++ ascii "\n"

-- the lines are counted from 1, and the ending stands after them
unfoldable pub report_bytes : Outcome → List ℕ
report_bytes o = lines_bytes 1 (marks_of o.marks) ++ ending_bytes o.ending

-- RULES 7.3: what a function ensures that writes the report bs into the lent output o, which becomes xs
-- where bs fits, it lies over the front of o; where it doesn't, the answer is 15 and every byte stays as it was
-- no report is longer than 32 lines of 46 bytes and an ending of 40
abbrev pub ReportIs : List ℕ → List ℕ → List ℕ → Written → Type 0
ReportIs o xs bs (Ok r) = Wrote o xs r bs × (length bs ≤ length o)
ReportIs o xs bs (Err n) = (n.0 ≡ 15) × (xs ≡ o) × (length o < length bs) × (length bs ≤ 1512)
