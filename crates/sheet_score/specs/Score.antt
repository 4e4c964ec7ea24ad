-- RULES 3.4, 7.1 and 7.2: a sheet's report. Definitions only.
use Rattle.std.specs.Prelude.{ℕ, true, List, ◌++◌, map, length, Ok, Err, Option, Some, None}
use Rattle.door_limits.specs.declared.Limits.{Limits}
use Rattle.sheet_line.specs.Line.{line_of}
use Rattle.sheet_read.specs.Form.{Bank}
use Rattle.sheet_outcome.specs.Outcome.{admitted, total, ending, Admitted, Weighed}
use Rattle.sheet_outcome.specs.declared.Ending.{Ending}
use Rattle.sheet_weigh.specs.Sheet.{marked}
use Rattle.sheet_report.specs.Report.{lines_bytes, ending_bytes}

-- `SENT BACK` and a number: with 10, 11, 12 or 14 the only line of the report
abbrev pub sent_back : ℕ → List ℕ
sent_back number = ending_bytes (Ending.SentBack (record { 0 = number }))

-- a line for each cylinder, and then the ending
abbrev pub listed : Admitted → List Weighed → List ℕ
listed (Err refusal) ms = sent_back refusal.0
listed (Ok mg) ms = lines_bytes 1 ms ++ ending_bytes (ending mg (total ms))

-- of a text, from what it says
unfoldable pub report : Limits → Option Bank → List ℕ
report L None = sent_back 14
report L (Some b) = listed (admitted true (length b.cylinders) b.need) (marked L (map line_of b.cylinders))
