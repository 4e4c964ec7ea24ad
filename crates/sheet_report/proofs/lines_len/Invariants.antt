-- After i turns the sum is the length of the first i lines, 46 each at most. Assumes nothing.
use Rattle.std.proofs.Common.{◌≡◌, ◌+◌, ◌*◌, ◌≤◌, length}
use Rattle.sheet_report.specs.Report.{lines_bytes}
use Rattle.sheet_report.proofs.Reports.{lines_after}
use Rattle.sheet_report.proofs.lines_len.Given as goal

abbrev pub invariant-loop-i : goal.invariant-loop-i
invariant-loop-i l = record { most : l.sum ≤ 46 * l.i; sum : length (lines_bytes 1 l.marks) ≡ l.sum + length (lines_after l.i l.marks) }
