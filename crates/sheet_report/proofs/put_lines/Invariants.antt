-- After i turns the first i lines lie over the output, and each turn puts the next where they end. Assumes nothing.
use Rattle.sheet_report.proofs.Reports.{Turn}
use Rattle.sheet_report.proofs.put_lines.Given as goal

abbrev pub invariant-loop-i : goal.invariant-loop-i
invariant-loop-i l = Turn l.initial.out l.marks l.out l.at l.i
