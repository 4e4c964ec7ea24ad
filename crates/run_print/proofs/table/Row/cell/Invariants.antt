-- Each cell starts within the text. Assumes nothing.
use Rattle.std.proofs.Common.{◌≤◌, length}
use Rattle.run_print.proofs.table.Row.cell.Given as goal

abbrev pub invariant-loop : goal.invariant-loop
invariant-loop l = l.at ≤ length l.self.text.now
