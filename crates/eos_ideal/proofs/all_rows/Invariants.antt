-- The sums so far are those of the rows so far. Assumes nothing.
use mathlib.Core.Path.{◌≡◌}
use lib.ListN.{take}
use Rattle.eos_ideal.proofs.Rows.{sums_of}
use Rattle.eos_ideal.proofs.all_rows.Given as goal

abbrev pub invariant-loop-row : goal.invariant-loop-row
invariant-loop-row l = l.sums ≡ sums_of l.tau (take l.row-index l.row-items)
