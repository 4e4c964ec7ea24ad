-- The measure is what is left of the words. Assumes nothing.
use Rattle.std.proofs.Common.{length}
use Rattle.run_print.proofs.table.names.Given as goal

abbrev pub decreases-loop-word : goal.decreases-loop-word
decreases-loop-word l = length l.rest
