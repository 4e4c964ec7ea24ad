-- The lines that were passed are in the form, and the first that can't be read isn't. Assumes nothing.
use Rattle.std.proofs.Common.{◌-◌, length}
use Rattle.desk_form.proofs.Turns.{Passed}
use Rattle.desk_form.proofs.wrong.first_wrong.Given as goal

abbrev pub invariant-loop-from : goal.invariant-loop-from
invariant-loop-from l = Passed l.s l.line l.from

abbrev pub decreases-loop-from : goal.decreases-loop-from
decreases-loop-from l = length l.s - l.from
