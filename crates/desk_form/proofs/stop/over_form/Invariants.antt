-- The place only goes up. Assumes nothing.
use Rattle.std.proofs.Common.{◌≤◌}
use Rattle.desk_form.proofs.stop.over_form.Given as goal

abbrev pub invariant-loop-k : goal.invariant-loop-k
invariant-loop-k l = l.from ≤ l.at
