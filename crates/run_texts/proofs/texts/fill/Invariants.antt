-- Each addition ends within the space. Assumes nothing.
use Rattle.std.proofs.Common.{◌≤◌, length}
use Rattle.run_texts.proofs.texts.fill.Given as goal

abbrev pub invariant-loop : goal.invariant-loop
invariant-loop l = l.n ≤ length l.space
