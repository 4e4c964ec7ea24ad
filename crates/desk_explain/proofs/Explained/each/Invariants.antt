-- Each turn comes further in the text, and no more lines are counted than bytes passed. Assumes nothing.
use Rattle.std.proofs.Common.{◌-◌, ◌≤◌, length}
use Rattle.desk_explain.proofs.Explained.each.Given as goal

abbrev pub invariant-loop-told : goal.invariant-loop-told
invariant-loop-told g l =
    goal.F-IsAlwaysCallable g l.with × (1 ≤ l.i) × (l.i ≤ l.at) × (l.at ≤ length l.self.text.now)

abbrev pub decreases-loop-told : goal.decreases-loop-told
decreases-loop-told g l = length l.self.text.now - l.at
