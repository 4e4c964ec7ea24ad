-- Nothing is promised but an end: what is left of k halves. Assumes nothing.
use Prim.Native.Nat.{◌≤◌}
use Rattle.num_roots.proofs.root.about_whole_power.Given as goal

abbrev pub invariant-loop-left : goal.invariant-loop-left
invariant-loop-left l = l.left ≤ l.k

abbrev pub decreases-loop-left : goal.decreases-loop-left
decreases-loop-left l = l.left
