-- Each turn of the loop is a turn of the definition; l.n is 1 above the turns that are left. Assumes nothing.
use mathlib.Core.Path.{◌≡◌}
use Prim.Native.Nat.{◌≤◌, ◌-◌}
use Rattle.num_working.specs.Working.{checked}
use Rattle.num_exponential.specs.Exponential.{squared}
use Rattle.num_exponential.proofs.exponential.squared.Given as goal

abbrev pub invariant-loop-n : goal.invariant-loop-n
invariant-loop-n l = (1 ≤ l.n) × (squared 10 (checked l.fn.s) ≡ squared (l.n - 1) (checked l.s))
