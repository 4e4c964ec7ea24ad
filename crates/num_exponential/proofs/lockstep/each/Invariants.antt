-- Each place below i has an answer of f. Assumes nothing.
use mathlib.Core.Path.{◌≡◌}
use Prim.Native.Nat.{ℕ, ◌<◌}
use lib.ListN.{length, get_or}
use lib.Ieee.{nan}
use Rattle.num_exponential.proofs.lockstep.each.Given as goal

abbrev pub invariant-loop-i : goal.invariant-loop-i
invariant-loop-i g l = record {
  long : length l.r ≡ g.row.N;
  done : (k : ℕ) → k < l.i → k < g.row.N → goal.F-post g l.f (get_or l.x k nan) (get_or l.r k nan);
}
