-- Each place below the index has its square, and the others are as they were. Assumes nothing.
use mathlib.Core.Path.{◌≡◌}
use Prim.Native.Nat.{ℕ, ◌<◌, ◌≤◌}
use lib.ListN.{length, get_or}
use lib.Ieee.{binary64, mul, nan}
use Rattle.num_exponential.proofs.lockstep.square.Given as goal

abbrev pub invariant-loop-i : goal.invariant-loop-i
invariant-loop-i l = record {
  long : length l.s ≡ 12;
  done : (k : ℕ) → k < l.i → get_or l.s k nan ≡ mul binary64 (get_or l.fn.s k nan) (get_or l.fn.s k nan);
  left : (k : ℕ) → l.i ≤ k → get_or l.s k nan ≡ get_or l.fn.s k nan;
}
