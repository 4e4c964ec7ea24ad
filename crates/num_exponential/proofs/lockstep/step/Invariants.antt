-- Each place below i has its step. Assumes nothing.
use mathlib.Core.Path.{◌≡◌}
use Prim.Native.Nat.{ℕ, ◌<◌}
use lib.ListN.{length, get_or}
use lib.Ieee.{nan}
use Rattle.num_exponential.specs.Lockstep.{turn}
use Rattle.num_exponential.proofs.lockstep.step.Given as goal

abbrev pub invariant-loop-i : goal.invariant-loop-i
invariant-loop-i l = record {
  long : length l.r ≡ 12;
  done : (k : ℕ) → k < l.i → get_or l.r k nan ≡ turn l.h (get_or l.q k nan) (get_or l.s k nan);
}
