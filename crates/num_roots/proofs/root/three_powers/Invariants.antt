-- Each of the three is the i-th whole power of its float, and the loop ends at k. Assumes nothing.
use mathlib.Core.Path.{◌≡◌}
use Prim.Native.Nat.{ℕ}
use lib.Ieee.{Float}
use Rattle.num_powers.specs.Power.{power}
use Rattle.num_roots.proofs.root.three_powers.Given as goal

pub record Raised (x y z : Float) (i : ℕ) (below here above : Float) : Type 0 where
  pub first : below ≡ power x i
  pub second : here ≡ power y i
  pub third : above ≡ power z i

abbrev pub invariant-loop-i : goal.invariant-loop-i
invariant-loop-i l = Raised l.x l.y l.z l.i l.below l.here l.above
